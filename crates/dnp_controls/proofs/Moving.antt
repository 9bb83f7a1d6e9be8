-- What calls make of a book, one after another.
use Rattle.std.proofs.Common.{◌≡◌, ℕ, zero, suc, ◌+◌, ◌<◌, ◌≤◌, Bool, true, false, not, List, [], ◌∷◌, ◌++◌, length, length-append, get_or, refl, ap, sym, ◌∙◌, arith, subst}
use Rattle.std.specs.Prelude.{⊤, Ok, Option, Some, None, eqb, cond, IsTrue, MatchOption, ◌&&◌, count_by, option_map, All, AllPairs}
use Rattle.std.specs.Option.{option_or, IsSomeAnd}
use Rattle.std.proofs.lemmas.List.Folds.{find-append}
use Rattle.std.proofs.lemmas.List.Elements.{All-cons, All-nil, All-push, All-weaker, Contains-append_left, Contains-append_right, Contains-get_or}
use Rattle.std.proofs.lemmas.List.{length-map}
use Rattle.std.proofs.lemmas.List.Quantifiers.{all_pairs_push}
use Rattle.std.proofs.lemmas.List.Sums.{sum_by-cons}
use Rattle.std.proofs.lemmas.Bool.Decides.{Decides-eqb}
use Rattle.dnp_objects.specs.declared.command.Command.{Command}
use Rattle.dnp_controls.specs.declared.book.Entry.{Entry}
use Rattle.dnp_controls.specs.declared.book.State.{State}
use Rattle.dnp_controls.specs.declared.book.State.TheVariants.{Pending, Spent, Finished}
use Rattle.dnp_controls.specs.Book.{Ledger, AreNumberedFrom, IsSoundLedger, Has, entry_of, next_of, added, in_state, spent, finished, is_pending, is_finished}
use Rattle.dnp_controls.specs.Calls.{IsBookCall}
use Rattle.dnp_controls.specs.Moves.{Move, Add, Spend, Finish, IsGranted, moved, AreGranted, after, is_spend_of, IsNext, HasNoNext}
use Rattle.dnp_controls.proofs.Numbered.{with_state, numbered-push, in_state-numbered}

-- ---- a call of a book in memory that is granted

pub granted_call : {Book Answer : Type 0} (contents : Book → Ledger) (old new : Book) (answer : Answer) → IsSoundLedger (contents new)
    → IsBookCall (λ _. ⊤) (λ _. false) contents old new (Ok answer)
granted_call contents old new answer sound = record {
  held = λ h. h;
  serves = λ _. refl;
  sound = λ _. sound;
  beside = λ _. tt;
  unchanged = λ _. tt;
  device_stops = λ device. cc;
  runs_on = λ _. refl;
  stays = λ stopped _. cc;
}

-- ---- one entry, when another one or itself comes into a state

head-id : (b : Bool) (entry : Entry) (state : State) → (cond b (with_state entry state) entry).id ≡ entry.id
head-id true entry state = refl
head-id false entry state = refl

entry_of-in_state-same : (entries : List Entry) (id : ℕ) (state : State)
    → entry_of (in_state entries id state) id ≡ option_map (λ entry. with_state entry state) (entry_of entries id)
entry_of-in_state-same [] id state = refl
entry_of-in_state-same (entry ∷ entries) id state =
    ap (λ n. cond (eqb n id) (Some (cond (eqb entry.id id) (with_state entry state) entry)) (entry_of (in_state entries id state) id)) (head-id (eqb entry.id id) entry state)
    ∙ go (eqb entry.id id) (entry_of-in_state-same entries id state)
  where
    go : (b : Bool) → entry_of (in_state entries id state) id ≡ option_map (λ e. with_state e state) (entry_of entries id)
        → cond b (Some (cond b (with_state entry state) entry)) (entry_of (in_state entries id state) id) ≡ option_map (λ e. with_state e state) (cond b (Some entry) (entry_of entries id))
    go true rest = refl
    go false rest = rest

entry_of-in_state-other : (entries : List Entry) (other id : ℕ) (state : State) → (other ≡ id → ⊥)
    → entry_of (in_state entries other state) id ≡ entry_of entries id
entry_of-in_state-other [] other id state ne = refl
entry_of-in_state-other (entry ∷ entries) other id state ne =
    ap (λ n. cond (eqb n id) (Some (cond (eqb entry.id other) (with_state entry state) entry)) (entry_of (in_state entries other state) id)) (head-id (eqb entry.id other) entry state)
    ∙ go (eqb entry.id other) (eqb entry.id id) (Decides-eqb entry.id other).0 (Decides-eqb entry.id id).0 (entry_of-in_state-other entries other id state ne)
  where
    go : (a b : Bool) → (a ≡ true → entry.id ≡ other) → (b ≡ true → entry.id ≡ id) → entry_of (in_state entries other state) id ≡ entry_of entries id
        → cond b (Some (cond a (with_state entry state) entry)) (entry_of (in_state entries other state) id) ≡ cond b (Some entry) (entry_of entries id)
    go true true is_other is_id rest = absurd (ne (sym (is_other refl) ∙ is_id refl))
    go true false is_other is_id rest = rest
    go false true is_other is_id rest = refl
    go false false is_other is_id rest = rest

entry_of-push : (entries : List Entry) (new : Entry) (id : ℕ) → entry_of (entries ++ new ∷ []) id ≡ option_or (entry_of entries id) (entry_of (new ∷ []) id)
entry_of-push entries new id = find-append (λ entry. eqb entry.id id) entries (new ∷ [])

-- ---- what holds of an entry's state

-- the entry is there, and its state passes
abbrev Passes : Option Entry → (State → Bool) → Type 0
Passes o test = IsSomeAnd o (λ entry. IsTrue (test entry.state))

has-push : (entries : List Entry) (new : Entry) (id : ℕ) (test : State → Bool) → Has entries id test → Has (entries ++ new ∷ []) id test
has-push entries new id test has =
    let P : Option Entry → Type 0 = λ o. Passes o test in
    subst P (sym (entry_of-push entries new id)) (go (entry_of entries id) _ has)
  where
    go : (o p : Option Entry) → Passes o test → Passes (option_or o p) test
    go None p has = absurd has
    go (Some entry) p has = has

has-set : (entries : List Entry) (id : ℕ) (state : State) (before after' : State → Bool) → Has entries id before → after' state ≡ true
    → Has (in_state entries id state) id after'
has-set entries id state before after' has passes =
    let P : Option Entry → Type 0 = λ o. Passes o after' in
    subst P (sym (entry_of-in_state-same entries id state)) (go (entry_of entries id) has)
  where
    go : (o : Option Entry) → Passes o before → Passes (option_map (λ entry. with_state entry state) o) after'
    go None has = absurd has
    go (Some entry) has = passes

has-other : (entries : List Entry) (other id : ℕ) (state : State) (test : State → Bool) → (other ≡ id → ⊥) → Has entries id test
    → Has (in_state entries other state) id test
has-other entries other id state test ne has =
    let P : Option Entry → Type 0 = λ o. Passes o test in
    subst P (sym (entry_of-in_state-other entries other id state ne)) has

-- an entry does not pass a test and its opposite
has-both : (entries : List Entry) (id : ℕ) (test : State → Bool) → Has entries id test → Has entries id (λ state. not (test state)) → ⊥
has-both entries id test has has_not = go (entry_of entries id) has has_not
  where
    go : (o : Option Entry) → Passes o test → Passes o (λ state. not (test state)) → ⊥
    go None has has_not = has
    go (Some entry) has has_not = both (test entry.state) has has_not
      where
        both : (b : Bool) → b ≡ true → not b ≡ true → ⊥
        both true p q = cc
        both false p q = cc

-- ---- an entry that is past pending

abbrev IsPast : List Entry → ℕ → Type 0
IsPast entries id = Has entries id (λ state. not (is_pending state))

past-in_state : (entries : List Entry) (other id : ℕ) (state : State) (before : State → Bool) → is_pending state ≡ false → Has entries other before
    → IsPast entries id → IsPast (in_state entries other state) id
past-in_state entries other id state before done has past = go (eqb other id) (Decides-eqb other id)
  where
    go : (b : Bool) → (b ≡ true → other ≡ id) × (other ≡ id → b ≡ true) → IsPast (in_state entries other state) id
    go true decides =
        let P : ℕ → Type 0 = λ k. Has (in_state entries other state) k (λ s. not (is_pending s)) in
        subst P (decides.0 refl) (has-set entries other state before (λ s. not (is_pending s)) has (ap not done))
    go false decides = has-other entries other id state (λ s. not (is_pending s)) (λ e. let h : false ≡ true = decides.1 e in cc) past

past-moved : (book : Ledger) (move : Move) (id : ℕ) → IsGranted book move → IsPast book.entries id → IsPast (moved book move).entries id
past-moved book (Add target command) id granted past = has-push book.entries _ id (λ s. not (is_pending s)) past
past-moved book (Spend other) id granted past = past-in_state book.entries other id Spent is_pending refl granted past
past-moved book (Finish other status) id granted past = past-in_state book.entries other id (Finished status) (λ s. not (is_finished s)) refl granted past

-- how often an entry is spent by one call and those after it
spends-cons : (id : ℕ) (move : Move) (moves : List Move)
    → count_by (is_spend_of id) (move ∷ moves) ≡ cond (is_spend_of id move) 1 0 + count_by (is_spend_of id) moves
spends-cons id move moves = sum_by-cons (λ m. cond (is_spend_of id m) 1 0) move moves

-- it is spent by none of the calls
spends-none : (book : Ledger) (moves : List Move) (id : ℕ) → AreGranted book moves → IsPast book.entries id → count_by (is_spend_of id) moves ≡ 0
spends-none book [] id granted past = refl
spends-none book (move ∷ moves) id granted past =
    let rest : count_by (is_spend_of id) moves ≡ 0 = spends-none (moved book move) moves id granted.1 (past-moved book move id granted.0 past) in
    let this : is_spend_of id move ≡ false = not-this book move id granted.0 past in
    spends-cons id move moves ∙ ap (λ b. cond b 1 0 + count_by (is_spend_of id) moves) this ∙ (let h : 0 + count_by (is_spend_of id) moves ≡ 0 = omega arith in h)
  where
    not-this : (book : Ledger) (move : Move) (id : ℕ) → IsGranted book move → IsPast book.entries id → is_spend_of id move ≡ false
    not-this book (Add target command) id granted past = refl
    not-this book (Finish other status) id granted past = refl
    not-this book (Spend other) id granted past = go (eqb other id) (Decides-eqb other id).0
      where
        go : (b : Bool) → (b ≡ true → other ≡ id) → b ≡ false
        go true same = let P : ℕ → Type 0 = λ k. Has book.entries k is_pending in absurd (has-both book.entries id is_pending (subst P (same refl) granted) past)
        go false same = refl

-- an entry is spent by at most one of the calls
pub spends-once : (book : Ledger) (moves : List Move) (id : ℕ) → AreGranted book moves → count_by (is_spend_of id) moves ≤ 1
spends-once book [] id granted = omega arith
spends-once book (Add target command ∷ moves) id granted =
    let rest = spends-once (added book target command) moves id granted.1 in omega (arith, rest, spends-cons id (Add target command) moves)
spends-once book (Finish other status ∷ moves) id granted =
    let rest = spends-once (finished book other status) moves id granted.1 in omega (arith, rest, spends-cons id (Finish other status) moves)
spends-once book (Spend other ∷ moves) id granted =
    let here : cond (eqb other id) 1 0 + count_by (is_spend_of id) moves ≤ 1 =
    go (eqb other id) (Decides-eqb other id).0 (spends-once (spent book other) moves id granted.1) in
    let P : ℕ → Type 0 = λ n. n ≤ 1 in
    subst P (sym (spends-cons id (Spend other) moves)) here
  where
    go : (b : Bool) → (b ≡ true → other ≡ id) → count_by (is_spend_of id) moves ≤ 1 → cond b 1 0 + count_by (is_spend_of id) moves ≤ 1
    go true same rest =
        let P : ℕ → Type 0 = λ k. Has (spent book other).entries k (λ s. not (is_pending s)) in
        let none : count_by (is_spend_of id) moves ≡ 0 =
        spends-none (spent book other) moves id granted.1 (subst P (same refl) (has-set book.entries other Spent is_pending (λ s. not (is_pending s)) granted.0 refl)) in
        omega (arith, none)
    go false same rest = omega (arith, rest)

-- ---- an entry that is finished

finished-moved : (book : Ledger) (move : Move) (id : ℕ) (entry : Entry) → IsGranted book move → entry_of book.entries id ≡ Some entry
    → is_finished entry.state ≡ true
    → entry_of (moved book move).entries id ≡ Some entry
finished-moved book (Add target command) id entry granted is done =
    entry_of-push book.entries _ id ∙ ap (λ o. option_or o (entry_of (record { id = book.last_id + 1; target = target; command = command; state = Pending } ∷ []) id)) is
finished-moved book (Spend other) id entry granted is done = go (eqb other id) (Decides-eqb other id)
  where
    pending-not : (state : State) → is_pending state ≡ true → is_finished state ≡ true → ⊥
    pending-not Pending p q = cc
    pending-not Spent p q = cc
    pending-not (Finished status) p q = cc

    go : (b : Bool) → (b ≡ true → other ≡ id) × (other ≡ id → b ≡ true) → entry_of (spent book other).entries id ≡ Some entry
    go true decides =
        let P : ℕ → Type 0 = λ k. Has book.entries k is_pending in
        let Q : Option Entry → Type 0 = λ o. Passes o is_pending in
        absurd (pending-not entry.state (subst Q is (subst P (decides.0 refl) granted)) done)
    go false decides = entry_of-in_state-other book.entries other id Spent (λ e. let h : false ≡ true = decides.1 e in cc) ∙ is
finished-moved book (Finish other status) id entry granted is done = go (eqb other id) (Decides-eqb other id)
  where
    not-both : (b : Bool) → not b ≡ true → b ≡ true → ⊥
    not-both true p q = cc
    not-both false p q = cc

    go : (b : Bool) → (b ≡ true → other ≡ id) × (other ≡ id → b ≡ true) → entry_of (finished book other status).entries id ≡ Some entry
    go true decides =
        let P : ℕ → Type 0 = λ k. Has book.entries k (λ s. not (is_finished s)) in
        let Q : Option Entry → Type 0 = λ o. Passes o (λ s. not (is_finished s)) in
        absurd (not-both (is_finished entry.state) (subst Q is (subst P (decides.0 refl) granted)) done)
    go false decides = entry_of-in_state-other book.entries other id (Finished status) (λ e. let h : false ≡ true = decides.1 e in cc) ∙ is

-- a finished entry stays as it is
pub finished-stays : (book : Ledger) (moves : List Move) (id : ℕ) (entry : Entry) → AreGranted book moves → entry_of book.entries id ≡ Some entry
    → is_finished entry.state ≡ true
    → entry_of (after book moves).entries id ≡ Some entry
finished-stays book [] id entry granted is done = is
finished-stays book (move ∷ moves) id entry granted is done =
    finished-stays (moved book move) moves id entry granted.1 (finished-moved book move id entry granted.0 is done) done

-- ---- the ids

in_state-at : (entries : List Entry) (id : ℕ) (state : State) (k : ℕ) (d : Entry) → k < length (in_state entries id state)
    → (get_or (in_state entries id state) k d).id ≡ (get_or entries k d).id
in_state-at [] id state k d low = absurd (omega arith)
in_state-at (entry ∷ entries) id state zero d low = head-id (eqb entry.id id) entry state
in_state-at (entry ∷ entries) id state (suc k) d low = in_state-at entries id state k d (omega arith)

sound-in_state : (book : Ledger) (id : ℕ) (state : State) → IsSoundLedger book → IsSoundLedger (record book { entries = in_state book.entries id state })
sound-in_state book id state sound =
    let same : length (in_state book.entries id state) ≡ length book.entries = simp length-map refl in
    let at = in_state-at book.entries id state in
    record {
      rising = λ i j d before low. let h = sound.rising i j d before (omega arith) in let e = at i d (omega arith) in let f = at j d low in omega arith;
      from_1 = λ i d low. let h = sound.from_1 i d (omega arith) in let e = at i d low in omega arith;
      up_to_last = λ i d low. let h = sound.up_to_last i d (omega arith) in let e = at i d low in omega arith;
    }

sound-added : (book : Ledger) (target : ℕ) (command : Command) → IsSoundLedger book → IsSoundLedger (added book target command)
sound-added book target command sound =
    let new : Entry = record { id = book.last_id + 1; target = target; command = command; state = Pending } in
    record {
      rising = all_pairs_push (λ x y. x.id < y.id) book.entries new sound.rising (λ k d low. let h = sound.up_to_last k d low in omega arith);
      from_1 = All-push (λ x. 1 ≤ x.id) book.entries new sound.from_1 (omega arith);
      up_to_last = All-push (λ x. x.id ≤ book.last_id + 1) book.entries new (All-weaker (λ x. x.id ≤ book.last_id) (λ x. x.id ≤ book.last_id + 1) (λ x h. omega arith) book.entries sound.up_to_last) (omega arith);
    }

pub sound-after : (book : Ledger) (moves : List Move) → IsSoundLedger book → IsSoundLedger (after book moves)
sound-after book [] sound = sound
sound-after book (Add target command ∷ moves) sound = sound-after (added book target command) moves (sound-added book target command sound)
sound-after book (Spend id ∷ moves) sound = sound-after (spent book id) moves (sound-in_state book id Spent sound)
sound-after book (Finish id status ∷ moves) sound = sound-after (finished book id status) moves (sound-in_state book id (Finished status) sound)

-- ids without a gap: 1, 2, 3 and so on up to the last one used
pub record IsWithoutGap (book : Ledger) : Type 0 where
  pub numbered : AreNumberedFrom 1 book.entries
  pub counted : book.last_id ≡ length book.entries

pub without_gap-after : (book : Ledger) (moves : List Move) → IsWithoutGap book → IsWithoutGap (after book moves)
without_gap-after book [] h = h
without_gap-after book (Add target command ∷ moves) h =
    let new : Entry = record { id = book.last_id + 1; target = target; command = command; state = Pending } in
    let counted = h.counted in
    without_gap-after (added book target command) moves (record {
      numbered = numbered-push book.entries 1 new h.numbered (omega arith);
      counted = omega (arith, length-append book.entries (new ∷ []));
    })
without_gap-after book (Spend id ∷ moves) h =
    without_gap-after (spent book id) moves (record { numbered = in_state-numbered book.entries 1 id Spent h.numbered; counted = simp length-map h.counted })
without_gap-after book (Finish id status ∷ moves) h =
    without_gap-after (finished book id status) moves (record { numbered = in_state-numbered book.entries 1 id (Finished status) h.numbered; counted = simp length-map h.counted })

-- ids that are 1, 2, 3 and so on rise
id_at : (entries : List Entry) (first i : ℕ) (d : Entry) → AreNumberedFrom first entries → i < length entries → (get_or entries i d).id ≡ first + i
id_at [] first i d numbered low = absurd (omega arith)
id_at (e ∷ es) first zero d numbered low = let h : e.id ≡ first = numbered.0 in omega (arith, h)
id_at (e ∷ es) first (suc i) d numbered low = let h = id_at es (first + 1) i d numbered.1 (omega arith) in omega (arith, h)

pub sound_numbered : (entries : List Entry) → AreNumberedFrom 1 entries → IsSoundLedger (record { entries = entries; last_id = length entries })
sound_numbered entries numbered = record {
  rising = λ i j d before low. omega (arith, id_at entries 1 i d numbered (omega arith), id_at entries 1 j d numbered low);
  from_1 = λ i d low. omega (arith, id_at entries 1 i d numbered low);
  up_to_last = λ i d low. omega (arith, id_at entries 1 i d numbered low);
}

-- ---- the next entry

-- the first id is the least one
ids-from : (entry : Entry) (entries : List Entry) → AllPairs (λ x y. x.id < y.id) (entry ∷ entries) → All (λ e. entry.id ≤ e.id) (entry ∷ entries)
ids-from entry entries rising zero d low = omega arith
ids-from entry entries rising (suc k) d low = let h : entry.id < (get_or entries k d).id = rising zero (suc k) d (omega arith) low in omega arith

-- no pending entry is for the target but perhaps after the first one
behind : (entry : Entry) (entries : List Entry) (target : ℕ) (o : Option Entry) → (is_pending entry.state ≡ true → entry.target ≡ target → ⊥)
    → MatchOption o (HasNoNext entries target) (IsNext entries target) → MatchOption o (HasNoNext (entry ∷ entries) target) (IsNext (entry ∷ entries) target)
behind entry entries target None not_this rest = All-cons (λ e. is_pending e.state ≡ true → e.target ≡ target → ⊥) entry entries not_this rest
behind entry entries target (Some e) not_this rest = record {
  contained = Contains-append_right (entry ∷ []) entries e rest.contained;
  pending = rest.pending;
  target_is = rest.target_is;
  least = All-cons (λ other. is_pending other.state ≡ true → other.target ≡ target → e.id ≤ other.id) entry entries (λ p t. absurd (not_this p t)) rest.least;
}

-- the next entry is the pending one of the least id for the target
pub next-is-least : (entries : List Entry) (target : ℕ) → AllPairs (λ x y. x.id < y.id) entries
    → MatchOption (next_of entries target) (HasNoNext entries target) (IsNext entries target)
next-is-least [] target rising = All-nil (λ other. is_pending other.state ≡ true → other.target ≡ target → ⊥)
next-is-least (entry ∷ entries) target rising =
    go (is_pending entry.state) (eqb entry.target target) refl (Decides-eqb entry.target target) (next-is-least entries target (λ i j d before low. rising (suc i) (suc j) d (omega arith) (omega arith)))
  where
    go : (a b : Bool) → is_pending entry.state ≡ a → (b ≡ true → entry.target ≡ target) × (entry.target ≡ target → b ≡ true)
        → MatchOption (next_of entries target) (HasNoNext entries target) (IsNext entries target)
        → MatchOption (cond (a && b) (Some entry) (next_of entries target)) (HasNoNext (entry ∷ entries) target) (IsNext (entry ∷ entries) target)
    go true true pending decides rest = record {
      contained = Contains-append_left (entry ∷ []) entries entry (Contains-get_or (entry ∷ []) 0 entry (omega arith));
      pending = pending;
      target_is = decides.0 refl;
      least = All-weaker (λ other. entry.id ≤ other.id) (λ other. is_pending other.state ≡ true → other.target ≡ target → entry.id ≤ other.id)
          (λ other h _ _. h) (entry ∷ entries) (ids-from entry entries rising);
    }
    go true false pending decides rest = behind entry entries target (next_of entries target) (λ _ t. let h : false ≡ true = decides.1 t in cc) rest
    go false b not_pending decides rest = behind entry entries target (next_of entries target) (λ p _. cc) rest
