-- Entries whose ids are numbers one after another, found by place.
use Rattle.std.proofs.Common.{◌≡◌, ℕ, zero, suc, ◌+◌, ◌<◌, ◌≤◌, Bool, true, false, List, [], ◌∷◌, ◌++◌, length, get_or, set, take, drop, refl, ap, ap₂, sym, ◌∙◌, arith, subst, length-append, min}
use Rattle.std.specs.Prelude.{Some, None, All, eqb, cond, filter, nat_lt, IsSome, ◌&&◌}
use Rattle.std.proofs.Math.Seq.{take-add}
use Rattle.std.proofs.lemmas.List.{take-append-le, take-append-drop, take_all, length-map}
use Rattle.std.proofs.lemmas.List.Elements.{All-head, All-tail, All-cons, All-append}
use Rattle.std.proofs.lemmas.Bool.Decides.{Decides-eqb, Decides-ltb}
use Rattle.dnp_controls.specs.declared.book.Entry.{Entry}
use Rattle.dnp_controls.specs.declared.book.State.{State}
use Rattle.dnp_controls.specs.Book.{AreNumberedFrom, entry_of, in_state, next_of, is_pending}
use Rattle.dnp_controls.specs.steps.Places.{IsKept}

eqb-same : (m n : ℕ) → m ≡ n → eqb m n ≡ true
eqb-same m n e = (Decides-eqb m n).1 e

eqb-other : (m n : ℕ) → (m ≡ n → ⊥) → eqb m n ≡ false
eqb-other m n ne = go (eqb m n) (Decides-eqb m n).0
  where
    go : (b : Bool) → (b ≡ true → m ≡ n) → b ≡ false
    go true same = absurd (ne (same refl))
    go false same = refl

ltb-holds : (m n : ℕ) → m < n → nat_lt m n ≡ true
ltb-holds m n h = (Decides-ltb m n).1 h

ltb-fails : (m n : ℕ) → n ≤ m → nat_lt m n ≡ false
ltb-fails m n h = go (nat_lt m n) (Decides-ltb m n).0
  where
    go : (b : Bool) → (b ≡ true → m < n) → b ≡ false
    go true less = absurd (let l : m < n = less refl in omega arith)
    go false less = refl

-- ---- by id and by place

-- an id below the first one is not there
pub entry_of-below : (entries : List Entry) (first id : ℕ) → AreNumberedFrom first entries → id < first → entry_of entries id ≡ None
entry_of-below [] first id numbered low = refl
entry_of-below (entry ∷ entries) first id numbered low =
    ap (λ b. cond b (Some entry) (entry_of entries id)) (eqb-other entry.id id (λ e. let h : entry.id ≡ first = numbered.0 in absurd (omega arith)))
    ∙ entry_of-below entries (first + 1) id numbered.1 (omega arith)

-- nor is one past the last
pub entry_of-past : (entries : List Entry) (first id : ℕ) → AreNumberedFrom first entries → first + length entries ≤ id → entry_of entries id ≡ None
entry_of-past [] first id numbered past = refl
entry_of-past (entry ∷ entries) first id numbered past =
    ap (λ b. cond b (Some entry) (entry_of entries id)) (eqb-other entry.id id (λ e. let h : entry.id ≡ first = numbered.0 in absurd (omega arith)))
    ∙ entry_of-past entries (first + 1) id numbered.1 (omega arith)

-- the entry of an id stands at its place
pub entry_of-at : (entries : List Entry) (first id place : ℕ) (d : Entry) → AreNumberedFrom first entries → place < length entries → id ≡ first + place
    → entry_of entries id ≡ Some (get_or entries place d)
entry_of-at [] first id place d numbered low is = absurd (omega arith)
entry_of-at (entry ∷ entries) first id zero d numbered low is =
    ap (λ b. cond b (Some entry) (entry_of entries id)) (eqb-same entry.id id (let h : entry.id ≡ first = numbered.0 in omega arith))
entry_of-at (entry ∷ entries) first id (suc place) d numbered low is =
    ap (λ b. cond b (Some entry) (entry_of entries id)) (eqb-other entry.id id (λ e. let h : entry.id ≡ first = numbered.0 in absurd (omega arith)))
    ∙ entry_of-at entries (first + 1) id place d numbered.1 (omega arith) (omega arith)

-- an entry that is there has an id in the range
pub entry_of-within : (entries : List Entry) (first id : ℕ) → AreNumberedFrom first entries → IsSome (entry_of entries id)
    → (first ≤ id) × (id < first + length entries)
entry_of-within [] first id numbered there = cc
entry_of-within (entry ∷ entries) first id numbered there =
    go (eqb entry.id id) (Decides-eqb entry.id id).0 (λ rest. entry_of-within entries (first + 1) id numbered.1 rest) there
  where
    go : (b : Bool) → (b ≡ true → entry.id ≡ id) → (IsSome (entry_of entries id) → (first + 1 ≤ id) × (id < first + 1 + length entries))
        → IsSome (cond b (Some entry) (entry_of entries id)) → (first ≤ id) × (id < first + length (entry ∷ entries))
    go true same behind there = let e : entry.id ≡ id = same refl in let h : entry.id ≡ first = numbered.0 in (omega arith, omega arith)
    go false same behind there = let within : (first + 1 ≤ id) × (id < first + 1 + length entries) = behind there in (omega arith, omega arith)

-- the entry in a state
abbrev pub with_state : Entry → State → Entry
with_state entry state = record { id = entry.id; target = entry.target; command = entry.command; state = state }

in_state-below : (entries : List Entry) (first id : ℕ) (state : State) → AreNumberedFrom first entries → id < first → in_state entries id state ≡ entries
in_state-below [] first id state numbered low = refl
in_state-below (entry ∷ entries) first id state numbered low =
    ap₂ (λ (e : Entry) (es : List Entry). e ∷ es)
    (ap (λ b. cond b (with_state entry state) entry) (eqb-other entry.id id (λ e. let h : entry.id ≡ first = numbered.0 in absurd (omega arith))))
    (in_state-below entries (first + 1) id state numbered.1 (omega arith))

-- to come into a state is to be written at the place
pub in_state-at : (entries : List Entry) (first id place : ℕ) (d : Entry) (state : State) → AreNumberedFrom first entries → place < length entries
    → id ≡ first + place
    → set entries place (with_state (get_or entries place d) state) ≡ in_state entries id state
in_state-at [] first id place d state numbered low is = absurd (omega arith)
in_state-at (entry ∷ entries) first id zero d state numbered low is =
    ap₂ (λ (e : Entry) (es : List Entry). e ∷ es)
    (ap (λ b. cond b (with_state entry state) entry) (sym (eqb-same entry.id id (let h : entry.id ≡ first = numbered.0 in omega arith))))
    (sym (in_state-below entries (first + 1) id state numbered.1 (omega arith)))
in_state-at (entry ∷ entries) first id (suc place) d state numbered low is =
    ap₂ (λ (e : Entry) (es : List Entry). e ∷ es)
    (ap (λ b. cond b (with_state entry state) entry) (sym (eqb-other entry.id id (λ e. let h : entry.id ≡ first = numbered.0 in absurd (omega arith)))))
    (in_state-at entries (first + 1) id place d state numbered.1 (omega arith) (omega arith))

-- the ids stay
pub in_state-numbered : (entries : List Entry) (first id : ℕ) (state : State) → AreNumberedFrom first entries
    → AreNumberedFrom first (in_state entries id state)
in_state-numbered [] first id state numbered = tt
in_state-numbered (entry ∷ entries) first id state numbered =
    (go (eqb entry.id id), in_state-numbered entries (first + 1) id state numbered.1)
  where
    go : (b : Bool) → (cond b (record { id = entry.id; target = entry.target; command = entry.command; state = state }) entry).id ≡ first
    go true = numbered.0
    go false = numbered.0

pub numbered-push : (entries : List Entry) (first : ℕ) (entry : Entry) → AreNumberedFrom first entries → entry.id ≡ first + length entries
    → AreNumberedFrom first (entries ++ entry ∷ [])
numbered-push [] first entry numbered is = (omega arith, tt)
numbered-push (e ∷ entries) first entry numbered is = (numbered.0, numbered-push entries (first + 1) entry numbered.1 (omega arith))

-- the entries with ids over a number are those after a place
over-all : (entries : List Entry) (first from : ℕ) → AreNumberedFrom first entries → from < first → filter (λ entry. nat_lt from entry.id) entries ≡ entries
over-all [] first from numbered low = refl
over-all (entry ∷ entries) first from numbered low =
    ap (λ b. cond b (entry ∷ filter (λ e. nat_lt from e.id) entries) (filter (λ e. nat_lt from e.id) entries))
    (ltb-holds from entry.id (let h : entry.id ≡ first = numbered.0 in omega arith))
    ∙ ap (λ es. entry ∷ es) (over-all entries (first + 1) from numbered.1 (omega arith))

pub over-drop : (entries : List Entry) (first from k : ℕ) → AreNumberedFrom first entries → from + 1 ≡ first + k
    → filter (λ entry. nat_lt from entry.id) entries ≡ drop k entries
over-drop entries first from zero numbered is = over-all entries first from numbered (omega arith)
over-drop [] first from (suc k) numbered is = refl
over-drop (entry ∷ entries) first from (suc k) numbered is =
    ap (λ b. cond b (entry ∷ filter (λ e. nat_lt from e.id) entries) (filter (λ e. nat_lt from e.id) entries))
    (ltb-fails from entry.id (let h : entry.id ≡ first = numbered.0 in omega arith))
    ∙ over-drop entries (first + 1) from k numbered.1 (omega arith)

-- no id is over a number that none passes
pub over-none : (entries : List Entry) (first from : ℕ) → AreNumberedFrom first entries → first + length entries ≤ from + 1
    → filter (λ entry. nat_lt from entry.id) entries ≡ []
over-none [] first from numbered high = refl
over-none (entry ∷ entries) first from numbered high =
    ap (λ b. cond b (entry ∷ filter (λ e. nat_lt from e.id) entries) (filter (λ e. nat_lt from e.id) entries))
    (ltb-fails from entry.id (let h : entry.id ≡ first = numbered.0 in omega arith))
    ∙ over-none entries (first + 1) from numbered.1 (omega arith)

-- as many as there are, at most n
pub take-at_most : (xs : List Entry) (m n : ℕ) → m ≡ min n (length xs) → take m xs ≡ take n xs
take-at_most [] m n is = take_all m [] (omega arith) ∙ sym (take_all n [] (omega arith))
take-at_most (x ∷ xs) zero n is = ap (λ k. take k (x ∷ xs)) (let e : 0 ≡ n = omega arith in e)
take-at_most (x ∷ xs) (suc m) zero is = absurd (omega arith)
take-at_most (x ∷ xs) (suc m) (suc n) is = ap (λ ys. x ∷ ys) (take-at_most xs m n (omega arith))

-- ---- what is past pending

next_of-past : (front rest : List Entry) (target : ℕ) → All (λ entry. is_pending entry.state ≡ false) front
    → next_of (front ++ rest) target ≡ next_of rest target
next_of-past [] rest target past = refl
next_of-past (entry ∷ front) rest target past =
    ap (λ b. cond (b && eqb entry.target target) (Some entry) (next_of (front ++ rest) target)) (All-head (λ entry. is_pending entry.state ≡ false) entry front past)
    ∙ next_of-past front rest target (All-tail (λ entry. is_pending entry.state ≡ false) entry front past)

-- the next one is found after those that are past pending
pub next_of-drop : (entries : List Entry) (first target : ℕ) → All (λ entry. is_pending entry.state ≡ false) (take first entries)
    → next_of (drop first entries) target ≡ next_of entries target
next_of-drop entries first target past =
    sym (next_of-past (take first entries) (drop first entries) target past) ∙ ap (λ es. next_of es target) (take-append-drop first entries)

-- some more are past pending
pub past-more : (entries : List Entry) (first more : ℕ) → All (λ entry. is_pending entry.state ≡ false) (take first entries)
    → All (λ entry. is_pending entry.state ≡ false) (take more (drop first entries)) → All (λ entry. is_pending entry.state ≡ false) (take (first + more) entries)
past-more entries first more past then =
    let P : List Entry → Type 0 = λ es. All (λ entry. is_pending entry.state ≡ false) es in
    subst P (sym (take-add first more entries)) (All-append (λ entry. is_pending entry.state ≡ false) (take first entries) (take more (drop first entries)) past then)

-- an entry that comes into a state other than pending leaves them past
pub past-in_state : (entries : List Entry) (first id : ℕ) (state : State) → is_pending state ≡ false
    → All (λ entry. is_pending entry.state ≡ false) (take first entries)
    → All (λ entry. is_pending entry.state ≡ false) (take first (in_state entries id state))
past-in_state entries zero id state done past = past
past-in_state [] (suc first) id state done past = past
past-in_state (entry ∷ entries) (suc first) id state done past =
    All-cons (λ e. is_pending e.state ≡ false) (cond (eqb entry.id id) (with_state entry state) entry) (take first (in_state entries id state))
    (go (eqb entry.id id))
    (past-in_state entries first id state done (All-tail (λ e. is_pending e.state ≡ false) entry (take first entries) past))
  where
    go : (b : Bool) → is_pending (cond b (with_state entry state) entry).state ≡ false
    go true = done
    go false = All-head (λ e. is_pending e.state ≡ false) entry (take first entries) past

-- ---- what is kept

-- what a loan of all entries left is the entries
pub refilled : (new old : List Entry) (len : ℕ) → len ≡ length old → length new ≡ length old → take len (new ++ drop (length new) old) ≡ new
refilled new old len is same =
    take-append-le len new (drop (length new) old) (omega arith) ∙ ap (λ n. take n new) (let e : len ≡ length new = omega arith in e) ∙ take_all (length new) new (omega arith)

pub IsKept-in_state : (entries : List Entry) (first id : ℕ) (state : State) → is_pending state ≡ false → IsKept entries first
    → IsKept (in_state entries id state) first
IsKept-in_state entries first id state done kept = record {
  numbered = in_state-numbered entries 1 id state kept.numbered;
  within = simp length-map kept.within;
  past = past-in_state entries first id state done kept.past;
}

pub IsKept-push : (entries : List Entry) (first : ℕ) (entry : Entry) → entry.id ≡ length entries + 1 → IsKept entries first
    → IsKept (entries ++ entry ∷ []) first
IsKept-push entries first entry is kept = record {
  numbered = numbered-push entries 1 entry kept.numbered (omega arith);
  within = (let h : first ≤ length entries = kept.within in omega (arith, length-append entries (entry ∷ [])));
  past = (let P : List Entry → Type 0 = λ es. All (λ entry. is_pending entry.state ≡ false) es in
      subst P (sym (take-append-le first entries (entry ∷ []) kept.within)) kept.past);
}
