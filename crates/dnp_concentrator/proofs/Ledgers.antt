-- Entries of a book once one of them came into another state, and the entry that is found by its id.
use Rattle.std.proofs.Common.{◌≡◌, ℕ, zero, suc, ◌<◌, Bool, true, false, List, [], ◌∷◌, get_or, refl, ap, sym, ◌∙◌, arith, subst}
use Rattle.std.specs.Prelude.{Option, Some, None, eqb, cond, IsTrue, option_map, AllPairs, Contains, IfSome}
use Rattle.std.specs.Option.{IsSomeAnd}
use Rattle.std.proofs.lemmas.Bool.Decides.{Decides-eqb}
use Rattle.dnp_controls.specs.declared.book.Entry.{Entry}
use Rattle.dnp_controls.specs.declared.book.State.{State}
use Rattle.dnp_controls.specs.declared.book.State.TheVariants.{Spent}
use Rattle.dnp_controls.specs.Book.{Ledger, IsSoundLedger, Has, entry_of, in_state, spent, is_pending}
use Rattle.dnp_controls.specs.Moves.{IsNext}
use Rattle.dnp_concentrator.specs.declared.progress.Progress.{Progress}
use Rattle.dnp_concentrator.specs.declared.progress.Stage.{Stage}
use Rattle.dnp_concentrator.specs.Relayed.{IsOf, IsSpentBy, is_spent}

-- an entry, where those of an id come into a state
abbrev put : ℕ → State → Entry → Entry
put other state entry = cond (eqb entry.id other) (record { id = entry.id; target = entry.target; command = entry.command; state = state }) entry

put-id : (other : ℕ) (state : State) (entry : Entry) → (put other state entry).id ≡ entry.id
put-id other state entry = go (eqb entry.id other)
  where
    go : (b : Bool) → (cond b (record { id = entry.id; target = entry.target; command = entry.command; state = state }) entry).id ≡ entry.id
    go true = refl
    go false = refl

-- the entry of an id afterwards
entry_of-in_state : (entries : List Entry) (other id : ℕ) (state : State)
    → entry_of (in_state entries other state) id ≡ option_map (put other state) (entry_of entries id)
entry_of-in_state [] other id state = refl
entry_of-in_state (entry ∷ entries) other id state =
    ap (λ k. cond (eqb k id) (Some (put other state entry)) (entry_of (in_state entries other state) id)) (put-id other state entry)
    ∙ go (eqb entry.id id) (entry_of-in_state entries other id state)
  where
    go : (b : Bool) → entry_of (in_state entries other state) id ≡ option_map (put other state) (entry_of entries id)
        → cond b (Some (put other state entry)) (entry_of (in_state entries other state) id)
        ≡ option_map (put other state) (cond b (Some entry) (entry_of entries id))
    go true rest = refl
    go false rest = rest

-- the entry that is found has the id
entry_of-id : (entries : List Entry) (id : ℕ) → IfSome (entry_of entries id) (λ entry. entry.id ≡ id)
entry_of-id [] id = tt
entry_of-id (entry ∷ entries) id = go (eqb entry.id id) (Decides-eqb entry.id id).0 (entry_of-id entries id)
  where
    go : (b : Bool) → (b ≡ true → entry.id ≡ id) → IfSome (entry_of entries id) (λ e. e.id ≡ id)
        → IfSome (cond b (Some entry) (entry_of entries id)) (λ e. e.id ≡ id)
    go true same rest = same refl
    go false same rest = rest

-- the entry of an id that came into a state is in it
has-put : (entries : List Entry) (id : ℕ) (state : State) (before after : State → Bool) → after state ≡ true → Has entries id before
    → Has (in_state entries id state) id after
has-put entries id state before after is has =
    let P : Option Entry → Type 0 = λ o. IsSomeAnd o (λ entry. IsTrue (after entry.state)) in
    subst P (sym (entry_of-in_state entries id id state)) (go (entry_of entries id) (entry_of-id entries id) has)
  where
    set : (entry : Entry) (b : Bool) → (entry.id ≡ id → b ≡ true) → entry.id ≡ id
        → after (cond b (record { id = entry.id; target = entry.target; command = entry.command; state = state }) entry).state ≡ true
    set entry true decides same = is
    set entry false decides same = let h : false ≡ true = decides same in cc

    go : (o : Option Entry) → IfSome o (λ entry. entry.id ≡ id) → IsSomeAnd o (λ entry. IsTrue (before entry.state))
        → IsSomeAnd (option_map (put id state) o) (λ entry. IsTrue (after entry.state))
    go None same has = has
    go (Some entry) same has = set entry (eqb entry.id id) (Decides-eqb entry.id id).1 same

-- a pending control that is spent is spent by this call
pub spent_by : (old : Ledger) (id : ℕ) → Has old.entries id is_pending → IsSpentBy old (spent old id) id
spent_by old id pending = record { was_pending = pending; is_spent = has-put old.entries id Spent is_pending is_spent refl pending }

-- what is finished is pending no more
-- a control in progress stays the book's when entries come into states
pub of-in_state : (entries : List Entry) (target : ℕ) (progress : Option Progress) (other : ℕ) (state : State) → IsOf entries target progress
    → IsOf (in_state entries other state) target progress
of-in_state entries target None other state is = tt
of-in_state entries target (Some p) other state is =
    let P : Option Entry → Type 0 = λ o. IsSomeAnd o (λ entry. (entry.target ≡ target) × (entry.command ≡ p.command)) in
    subst P (sym (entry_of-in_state entries other p.id state)) (go (entry_of entries p.id) is)
  where
    set : (entry : Entry) (b : Bool) → (entry.target ≡ target) × (entry.command ≡ p.command)
        → let e : Entry = cond b (record { id = entry.id; target = entry.target; command = entry.command; state = state }) entry in
        (e.target ≡ target) × (e.command ≡ p.command)
    set entry true is = is
    set entry false is = is

    go : (o : Option Entry) → IsSomeAnd o (λ entry. (entry.target ≡ target) × (entry.command ≡ p.command))
        → IsSomeAnd (option_map (put other state) o) (λ entry. (entry.target ≡ target) × (entry.command ≡ p.command))
    go None is = is
    go (Some entry) is = set entry (eqb entry.id other) is

-- where ids rise, an entry is found by its id
found : (entries : List Entry) (entry : Entry) → AllPairs (λ x y. x.id < y.id) entries → Contains entries entry → entry_of entries entry.id ≡ Some entry
found [] entry rising (k, low, is) = absurd (omega arith)
found (x ∷ entries) entry rising (zero, low, is) = go (eqb x.id entry.id) (Decides-eqb x.id entry.id).1
  where
    go : (b : Bool) → (x.id ≡ entry.id → b ≡ true) → cond b (Some x) (entry_of entries entry.id) ≡ Some entry
    go true same = ap Some is
    go false same = let h : false ≡ true = same (ap (λ e. e.id) is) in cc
found (x ∷ entries) entry rising (suc k, low, is) =
    go (eqb x.id entry.id) (Decides-eqb x.id entry.id).0
    (found entries entry (λ i j d before late. rising (suc i) (suc j) d (omega arith) (omega arith)) (k, omega arith, is))
  where
    above : x.id < entry.id
    above =
        let h : x.id < (get_or entries k entry).id = rising zero (suc k) entry (omega arith) low in
        let P : Entry → Type 0 = λ e. x.id < e.id in
        subst P is h

    go : (b : Bool) → (b ≡ true → x.id ≡ entry.id) → entry_of entries entry.id ≡ Some entry
        → cond b (Some x) (entry_of entries entry.id) ≡ Some entry
    go true same rest = let h : x.id ≡ entry.id = same refl in let a : x.id < entry.id = above in absurd (omega arith)
    go false same rest = rest

-- the next entry as the control in progress is the book's
pub next_is_of : (book : Ledger) (target : ℕ) (entry : Entry) (stage : Stage) → IsSoundLedger book → IsNext book.entries target entry
    → IsOf book.entries target (Some (record { id = entry.id; command = entry.command; stage = stage }))
next_is_of book target entry stage sound next =
    let P : Option Entry → Type 0 = λ o. IsSomeAnd o (λ e. (e.target ≡ target) × (e.command ≡ entry.command)) in
    subst P (sym (found book.entries entry sound.rising next.contained)) (next.target_is, refl)
