-- The entries of a book in memory, after a loan of all of them.
use Rattle.std.proofs.Common.{◌≡◌, ℕ, Bool, false, IsTrue, List, [], ◌∷◌, ◌++◌, Option, Some, None, length, take, drop, refl, sym, ap, ◌∙◌, arith}
use Rattle.std.specs.Prelude.{IsSome, IsSomeAnd}
use Rattle.std.proofs.lemmas.List.{take-append-le, take_all, length-map}
use Rattle.dnp_controls.specs.declared.book.Entry.{Entry}
use Rattle.dnp_controls.specs.declared.book.State.{State as Control}
use Rattle.dnp_controls.specs.declared.book.State.TheVariants.{Pending, Spent, Finished}
use Rattle.dnp_controls.specs.Book.{Has, IsSoundLedger, Ledger, entry_of, in_state, is_pending}
use Rattle.dnp_controls.specs.Moves.{Finish, Move, Spend, after}
use Rattle.dnp_store.specs.steps.Turning.{may_turn}

-- what a loan of all entries left is the entries
refilled : (new old : List Entry) (len : ℕ) → len ≡ length old → length new ≡ length old → take len (new ++ drop (length new) old) ≡ new
refilled new old len is same =
    take-append-le len new (drop (length new) old) (omega arith) ∙ ap (λ n. take n new) (let e : len ≡ length new = omega arith in e)
    ∙ take_all (length new) new (omega arith)

-- one of them came into a state in the loan
pub turned_is : (new lent items : List Entry) (len last id : ℕ) (s : Control) → len ≡ length items → lent ≡ items → new ≡ in_state lent id s
    → ◌≡◌ {A = Ledger} (record { entries = in_state items id s; last_id = last })
    (record { entries = take len (new ++ drop (length new) items); last_id = last })
turned_is new lent items len last id s full same turned =
    let is : new ≡ in_state items id s = turned ∙ ap (λ es. in_state es id s) same in
    let long : length new ≡ length items = ap length is ∙ length-map items _ in
    ap (λ es. record { entries = es; last_id = last }) (sym (refilled new items len full long ∙ is))

-- a control that may come into a state is there
pub granted_there : (es : List Entry) (id : ℕ) (test : Control → Bool) → Has es id test → IsSome (entry_of es id)
granted_there es id test = go (entry_of es id)
  where
    go : (o : Option Entry) → IsSomeAnd o (λ entry. IsTrue (test entry.state)) → IsSome o
    go None h = absurd h
    go (Some e) h = refl

-- and isn't pending in it
pub not_pending : (es : List Entry) (id : ℕ) (control : Control) → Has es id (λ from. may_turn from control) → is_pending control ≡ false
not_pending es id control = go (entry_of es id) control
  where
    go : (o : Option Entry) (to : Control) → IsSomeAnd o (λ entry. IsTrue (may_turn entry.state to)) → is_pending to ≡ false
    go None to h = absurd h
    go (Some e) Pending h = absurd cc
    go (Some e) Spent h = refl
    go (Some e) (Finished status) h = refl

pub sound_turned : ((book : Ledger) (moves : List Move) → IsSoundLedger book → IsSoundLedger (after book moves)) → (book : Ledger) (id : ℕ) (control : Control)
    → is_pending control ≡ false → IsSoundLedger book → IsSoundLedger (record book { entries = in_state book.entries id control })
sound_turned law book id Pending isnt sound = absurd cc
sound_turned law book id Spent isnt sound = law book (Spend id ∷ []) sound
sound_turned law book id (Finished status) isnt sound = law book (Finish id status ∷ []) sound
