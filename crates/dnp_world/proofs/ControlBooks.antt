-- Where a book has its entries by their ids, and what it then says of their states.
use Rattle.std.proofs.Common.{◌≡◌, ℕ, suc, ◌-◌, ◌<◌, ◌≤◌, ◌&&◌, ◌==◌, Bool, true, false, cond, List, [], ◌∷◌, Option, Some, None, refl, sym, ap, ◌∙◌, subst, arith, eq-eqb}
use Rattle.std.specs.Prelude.{nat_lt, if◌then◌else◌}
use Rattle.std.specs.List.{All, AllPairs, filter}
use Rattle.std.specs.Prelude.{take}
use Rattle.std.proofs.lemmas.Bool.Decides.{nat_tests}
use Rattle.std.proofs.lemmas.List.Elements.{All-head, All-tail}
use Rattle.std.proofs.lemmas.Option.{none-some, same_Some}
use Rattle.dnp_controls.specs.Book.{in_state, is_pending, next_of}
use Rattle.dnp_controls.specs.declared.book.Entry.{Entry}
use Rattle.dnp_controls.specs.declared.book.State.{State}
use Rattle.dnp_world.specs.Controls.{first_with, found_in}
use Rattle.dnp_world.proofs.Books.{put}
use Rattle.dnp_world.proofs.RelaySteps.{next_has}

-- ---- ids rise

rising_head : (x : Entry) (xs : List Entry) → AllPairs (λ (a b : Entry). a.id < b.id) (x ∷ xs) → All (λ (b : Entry). x.id < b.id) xs
rising_head x xs pairs = λ k d low. pairs 0 (suc k) d (omega arith) (omega arith)

rising_tail : (x : Entry) (xs : List Entry) → AllPairs (λ (a b : Entry). a.id < b.id) (x ∷ xs) → AllPairs (λ (a b : Entry). a.id < b.id) xs
rising_tail x xs pairs = λ i j d before low. pairs (suc i) (suc j) d (omega arith) (omega arith)

-- the entry at the front, or the one after it
abbrev first_over : ℕ → List Entry → Option Entry
first_over id entries = first_with id (take 1 (filter (λ (e : Entry). nat_lt (id - 1) e.id) entries))

first_here : (x : Entry) (xs : List Entry) → 1 ≤ x.id → first_over x.id (x ∷ xs) ≡ Some x
first_here x xs low =
    let over : nat_lt (x.id - 1) x.id ≡ true = grind (arith, nat_tests, low) in
    rw over (rw (eq-eqb x.id x.id refl) refl)

first_later : (id : ℕ) (x : Entry) (xs : List Entry) → x.id < id → first_over id (x ∷ xs) ≡ first_over id xs
first_later id x xs less =
    let under : nat_lt (id - 1) x.id ≡ false = grind (arith, nat_tests, less) in
    rw under refl

-- the next pending entry for a target is found by its id
pub next_found : (entries : List Entry) (target : ℕ) (e : Entry) → AllPairs (λ (a b : Entry). a.id < b.id) entries → All (λ (a : Entry). 1 ≤ a.id) entries
    → next_of entries target ≡ Some e → found_in entries e.id ≡ Some e
next_found [] target e rising low is = absurd (none-some e is)
next_found (x ∷ xs) target e rising low is =
    by (is_pending x.state && x.target == target) is
    (λ same. next_found xs target e (rising_tail x xs rising) (All-tail (λ (a : Entry). 1 ≤ a.id) x xs low) same)
    (λ same. (next_has (λ (b : Entry). x.id < b.id) xs target e (rising_head x xs rising) same).0)
    (All-head (λ (a : Entry). 1 ≤ a.id) x xs low)
  where
    by : (b : Bool) → cond b (Some x) (next_of xs target) ≡ Some e → (next_of xs target ≡ Some e → found_in xs e.id ≡ Some e)
        → (next_of xs target ≡ Some e → x.id < e.id) → 1 ≤ x.id → found_in (x ∷ xs) e.id ≡ Some e
    by true same later less some = subst (λ (y : Entry). found_in (x ∷ xs) y.id ≡ Some y) (same_Some x e same) (first_here x xs some)
    by false same later less some = first_later e.id x xs (less same) ∙ later same

-- ---- states

-- an entry that comes into a state is found in it
pub found_put : (entries : List Entry) (id : ℕ) (e : Entry) (state : State) → found_in entries id ≡ Some e
    → found_in (in_state entries id state) id ≡ Some (put state e)
found_put [] id e state is = absurd (none-some e is)
found_put (x ∷ xs) id e state is = by (x.id == id) refl (nat_lt (id - 1) x.id) refl is (λ same. found_put xs id e state same)
  where
    -- the entry in front, by whether it is the one, and whether it is looked at
    Goal : Entry → Type 0
    Goal y = first_over id (y ∷ in_state xs id state) ≡ Some (put state e)

    by : (b : Bool) → (x.id == id) ≡ b → (c : Bool) → nat_lt (id - 1) x.id ≡ c
        → first_with id (take 1 (cond c (x ∷ filter (λ (e : Entry). nat_lt (id - 1) e.id) xs) (filter (λ (e : Entry). nat_lt (id - 1) e.id) xs))) ≡ Some e
        → (found_in xs id ≡ Some e → found_in (in_state xs id state) id ≡ Some (put state e))
        → Goal (if b then put state x else x)
    by true one true over is later =
        let here : x ≡ e = same_Some x e (sym (ap (λ (b : Bool). if b then Some x else None) one) ∙ is) in
        rw over (rw one (ap (λ (y : Entry). Some (put state y)) here))
    by false other true over is later = absurd (none-some e (sym (ap (λ (b : Bool). if b then Some x else None) other) ∙ is))
    by true one false over is later = rw over (later is)
    by false other false over is later = rw over (later is)
