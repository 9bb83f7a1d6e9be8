-- What an open of a queue finds wrong is no queue's that holds lanes as they may be.
use Rattle.std.proofs.Common.{◌≡◌, ◌≤◌, ◌⊎◌, inl, inr, ℕ, zero, suc, pos, List, [], ◌∷◌, map, codes, Ok, Err, Result, IfOk, refl, sym, subst, ◌∙◌, arith}
use Rattle.std.specs.Prelude.{Vec}
use Rattle.std.specs.declared.alloc.Global.{Global}
use Rattle.sqlite_trees.proofs.ListLemmas.{all-permutation}
use Rattle.sqlite.specs.declared.types.Value.{Value}
use Rattle.sqlite.specs.declared.types.Value.TheVariants.{Int, Null, Text}
use Rattle.sqlite.specs.Effect.{Database}
use Rattle.sqlite.specs.Order.{Row, column}
use Rattle.sqlite.specs.State.{State, Shown}
use Rattle.sqlite.proofs.Callers.{reads_as}
use Rattle.dnp_objects.specs.declared.limits.TheConstants.{MAX_ID}
use Rattle.dnp_store.specs.PairTables.{IsForm, rows_name}
use Rattle.dnp_store.specs.QueueOpens.{HoldsOne, HoldsTwo, NotesInRange}
use Rattle.dnp_store.specs.declared.queue_side.QueueSide.TheVariants.{First}
use Rattle.dnp_store.specs.declared.store_kind.StoreKind.TheVariants.{Queue}
use Rattle.dnp_store.specs.steps.QueueDenied.{OneStands, TwoStand}
use Rattle.dnp_store.specs.steps.Shown.{IsMost}
use Rattle.dnp_store.specs.steps.Stores.{Reads, schema_for}
use Rattle.dnp_store.proofs.Opening.{count_is, count_plain, count_query, count_terms, listed, shown_by, unchanged}

abbrev InRange : Row → Type 0
InRange row = column row 1 ≡ Text (codes "queue") → (n : ℕ) → column row 2 ≡ Int (pos n) → n ≤ MAX_ID

-- neither of two
pub neither : {A B : Type 0} → (A → ⊥) → (B → ⊥) → A ⊎ B → ⊥
neither f g (inl a) = f a
neither f g (inr b) = g b

-- a form has one number
pub one_number : (rows : List Row) (n m : ℕ) → IsForm n rows → IsForm m rows → n ≡ m
one_number rows n m one two = go one.0 two.0 (sym one.1 ∙ two.1)
  where
    go : (id next : _) → ◌≡◌ {A = List Row} ((Int id ∷ Int (pos n) ∷ []) ∷ []) ((Int next ∷ Int (pos m) ∷ []) ∷ []) → n ≡ m
    go id next e = cc

pub two_stand : (db : Database) → HoldsTwo db → TwoStand db.trees
two_stand db two = record { sides = two.sides; may = two.may; holds = two.is.holds }

pub one_stands : (db : Database) → HoldsOne db → OneStands db.trees
one_stands db one = record {
  counts = one.is.counts;
  lanes = one.lanes;
  may = one.may;
  holds = record { figures = one.is.figures; lanes = one.is.lanes; overflow = one.is.overflow };
  noted = one.noted;
}

-- ---- what is noted in `sqlite_sequence`

-- what is no greater than one number is no greater than another
pub most_more : (table : List ℕ) (rows : List Row) (n m : ℕ) → n ≤ m → IsMost table rows n → IsMost table rows m
most_more table rows n m low most k within id x shows = let less = most k within id x shows in omega (arith, low, less)

most_shown : (rs : List Row) → NotesInRange rs → IsMost (rows_name First) (map (shown_by count_terms) rs) MAX_ID
most_shown [] h k low id n shows = absurd (omega (arith, low))
most_shown (r ∷ rs) h zero low id n shows = h.0 shows.name n shows.count
most_shown (r ∷ rs) h (suc k) low id n shows = most_shown rs h.1 k (omega (arith, low)) id n shows

reads_most : (old new : State) (rows : List Row) → Shown count_query [] old new rows
    → Reads Queue old new (λ db. NotesInRange (db 2) → IsMost (rows_name First) rows MAX_ID)
reads_most old new rows shown f q l sound has =
    let read = reads_as count_query [] old new (schema_for Queue f q l) has _ (count_is Queue f q l).0 (count_plain Queue f q l) (count_is Queue f q l).1 rows
    shown in
    let got = listed 2 count_terms old.now.trees rows refl (read.answer Null) in (
      unchanged count_query old new (schema_for Queue f q l) rows has (count_plain Queue f q l) shown,
      λ noted. subst (λ (rs : List Row). IsMost (rows_name First) rs MAX_ID) (sym got.2)
          (most_shown got.0 (all-permutation InRange (old.now.trees 2) got.0 got.1 noted)),
    )

module _ {E : Type 0} (old new : State) where
  pub most_if : (r : Result (Vec (List Value) Global) E) → IfOk r (λ rows. Shown count_query [] old new rows.items)
      → IfOk r (λ rows. Reads Queue old new (λ db. NotesInRange (db 2) → IsMost (rows_name First) rows.items MAX_ID))
  most_if (Ok rows) shown = reads_most old new rows.items shown
  most_if (Err e) shown = tt
