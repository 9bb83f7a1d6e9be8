-- Statements that ran one after the other, and what they made of a database.
use Rattle.std.proofs.Common.{◌≡◌, ℕ, ◌+◌, ◌<◌, ◌≤◌, pos, List, [], ◌∷◌, ◌++◌, map, drop, length, get_or, Ok, Err, Result, arith, refl, sym, subst}
use Rattle.std.specs.Prelude.{OnOk}
use Rattle.std.proofs.Math.ListN.{drop_of_length-le}
use Rattle.std.proofs.lemmas.List.{drop_more}
use Rattle.sqlite_trees.specs.declared.store.Store.{Ghosts}
use Rattle.sqlite.specs.declared.types.Value.TheVariants.{Int}
use Rattle.sqlite.specs.Effect.{Database}
use Rattle.sqlite.specs.Held.{Held, state}
use Rattle.sqlite.specs.Order.{Row}
use Rattle.sqlite.specs.State.{Executes}
use Rattle.sqlite.specs.Tree.{Trees}
use Rattle.sqlite.specs.declared.error.Error.{Error}
use Rattle.dnp_store.specs.Added.{LeavesMade, MakeAll, Statement, making_lanes}
use Rattle.dnp_store.specs.Tables.{no_schema}
use Rattle.dnp_store.specs.steps.Making.{ExecuteAll, bare}

module _ {S : Type 0} (g : Ghosts S) where
  -- one ran
  pub made_one : (old new : Held S) (text : List ℕ) (params : Row) (count : ℕ) → Executes text params (state g old) (state g new) (Ok count)
      → MakeAll g ((text, params) ∷ []) (state g old).now (state g new).now
  made_one old new text params count ran = ((state g new).now, (old, new, count, refl, refl, ran), refl)

  pub made_then : (first second : List Statement) (a b c : Database) → MakeAll g first a b → MakeAll g second b c → MakeAll g (first ++ second) a c
  made_then [] second a b c one two = subst (λ d. MakeAll g second d c) one two
  made_then (it ∷ more) second a b c one two = (one.0, one.1, made_then more second one.0 b c one.2 two)

  -- texts ran one after the other
  pub made_texts : (texts : List (List ℕ)) (old new : Held S) → ExecuteAll g texts old new → MakeAll g (map bare texts) (state g old).now (state g new).now
  made_texts [] old new same = subst (λ h. (state g h).now ≡ (state g old).now) same refl
  made_texts (text ∷ more) old new ran =
      ((state g ran.0).now, (old, ran.0, ran.1, refl, refl, ran.2), made_texts more ran.0 new ran.3)

  -- with the lanes that are still to come all of them are put in
  abbrev pub LanesOn : List ℕ → List ℕ → ℕ → Database → Database → Type 0
  LanesOn text all number old now = (last : Database) → MakeAll g (making_lanes text number (drop number all)) now last
      → MakeAll g (making_lanes text 0 all) old last

  pub one_lane : (text all : List ℕ) (number count : ℕ) (old : Database) (now next : Held S) → number < length all
      → Executes text (Int (pos number) ∷ Int (pos (get_or all number 0)) ∷ []) (state g now) (state g next) (Ok count)
      → LanesOn text all number old (state g now).now → LanesOn text all (number + 1) old (state g next).now
  one_lane text all number count old now next low ran before last rest =
      before last (subst (λ xs. MakeAll g (making_lanes text number xs) (state g now).now last) (sym (drop_more all number 0 low))
      ((state g next).now, (now, next, count, refl, refl, ran), rest))

  pub lanes_left : (text all : List ℕ) (number : ℕ) (old now : Database) → length all ≤ number → LanesOn text all number old now
      → MakeAll g (making_lanes text 0 all) old now
  lanes_left text all number old now past before =
      before now (subst (λ xs. MakeAll g (making_lanes text number xs) now now) (sym (drop_of_length-le all past)) refl)

  -- what was made of a database may be left
  pub leaves_made : (its : List Statement) (Fresh : Trees → Type 0) (before after : Database) (r : Result (Unit {0}) Error)
      → OnOk r (before.schema ≡ no_schema → Fresh after.trees) → OnOk r (MakeAll g its before after) → OnOk r (LeavesMade g its Fresh before after.trees)
  leaves_made its Fresh before after (Ok _) fresh made = (fresh, (after, made, refl))
  leaves_made its Fresh before after (Err e) fresh made = tt

-- both are so where there is an answer
pub both_too : (X Y : Type 0) (r : Result (Unit {0}) Error) → OnOk r X → OnOk r Y → OnOk r (X × Y)
both_too X Y (Ok _) x y = (x, y)
both_too X Y (Err e) x y = tt
