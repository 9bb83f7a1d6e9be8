-- Words of private steps: what a call that writes does to its store's database, in the same words for each of the three stores.
use Rattle.std.specs.Prelude.{◌≡◌, false, Err, OnOk, Result}
use Rattle.sqlite_trees.specs.declared.store.Store.{Ghosts}
use Rattle.sqlite.specs.Effect.{Database}
use Rattle.sqlite.specs.Held.{Held, state}
use Rattle.sqlite.specs.State.{HasCleanDisk}
use Rattle.sqlite.specs.Tree.{Trees}
use Rattle.dnp_store.specs.declared.store_kind.StoreKind.{StoreKind}
use Rattle.dnp_store.specs.Commits.{LeavesAs, LeavesOneOf, StandsAs}
use Rattle.dnp_store.specs.Refusals.{IsLost}

-- Where the last commit held what was before, a crash leaves that or what comes next. After Ok it leaves what the store has now,
-- and the last commit holds that after any other answer than Device, which tells that the store is lost. (So it is for each of
-- what the call knows nothing of, as the lanes on the other side of a queue.)
pub record IsWritten {S A E X I : Type 0} (g : Ghosts S) (kind : StoreKind) (lost : E) (Is : Database → X → Type 0) (Holds : Trees → X → Type 0)
    (before next now : I → X) (old new : Held S) (result : Result A E) : Type 0 where
  pub idle : new.in_transaction ≡ false
  pub limit : new.step_limit ≡ old.step_limit
  pub clean : HasCleanDisk (state g new) → HasCleanDisk (state g old)
  pub stands : HasCleanDisk (state g new) → (i : I) → StandsAs Is (state g old) (before i) → (result ≡ Err lost → ⊥) → StandsAs Is (state g new) (now i)
  pub either : HasCleanDisk (state g new) → (i : I) → StandsAs Is (state g old) (before i) → LeavesOneOf Holds (state g new) (before i) (next i)
  pub after : HasCleanDisk (state g new) → (i : I) → StandsAs Is (state g old) (before i) → OnOk result (LeavesAs Holds (state g new) (now i))
  pub device : HasCleanDisk (state g new) → result ≡ Err lost → IsLost g kind old new
