-- What stays where a call failed, and what a crash leaves.
use Rattle.std.proofs.Common.{inl, inr, IsTrue, ◌≡◌, [], List, ℕ, refl, arith, Ok, Err, Result, Bool, true, false, cond}
use Rattle.dnp_objects.specs.declared.store.StoreFault.{StoreFault}
use Rattle.dnp_objects.specs.declared.store.StoreFault.TheVariants as store
use Rattle.sqlite.specs.Effect.{Database}
use Rattle.std.specs.Prelude.{OnOk}
use Rattle.sqlite.specs.Order.{Row}
use Rattle.sqlite.specs.Tree.{Trees}
use Rattle.sqlite.specs.declared.error.Error.{Error}
use Rattle.sqlite.specs.State.{State, IsNotRun, KeepsCommit, Survives}
use Rattle.sqlite.proofs.InsideLemmas.{unchanged_keeps}
use Rattle.dnp_store.specs.Tables.{no_schema}
use Rattle.dnp_store.specs.PairTables.{Checks, pair_schema, IsPair, HoldsPair, Sides}
use Rattle.dnp_store.specs.QueueKept.{QueueStands}

pub stands_if : (new : State) (b : Sides) (r : Result (Unit {0}) Error) → OnOk r (IsTrue new.is_open × IsPair new.committed b) → OnOk r (QueueStands new b)
stands_if new b (Ok _) h = record { is_open = h.0; holds = h.1 }
stands_if new b (Err _) h = tt

-- nothing happens, and nothing more is left
pub survives_itself : {P : Trees → Type 0} (s : State) → Survives s s P
survives_itself s = record {
  clean = omega arith;
  shield = λ h. h;
  counts = omega arith;
  limit = refl;
  closes = λ _ is_open. inl is_open;
  crash = λ _ db may. inl may;
}

-- what is so of a queue's database is so of its trees
pub holding : (db : Database) (sides : Sides) → IsPair db sides → HoldsPair db.trees sides
holding db sides is = is.holds

-- a fault is Device where the store is lost, and there alone
pub device_is : (lost : Bool) (f : StoreFault) → f ≡ cond lost store.Device store.Memory → IsTrue lost → f ≡ store.Device
device_is true f is so = is
device_is false f is so = absurd cc

pub device_not : (lost : Bool) (f : StoreFault) → f ≡ cond lost store.Device store.Memory → lost ≡ false → f ≡ store.Device → ⊥
device_not true f is so told = absurd cc
device_not false f is so told = absurd (let no = is in cc)

pub keeps_commit : (old new : State) (sql : List ℕ) (params : Row) (e : Error) → IsNotRun old new sql params e → KeepsCommit old new
unfolding IsNotRun
keeps_commit old new sql params e (inl refused) = unchanged_keeps old new (inl refused.1)
keeps_commit old new sql params e (inr fails) = unchanged_keeps old new (inr fails.3)

pub keeps_open : (old new : State) (sql : List ℕ) (params : Row) (e : Error) → IsNotRun old new sql params e → IsTrue new.is_open → IsTrue old.is_open
    × (new.committed ≡ old.committed)
keeps_open old new sql params e refused is_open = let k = keeps_commit old new sql params e refused in (k.was_open is_open, k.committed is_open)

-- what is so of a queue's database is so of its trees
pub on_trees : (a b : Sides) → ((db : Database) → IsPair db a → IsPair db b) → (trees : Trees) → HoldsPair trees a → HoldsPair trees b
on_trees a b turn trees h =
    let none : Checks = record { form = []; queue = []; lanes = []; queue_b = []; lanes_b = []; more = no_schema } in
    let db : Database = record { schema = pair_schema none; trees = trees } in
    (turn db (record { checks = none; schema = refl; behind = refl; holds = h })).holds
