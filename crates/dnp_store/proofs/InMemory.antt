-- A database in memory is clean.
use Rattle.std.proofs.Common.{◌≡◌, Bool, true, false, not, refl}
use Rattle.sqlite_trees.specs.View.{doubt}
use Rattle.sqlite_trees.specs.declared.memory.MemStore.{MemStore}
use Rattle.sqlite.specs.Held.{Held, state}
use Rattle.sqlite.specs.State.{HasCleanDisk}
use Rattle.sqlite.specs.Steps.{over_memory}

pub is_clean : (c : Held MemStore) → HasCleanDisk (state over_memory c)
unfolding doubt
is_clean c = refl

pub runs_on : (stopped serves : Bool) → serves ≡ not stopped → serves ≡ true → stopped ≡ false
runs_on false serves is so = refl
runs_on true serves is so = absurd cc
