-- Definition: what the last commit of a store holds, and what a crash leaves, in the same words for each of the three stores.
use Rattle.std.specs.Prelude.{◌⊎◌, IsTrue}
use Rattle.sqlite.specs.Effect.{Database}
use Rattle.sqlite.specs.State.{State}
use Rattle.sqlite.specs.Tree.{Trees}

-- the connection serves, and the last commit holds this
pub record StandsAs {X : Type 0} (Is : Database → X → Type 0) (s : State) (x : X) : Type 0 where
  pub is_open : IsTrue s.is_open
  pub holds : Is s.committed x

-- each database that a crash may leave holds this
abbrev pub LeavesAs : {X : Type 0} → (Trees → X → Type 0) → State → X → Type 0
LeavesAs Holds s x = (db : Trees) → s.may_leave db → Holds db x

-- each of them holds the one or the other
abbrev pub LeavesOneOf : {X : Type 0} → (Trees → X → Type 0) → State → X → X → Type 0
LeavesOneOf Holds s before after = (db : Trees) → s.may_leave db → Holds db before ⊎ Holds db after
