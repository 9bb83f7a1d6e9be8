-- Definition: the plan of a station's points, and what is no plan. Blocks of different kinds have nothing to do
-- with one another; within a kind each index belongs to one point at most.
use Rattle.std.specs.Prelude.{ℕ, ◌+◌, ◌<◌, ◌⊎◌, List, [], ◌∷◌, length, Any, slice_index_or}
use Rattle.dnp_objects.specs.declared.limits.TheConstants.{CLASSES}
use Rattle.dnp_pointdb.specs.declared.limits.TheConstants.{INDICES, MAX_POINTS}
use Rattle.dnp_objects.specs.Faults.{IsFirstOf}
use Rattle.dnp_objects.specs.Lanes.{kind_number}
use Rattle.dnp_objects.specs.declared.row.Kind.{Kind}
use Rattle.dnp_objects.specs.declared.row.Kind.TheVariants.{Binary, Counter, Analog}
use Rattle.dnp_pointdb.specs.declared.point.Point.{Point}
use Rattle.dnp_pointdb.specs.declared.point.Block.{Block}
use Rattle.dnp_pointdb.specs.declared.fault.PlanFault.{PlanFault}
use Rattle.dnp_pointdb.specs.declared.fault.PlanFault.TheVariants.{Class, TooMany, TooWide, Overlap}
use Rattle.dnp_pointdb.specs.Blocks.{ShareIndex}

-- the kinds, each at the place of its number
abbrev pub kinds : List Kind
kinds = Binary ∷ Counter ∷ Analog ∷ []

-- the blocks of each kind by the kind's number, each kind's in the plan's order
pub record Plan : Type 0 where
  pub blocks : List (List Block)

abbrev pub plan_of : List Block → List Block → List Block → Plan
plan_of binary counter analog = record { blocks = binary ∷ counter ∷ analog ∷ [] }

abbrev pub blocks_of : Plan → Kind → List Block
blocks_of plan kind = slice_index_or plan.blocks (kind_number kind) []

-- ---- causes to refuse blocks

-- a class over 3, or a deadband on a binary or a counter
abbrev pub IsWrong : Kind → Point → Type 0
IsWrong Binary point = (CLASSES < point.class) ⊎ (0 < point.deadband)
IsWrong Counter point = (CLASSES < point.class) ⊎ (0 < point.deadband)
IsWrong Analog point = CLASSES < point.class

-- why one block is refused
abbrev pub HasWrongPoint : Kind → Block → Type 0
HasWrongPoint kind block = Any (IsWrong kind) block.points

-- a block has at most 1,024 points
abbrev pub HasTooMany : Block → Type 0
HasTooMany block = MAX_POINTS < length block.points

-- indices end at 65,535
abbrev pub IsTooWide : Block → Type 0
IsTooWide block = INDICES < block.base + length block.points

-- why blocks are no plan
abbrev pub IsPlanFault : Plan → PlanFault → Type 0
IsPlanFault plan Class = (kind : Kind) × Any (HasWrongPoint kind) (blocks_of plan kind)
IsPlanFault plan TooMany = (kind : Kind) × Any HasTooMany (blocks_of plan kind)
IsPlanFault plan TooWide = (kind : Kind) × Any IsTooWide (blocks_of plan kind)
IsPlanFault plan Overlap = (kind : Kind) × ShareIndex (blocks_of plan kind)

-- the order in which causes are looked for
abbrev pub place : PlanFault → ℕ
place Class = 0
place TooMany = 1
place TooWide = 2
place Overlap = 3

abbrev pub IsFirst : Plan → PlanFault → Type 0
IsFirst plan fault = IsFirstOf place (IsPlanFault plan) fault

-- nothing is wrong with the blocks
abbrev pub IsSoundPlan : Plan → Type 0
IsSoundPlan plan = (fault : PlanFault) → IsPlanFault plan fault → ⊥
