-- Definition: the points above: those of each substation, in a block of their own, with the classes of the plan, from the
-- substation's base on; and a substation's own points, as it has them and as its master below needs them.
use Rattle.std.specs.Prelude.{ℕ, List, [], ◌∷◌, map, slice_index, zip}
use Rattle.dnp_objects.specs.declared.row.Kind.{Kind}
use Rattle.dnp_objects.specs.declared.row.Kind.TheVariants.{Binary, Counter, Analog}
use Rattle.dnp_pointdb.specs.declared.point.Block.{Block}
use Rattle.dnp_pointdb.specs.declared.point.Point.{Point}
use Rattle.dnp_pointdb.specs.Plan as points
use Rattle.dnp_concentrator.specs.declared.plan.Plan.{Plan}
use Rattle.dnp_concentrator.specs.declared.plan.SubPlan.{SubPlan}

-- no deadband is needed where another station decides what is an event
abbrev pub point_of : ℕ → Point
point_of class = record { class = class; deadband = 0 }

-- points of these classes
abbrev pub block_of : ℕ → List ℕ → Block
block_of base classes = record { base = base; points = map point_of classes }

abbrev pub block_above : Kind → SubPlan → Block
block_above Binary substation = block_of (slice_index substation.base 0) substation.binary
block_above Counter substation = block_of (slice_index substation.base 1) substation.counter
block_above Analog substation = block_of (slice_index substation.base 2) substation.analog

-- the block's number is the substation's
abbrev pub points_above : Plan → points.Plan
points_above plan =
    points.plan_of (map (block_above Binary) plan.substations) (map (block_above Counter) plan.substations)
    (map (block_above Analog) plan.substations)

-- those of one substation, whose indices begin with 0, as its master needs them
abbrev pub points_below : SubPlan → points.Plan
points_below substation =
    points.plan_of (block_of 0 substation.binary ∷ []) (block_of 0 substation.counter ∷ []) (block_of 0 substation.analog ∷ [])

-- analog inputs have deadbands where the station itself decides what is an event
abbrev pub analog_point : ℕ × ℕ → Point
analog_point planned = record { class = planned.0; deadband = planned.1 }

abbrev pub analog_points : List ℕ → List ℕ → List Point
analog_points classes deadbands = map analog_point (zip classes deadbands)

abbrev pub analog_block : List ℕ → List ℕ → Block
analog_block classes deadbands = record { base = 0; points = analog_points classes deadbands }

-- a substation's own
abbrev pub points_at : SubPlan → points.Plan
points_at substation =
    points.plan_of (block_of 0 substation.binary ∷ []) (block_of 0 substation.counter ∷ [])
    (analog_block substation.analog substation.deadband ∷ [])
