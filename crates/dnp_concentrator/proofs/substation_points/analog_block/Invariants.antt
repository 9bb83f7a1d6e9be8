use Rattle.std.specs.Prelude.{◌≡◌, ◌++◌, map, zip}
use Rattle.std.specs.Iterator.Adapters.{zip_first, zip_second}
use Rattle.std.specs.Slice.Iter.{iter_rest}
use Rattle.dnp_concentrator.specs.PointsAbove.{analog_point, analog_points}
use Rattle.dnp_concentrator.proofs.substation_points.analog_block.Given as goal

abbrev pub invariant-loop-class : goal.invariant-loop-class
invariant-loop-class l =
    analog_points l.classes l.deadbands
    ≡ l.points.items ++ map analog_point (zip (iter_rest (zip_first l.class-iterator)) (iter_rest (zip_second l.class-iterator)))
