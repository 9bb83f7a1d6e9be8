-- At most one row is dropped for a reading, and it is listed.
use Rattle.std.proofs.Common.{◌++◌, ◌∙◌, ℕ, List, length, ap, arith}
use Rattle.dnp_objects.specs.declared.row.Row.{Row}
use Rattle.dnp_outstation.specs.Station.{actions_of}
use Rattle.dnp_pointdb.specs.Database.{answer_of}
use Rattle.dnp_world.specs.SystemParts.{substation_of}
use Rattle.dnp_world.specs.Systems.{at_substation, station_of}
use Rattle.dnp_world.proofs.SystemReadings.{few_made, listed}
use Rattle.dnp_world.proofs.substation.Substation.change.Goals as goal

pub put_all-requires : goal.put_all-requires
put_all-requires c =
    let old = substation_of c.args.self.now in
    let few = few_made _ (station_of old) c.args.now c.args.kind c.args.index c.args.reading
    (answer_of old.core.points c.args.kind c.args.index c.args.reading) c.change_into.result _ _ (actions_of c.change_into.new.actions)
    (rw c.points.ensures.value at c.change_into.ensures.refused) c.in_ok-change_into.was
    (rw c.points.ensures.value at (c.in_ok-change_into.ensures.changed tt)) in
    omega (arith, few, c.in-Ok.ensures.places, ap (λ (rows : List Row). length rows) c.as_slice.ensures)

pub returns-clause-listed : goal.returns-clause-listed
returns-clause-listed c =
    let old = substation_of c.args.self.now in
    listed (station_of old) c.args.now c.args.kind c.args.index c.args.reading
    (answer_of old.core.points c.args.kind c.args.index c.args.reading) _ (actions_of c.change_into.new.actions) c.args.substation
    c.args.overwritten.now.items c.put_all.new.self.items (rw c.points.ensures.value at (c.in_ok-change_into.ensures.changed tt))
    (c.put_all.ensures ∙ ap (λ (xs : List (ℕ × Row)). xs ++ at_substation c.args.substation c.as_slice.result.now) c.reserve_for_reading.ensures.list
    ∙ ap (λ (rows : List Row). c.args.overwritten.now.items ++ at_substation c.args.substation rows) c.as_slice.ensures)
