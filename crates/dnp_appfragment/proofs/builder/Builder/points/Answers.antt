use Rattle.std.proofs.Common.{◌≡◌, false, ◌||◌, ap, sym, refl, List, [], map}
use Rattle.dnp_objects.specs.declared.row.Row.{Row}
use Rattle.dnp_appfragment.specs.Built.{objects_put, with_objects}
use Rattle.dnp_appfragment.specs.Written.{point, is_point_object}
use Rattle.dnp_appfragment.proofs.PointObjects.{point_in_table, point_has_octets}
use Rattle.dnp_appfragment.proofs.Spans.{not_this, no_such_object}
use Rattle.dnp_appfragment.proofs.builder.Builder.points.Given.{Over}
use Rattle.dnp_appfragment.proofs.builder.Builder.points.Goals.{Joined-else-group-eq30}
use Rattle.dnp_appfragment.proofs.builder.Builder.points.Goals as goal

pub put_points-requires-clause-object : goal.put_points-requires-clause-object
put_points-requires-clause-object g c = point_in_table 1 2 refl

pub put_points-requires-clause-sized : goal.put_points-requires-clause-sized
put_points-requires-clause-sized g c = point_has_octets 1 2 refl

pub put_points-requires-then-variation-eq2-2-clause-object : goal.put_points-requires-then-variation-eq2-2-clause-object
put_points-requires-then-variation-eq2-2-clause-object g c = point_in_table 10 2 refl

pub put_points-requires-then-variation-eq2-2-clause-sized : goal.put_points-requires-then-variation-eq2-2-clause-sized
put_points-requires-then-variation-eq2-2-clause-sized g c = point_has_octets 10 2 refl

pub put_points-requires-then-variation-eq1-clause-object : goal.put_points-requires-then-variation-eq1-clause-object
put_points-requires-then-variation-eq1-clause-object g c = point_in_table 20 1 refl

pub put_points-requires-then-variation-eq1-clause-sized : goal.put_points-requires-then-variation-eq1-clause-sized
put_points-requires-then-variation-eq1-clause-sized g c = point_has_octets 20 1 refl

pub put_points-requires-then-variation-eq1-2-clause-object : goal.put_points-requires-then-variation-eq1-2-clause-object
put_points-requires-then-variation-eq1-2-clause-object g c = point_in_table 30 1 refl

pub put_points-requires-then-variation-eq1-2-clause-sized : goal.put_points-requires-then-variation-eq1-2-clause-sized
put_points-requires-then-variation-eq1-2-clause-sized g c = point_has_octets 30 1 refl

-- none of the tests found the object
none : (g : Over) (c : Joined-else-group-eq30 g) → is_point_object c.args.group c.args.variation ≡ false
none g c = (λ i.
    not_this 1 2 c.args.group c.args.variation c.else-group-eq1.either i
    || (not_this 10 2 c.args.group c.args.variation c.else-group-eq10.either i
    || (not_this 20 1 c.args.group c.args.variation c.else-group-eq20.either i
    || (not_this 30 1 c.args.group c.args.variation c.else-group-eq30.either i
    || false))))

pub returns-else-group-eq30-clause-count : goal.returns-else-group-eq30-clause-count
returns-else-group-eq30-clause-count g c =
    sym (ap (λ (rows : List Row). objects_put c.args.self.now (map (point c.args.group c.args.variation) rows))
    (no_such_object c.args.group c.args.variation (g.R.RowSource.rows c.args.rows) (none g c) c.requires.fits))

pub returns-else-group-eq30-clause-put : goal.returns-else-group-eq30-clause-put
returns-else-group-eq30-clause-put g c =
    sym (ap (λ (rows : List Row). with_objects c.args.self.now (map (point c.args.group c.args.variation) rows))
    (no_such_object c.args.group c.args.variation (g.R.RowSource.rows c.args.rows) (none g c) c.requires.fits))
