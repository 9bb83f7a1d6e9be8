use Rattle.std.proofs.Common.{refl}
use Rattle.dnp_appfragment.specs.Built.{context_of}
use Rattle.dnp_appfragment.specs.Table.{form_of}
use Rattle.dnp_appfragment.proofs.ObjectHeaders.{point_put}
use Rattle.dnp_appfragment.proofs.Places.{any_place, point_whole, point_other}
use Rattle.dnp_appfragment.proofs.builder.Builder.point.Goals as goal

pub put-requires-clause-fits : goal.put-requires-clause-fits
put-requires-clause-fits c = λ numbers.
    any_place (form_of c.args.self.now.function) (context_of c.args.self.now) _
    (point_put c.a_written_row_fills_its_object.ensures c.args.self.now.function c.args.group c.args.variation c.args.row.now c.requires.response
    c.requires.fits numbers.0)
    refl (point_whole c.args.group c.args.variation c.requires.fits.object_is)

pub put-requires-clause-other : goal.put-requires-clause-other
put-requires-clause-other c = point_other c.args.group c.args.variation c.requires.fits.object_is
