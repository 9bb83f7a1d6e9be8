use Rattle.std.proofs.Common.{refl, Some}
use Rattle.dnp_appfragment.specs.declared.function.Function.TheVariants as function
use Rattle.dnp_appfragment.proofs.RelativePut.{common_put, relative_put, relative_sized}
use Rattle.dnp_appfragment.proofs.Responses.{event_stands, point_stands, object_stands, header_stands}
use Rattle.dnp_appfragment.proofs.laws.built.what_is_put_stands_in_a_response.Goals as goal

pub returns-clause-event : goal.returns-clause-event
returns-clause-event c = event_stands c.a_written_row_fills_its_object.ensures

pub returns-clause-point : goal.returns-clause-point
returns-clause-point c = point_stands c.a_written_row_fills_its_object.ensures

pub returns-clause-common : goal.returns-clause-common
returns-clause-common c = λ context time. common_put function.Response context time refl

pub returns-clause-relative : goal.returns-clause-relative
returns-clause-relative c = λ common row fits.
    (relative_put c.a_relative_row_is_read.ensures.low function.Response (Some common) common row refl refl fits, relative_sized)

pub returns-clause-object : goal.returns-clause-object
returns-clause-object c = object_stands

pub returns-clause-header : goal.returns-clause-header
returns-clause-header c = header_stands
