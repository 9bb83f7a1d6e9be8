use Rattle.dnp_objects.specs.Commands.{object_of, index_of, command_octets}
use Rattle.dnp_objects.specs.Events.{event_object}
use Rattle.dnp_objects.specs.Rows.{written}
use Rattle.dnp_appfragment.proofs.ObjectHeaders.{row_sized, command_sized}
use Rattle.dnp_appfragment.proofs.Held.{indexed_holds, relative_holds, spanned_holds}
use Rattle.dnp_appfragment.proofs.laws.built.a_header_holds_what_was_put.Goals as goal

pub returns-clause-event : goal.returns-clause-event
returns-clause-event c = λ row fits index.
    let object = event_object row.kind row.time in
    indexed_holds object.0 object.1 row.index (written object.0 object.1 row) (row_sized c.a_written_row_fills_its_object.ensures object.0 object.1 row fits) index

pub returns-clause-relative : goal.returns-clause-relative
returns-clause-relative c = relative_holds

pub returns-clause-point : goal.returns-clause-point
returns-clause-point c = λ group variation row fits.
    spanned_holds group variation row.index (written group variation row)
    (row_sized c.a_written_row_fills_its_object.ensures group variation row fits.row_fits)

pub returns-clause-order : goal.returns-clause-order
returns-clause-order c = λ command status index.
    indexed_holds (object_of command).0 (object_of command).1 (index_of command) (command_octets command status) (command_sized command status) index
