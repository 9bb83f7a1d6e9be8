use Rattle.dnp_pointdb.proofs.Events.{event_exactly, event_row}
use Rattle.dnp_pointdb.proofs.laws.a_change_of_note_is_an_event.Goals as goal

pub returns : goal.returns
returns c = record { event = event_exactly; row = event_row }
