use Rattle.dnp_appfragment.proofs.RelativeRows.{any_row_event}
use Rattle.dnp_appfragment.proofs.laws.read.rows_are_events.Goals as goal

pub returns : goal.returns
returns c = any_row_event c.a_read_row_is_an_event.ensures c.a_relative_row_is_read.ensures.only
