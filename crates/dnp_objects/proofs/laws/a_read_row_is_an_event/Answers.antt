use Rattle.dnp_objects.proofs.ReadEvents.{read_is_event}
use Rattle.dnp_objects.proofs.laws.a_read_row_is_an_event.Goals as goal

pub returns : goal.returns
returns c = read_is_event
