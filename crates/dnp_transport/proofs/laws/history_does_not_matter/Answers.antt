use Rattle.dnp_transport.proofs.Steps.{one_assembly, same_answer, same_next, same_shown}
use Rattle.dnp_transport.proofs.laws.history_does_not_matter.Goals as goal

pub returns : goal.returns
returns c = record { one = one_assembly; answers = same_answer; next = same_next; shown = same_shown }
