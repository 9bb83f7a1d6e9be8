use Rattle.dnp_linkstation.proofs.Made.{one_station, same_answer, next_station}
use Rattle.dnp_linkstation.proofs.laws.history_does_not_matter.Goals as goal

pub returns : goal.returns
returns c = record { one = one_station; answers = same_answer; next = next_station }
