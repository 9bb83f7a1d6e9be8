use Rattle.dnp_outstation.proofs.LaneIds.{answer_ids, held_ids, read_ids}
use Rattle.dnp_outstation.proofs.lane_laws.fragments_have_an_id_for_each_lane.Goals as goal

pub returns-clause-answer : goal.returns-clause-answer
returns-clause-answer c = answer_ids

pub returns-clause-held : goal.returns-clause-held
returns-clause-held c = held_ids

pub returns-clause-further : goal.returns-clause-further
returns-clause-further c = read_ids
