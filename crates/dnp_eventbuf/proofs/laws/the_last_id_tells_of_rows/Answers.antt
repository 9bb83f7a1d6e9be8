use Rattle.dnp_eventbuf.proofs.Released.{any_over_lane, none_over_last, last_up_to_last}
use Rattle.dnp_eventbuf.proofs.laws.the_last_id_tells_of_rows.Goals as goal

pub returns-clause-over : goal.returns-clause-over
returns-clause-over c = any_over_lane

pub returns-clause-rows : goal.returns-clause-rows
returns-clause-rows c = none_over_last

pub returns-clause-last : goal.returns-clause-last
returns-clause-last c = last_up_to_last
