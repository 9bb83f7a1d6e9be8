use Rattle.std.proofs.Common.{arith}
use Rattle.dnp_eventbuf.proofs.BufferedCalls.{append_seen, dropped_seen}
use Rattle.dnp_eventbuf.proofs.LaneNumbers.{lane_number-low}
use Rattle.dnp_eventbuf.proofs.link_laws.an_append_is_of_one_row.Goals as goal

pub returns-clause-rows : goal.returns-clause-rows
returns-clause-rows c = λ s x sound. append_seen s x (omega (arith, lane_number-low x.lane, sound.nine))

pub returns-clause-dropped : goal.returns-clause-dropped
returns-clause-dropped c = dropped_seen
