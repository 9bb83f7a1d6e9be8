use Rattle.dnp_outstation.proofs.KeptPoints.{end_points, opened_keeps, received_keeps, ticked_keeps}
use Rattle.dnp_outstation.proofs.lane_laws.a_connection_leaves_the_points_alone.Goals as goal

pub returns-clause-opened : goal.returns-clause-opened
returns-clause-opened c = λ s now. let kept = opened_keeps s now in record { points = kept.points; times = kept.times }

pub returns-clause-received : goal.returns-clause-received
returns-clause-received c = λ s o now octets. let kept = received_keeps s o now octets in record { points = kept.points; times = kept.times }

pub returns-clause-ticked : goal.returns-clause-ticked
returns-clause-ticked c = λ s now. let kept = ticked_keeps s now in record { points = kept.points; times = kept.times }

pub returns-clause-ended : goal.returns-clause-ended
returns-clause-ended c = end_points
