use Rattle.dnp_streams.proofs.links.Order.{each_passes, never_fall, none_early, opens_first, stops_last}
use Rattle.dnp_streams.proofs.laws.a_session_keeps_its_order.Goals as goal

pub returns-clause-moments : goal.returns-clause-moments
returns-clause-moments c old new steps follows = never_fall old new steps follows

pub returns-clause-opens : goal.returns-clause-opens
returns-clause-opens c old new steps follows unopened = opens_first old new steps follows unopened

pub returns-clause-passes : goal.returns-clause-passes
returns-clause-passes c old new steps follows settled = each_passes old new steps follows settled

pub returns-clause-due : goal.returns-clause-due
returns-clause-due c old new steps follows = none_early old new steps follows

pub returns-clause-stops : goal.returns-clause-stops
returns-clause-stops c old new steps follows = stops_last old new steps follows
