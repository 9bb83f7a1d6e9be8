use Rattle.std.proofs.Common.{rules}
use Rattle.dnp_poll.specs.Polls.{Heard, Unheard}
use Rattle.dnp_poll.proofs.poller_station.PollerStation.receive.Goals as goal

pub returns-in-Ok-clause-answered : goal.returns-in-Ok-clause-answered
returns-in-Ok-clause-answered g c = λ honest. Heard c.in-Ok.ensures.heard

pub returns-in-Err-clause-answered : goal.returns-in-Err-clause-answered
returns-in-Err-clause-answered g c = λ honest. Unheard c.in-Err.fault c.in-Err.ensures.stops (search rules) (search rules)
