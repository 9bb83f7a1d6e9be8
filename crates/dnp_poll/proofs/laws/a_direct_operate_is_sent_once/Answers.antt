use Rattle.dnp_poll.proofs.Directing.{directs_alone, directs_once, stays_spent}
use Rattle.dnp_poll.proofs.laws.a_direct_operate_is_sent_once.Goals as goal

pub returns-clause-once : goal.returns-clause-once
returns-clause-once g c = directs_once

pub returns-clause-alone : goal.returns-clause-alone
returns-clause-alone g c = directs_alone

pub returns-clause-stays : goal.returns-clause-stays
returns-clause-stays g c = stays_spent g.S.Show.shows
