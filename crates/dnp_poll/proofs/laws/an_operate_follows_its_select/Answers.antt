use Rattle.dnp_poll.proofs.Selecting.{operates_once, stands_by_success}
use Rattle.dnp_poll.proofs.laws.an_operate_follows_its_select.Goals as goal

pub returns-clause-operates : goal.returns-clause-operates
returns-clause-operates g c = operates_once c.an_operate_follows_its_select.ensures.operates

pub returns-clause-stands : goal.returns-clause-stands
returns-clause-stands g c = stands_by_success c.an_operate_follows_its_select.ensures.selects g.S.Show.shows
