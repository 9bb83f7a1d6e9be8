use Rattle.std.proofs.Common.{rules}
use Rattle.dnp_appfragment.specs.Whole.{response as answered}
use Rattle.dnp_poll.specs.Polls.{Taken}
use Rattle.dnp_poll.proofs.poller.Poller.take.Goals as goal

pub returns-clause-heard : goal.returns-clause-heard
returns-clause-heard g c octets read =
    let a = answered c.args.response.now in
    Taken a read c.requires (search rules) (search rules) (search rules)
