use Rattle.dnp_tcp.proofs.asking.Call.tell.Goals as goal

pub returns-in-Some-gone : goal.returns-in-Some-gone
returns-in-Some-gone g c = c.fail.ensures.undone c.args.seen.now.idle
