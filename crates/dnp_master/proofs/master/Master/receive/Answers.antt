use Rattle.std.proofs.Common.{rules}
use Rattle.dnp_master.proofs.master.Master.receive.Goals as goal

pub returns-in_err-taken-clause-sink : goal.returns-in_err-taken-clause-sink
returns-in_err-taken-clause-sink g c =
    let same = g.met.S.Sink.keeps_itself c.args.sink.now in
    search rules
