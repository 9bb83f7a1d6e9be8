use Rattle.std.proofs.Common.{[]}
use Rattle.sqlite.specs.Held.{state}
use Rattle.dnp_store.proofs.Standing.{keeps_open}
use Rattle.dnp_store.proofs.fault.probe.Goals as goal

pub returns-in-Err-clause-same : goal.returns-in-Err-clause-same
returns-in-Err-clause-same g c clean is_open =
    keeps_open (state g.S.Store c.args.conn.now) (state g.S.Store c.prepare.new.self) _ [] _ (c.in-Err.ensures.err clean []) is_open
