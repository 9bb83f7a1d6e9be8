use Rattle.std.proofs.Common.{◌≡◌, false, not, true, [], sym, ◌∙◌}
use Rattle.sqlite.specs.Held.{state}
use Rattle.dnp_store.proofs.Refusing.{cut_if, lost_open, not_so, same_some}
use Rattle.dnp_store.proofs.open.last_fault.Goals as goal

pub returns-in-Err-clause-device : goal.returns-in-Err-clause-device
returns-in-Err-clause-device g c clean told =
    let lost : not c.is_memory.result ≡ true = lost_open false (not c.is_memory.result) c.open_fault.result c.open_fault.ensures (same_some told) in
    cut_if (state g.S.Store c.args.conn.now) (state g.S.Store c.probe.new.conn) _ (c.in-Err.ensures.refused clean [])
    (sym c.is_memory.ensures ∙ not_so c.is_memory.result lost)
