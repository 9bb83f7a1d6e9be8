-- What the stores tell is handed on.
use Rattle.dnp_world.proofs.Telling.{memory_is_no_device, no_fault, tells_nothing, tells_on}
use Rattle.dnp_world.proofs.parts.Parts.journal_below.Goals as goal

pub returns-in_err-rows-clause-device : goal.returns-in_err-rows-clause-device
returns-in_err-rows-clause-device g c =
    tells_on _ _ c.journal_for.result c.from_residual.result c.in_err-rows.field-0.0 c.in_err-rows.was c.from_residual.ensures.1 c.journal_for.ensures.device

pub returns-in_err-numbered_below-clause-device : goal.returns-in_err-numbered_below-clause-device
returns-in_err-numbered_below-clause-device g c =
    tells_nothing _ _ c.journal_for.result c.in_ok-rows.rows c.in_ok-rows.was c.journal_for.ensures.device
    (memory_is_no_device _ c.from_residual-in_err-numbered_below.ensures.1)

pub returns-clause-device : goal.returns-clause-device
returns-clause-device g c =
    tells_nothing _ _ c.journal_for.result c.in_ok-rows.rows c.in_ok-rows.was c.journal_for.ensures.device (no_fault _ _)
