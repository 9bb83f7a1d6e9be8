-- What the stores tell is handed on.
use Rattle.dnp_world.proofs.Telling.{tells_on}
use Rattle.dnp_world.proofs.parts.Parts.status_on.Goals as goal

pub returns-in_err-entry-in-Below-clause-device : goal.returns-in_err-entry-in-Below-clause-device
returns-in_err-entry-in-Below-clause-device g c =
    tells_on _ _ c.entry_below.result c.from_residual.result c.in_err-entry-in-Below.field-0.0 c.in_err-entry-in-Below.was c.from_residual.ensures.1
    c.entry_below.ensures.device

pub returns-in_err-entry-in-Above-clause-device : goal.returns-in_err-entry-in-Above-clause-device
returns-in_err-entry-in-Above-clause-device g c =
    tells_on _ _ c.entry_above.result c.from_residual-in_err-entry-in-Above.result c.in_err-entry-in-Above.field-0.0 c.in_err-entry-in-Above.was
    c.from_residual-in_err-entry-in-Above.ensures.1 c.entry_above.ensures.device
