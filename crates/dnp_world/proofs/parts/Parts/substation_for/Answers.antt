-- What the stores tell is handed on.
use Rattle.dnp_world.proofs.Telling.{tells_on}
use Rattle.dnp_world.proofs.parts.Parts.substation_for.Goals as goal

pub returns-in_err-entry-clause-device : goal.returns-in_err-entry-clause-device
returns-in_err-entry-clause-device g c =
    tells_on _ _ c.entry_above.result c.from_residual.result c.in_err-entry.field-0.0 c.in_err-entry.was c.from_residual.ensures.1
    c.entry_above.ensures.device
