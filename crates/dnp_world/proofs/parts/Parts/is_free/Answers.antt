-- What the book tells is handed on.
use Rattle.dnp_world.proofs.Telling.{tells_on}
use Rattle.dnp_world.proofs.parts.Parts.is_free.Goals as goal

pub returns-in_err-next-clause-device : goal.returns-in_err-next-clause-device
returns-in_err-next-clause-device g c =
    tells_on _ _ c.next_below.result c.from_residual.result c.in_err-next.field-0.0 c.in_err-next.was c.from_residual.ensures.1 c.next_below.ensures.device
