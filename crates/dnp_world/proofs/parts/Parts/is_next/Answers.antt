-- What the books tell is handed on.
use Rattle.dnp_world.proofs.Telling.{tells_after, tells_on}
use Rattle.dnp_world.proofs.parts.Parts.is_next.Goals as goal

pub returns-in_err-free-clause-device : goal.returns-in_err-free-clause-device
returns-in_err-free-clause-device g c =
    tells_on _ _ c.is_free.result c.from_residual.result c.in_err-free.field-0.0 c.in_err-free.was c.from_residual.ensures.1 c.is_free.ensures.device

pub returns-in_err-next-clause-device : goal.returns-in_err-next-clause-device
returns-in_err-next-clause-device g c =
    tells_after _ _ _ c.is_free.result c.in_ok-free.free c.in_ok-free.was c.is_free.ensures.device
    (tells_on _ _ c.next_above.result c.from_residual-in_err-next.result c.in_err-next.field-0.0 c.in_err-next.was c.from_residual-in_err-next.ensures.1
    c.next_above.ensures.device)
