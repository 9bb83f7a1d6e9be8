use Rattle.dnp_controls.proofs.Latching.{IsLatchedBy-nothing}
use Rattle.dnp_controls.proofs.performed.Performed.new.Goals as goal

pub invariant_of-result : goal.invariant_of-result
invariant_of-result c = IsLatchedBy-nothing _ c.new.ensures.items
