use Rattle.dnp_controls.proofs.Setting.{IsLeftBy-nothing}
use Rattle.dnp_controls.proofs.latest.Latest.new.Goals as goal

pub invariant_of-result : goal.invariant_of-result
invariant_of-result c = IsLeftBy-nothing _ c.new.ensures
