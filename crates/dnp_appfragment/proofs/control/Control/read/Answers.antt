use Rattle.std.proofs.Common.{sym, ◌∙◌, ap}
use Rattle.dnp_appfragment.specs.Meaning.{control_of}
use Rattle.dnp_appfragment.proofs.Controls.{octet_of_control}
use Rattle.dnp_appfragment.proofs.control.Control.read.Goals as goal

pub returns-clause-only : goal.returns-clause-only
returns-clause-only c = λ control is same. ap control_of (sym same) ∙ octet_of_control control is
