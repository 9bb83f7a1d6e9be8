use Rattle.std.proofs.Common.{Bool, List, ap}
use Rattle.std.specs.Cmp.{booleans_Decides}
use Rattle.std.proofs.lemmas.Slice.Eq.{slice_eq-Decides}
use Rattle.dnp_master.specs.declared.task.Classes.{Classes}
use Rattle.dnp_nodes.proofs.requests.are_same.Goals as goal

abbrev classes_of : List Bool → Classes
classes_of each = record { 0 = each }

pub returns-clause-same : goal.returns-clause-same
returns-clause-same c equal = ap classes_of ((slice_eq-Decides booleans_Decides c.args.left.0 c.args.right.0 c.eq.result c.eq.ensures).0 equal)

pub returns-clause-other : goal.returns-clause-other
returns-clause-other c unequal same =
    cc ((slice_eq-Decides booleans_Decides c.args.left.0 c.args.right.0 c.eq.result c.eq.ensures).1 (ap (λ (it : Classes). it.0) same), unequal)
