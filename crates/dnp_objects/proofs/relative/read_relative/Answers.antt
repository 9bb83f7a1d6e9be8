use Rattle.dnp_objects.specs.Relative.{IsRelative, IsRelativeReadFault}
use Rattle.dnp_objects.proofs.FirstFaults.{only_right, only_fault}
use Rattle.dnp_objects.proofs.Relatives.{one_relative, no_relative_fault}
use Rattle.dnp_objects.proofs.relative.read_relative.Goals as goal

pub returns-clause-only : goal.returns-clause-only
returns-clause-only c =
    let a = c.args in
    only_right (IsRelative a.index a.octets.now a.common) (IsRelativeReadFault a.octets.now a.common)
    (one_relative a.index a.octets.now a.common) (no_relative_fault a.index a.octets.now a.common)
    c.read.result c.read.ensures.found c.read.ensures.fault

pub returns-clause-only_fault : goal.returns-clause-only_fault
returns-clause-only_fault c =
    let a = c.args in
    only_fault (IsRelative a.index a.octets.now a.common) (IsRelativeReadFault a.octets.now a.common)
    (no_relative_fault a.index a.octets.now a.common)
    c.read.result c.read.ensures.found c.read.ensures.fault
