use Rattle.dnp_objects.specs.Rows.{Reads, IsReadFault}
use Rattle.dnp_objects.proofs.FirstFaults.{only_right, only_fault}
use Rattle.dnp_objects.proofs.RowFaults.{one_reading, no_read_fault}
use Rattle.dnp_objects.proofs.reading.read_row.Goals as goal

pub returns-clause-only : goal.returns-clause-only
returns-clause-only c =
    let a = c.args in
    only_right (Reads a.group a.variation a.index a.octets.now) (IsReadFault a.group a.variation a.octets.now)
    (one_reading a.group a.variation a.index a.octets.now) (no_read_fault a.group a.variation a.index a.octets.now)
    c.read.result c.read.ensures.found c.read.ensures.fault

pub returns-clause-only_fault : goal.returns-clause-only_fault
returns-clause-only_fault c =
    let a = c.args in
    only_fault (Reads a.group a.variation a.index a.octets.now) (IsReadFault a.group a.variation a.octets.now)
    (no_read_fault a.group a.variation a.index a.octets.now)
    c.read.result c.read.ensures.found c.read.ensures.fault
