use Rattle.std.proofs.Common.{refl}
use Rattle.dnp_linkframe.proofs.Units.{one_frame, no_fault}
use Rattle.dnp_linkframe.proofs.reading.read_frame_into.Goals as goal

pub returns-in_err-check_unit-clause-only : goal.returns-in_err-check_unit-clause-only
returns-in_err-check_unit-clause-only c = λ spelled s.
    absurd (no_fault c.args.unit.now spelled s c.in_err-check_unit.field-0.0 ((c.in_err-check_unit.ensures).fault.0))

pub returns-clause-only : goal.returns-clause-only
returns-clause-only c = λ spelled s. (refl, one_frame c.args.unit.now c.fill.new.frame spelled c.fill.ensures s)
