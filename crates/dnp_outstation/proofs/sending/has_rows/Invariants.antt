use Rattle.std.proofs.Common.{◌≡◌, drop}
use Rattle.dnp_outstation.specs.Connection.{has_rows}
use Rattle.dnp_outstation.proofs.sending.has_rows.Given as goal

-- what is left decides
abbrev pub invariant-loop-id : goal.invariant-loop-id
invariant-loop-id l = has_rows (drop l.id-index l.upto) ≡ has_rows l.upto
