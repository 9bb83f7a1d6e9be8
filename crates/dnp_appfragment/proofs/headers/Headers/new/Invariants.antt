use Rattle.std.proofs.Common.{◌≡◌, length}
use Rattle.dnp_appfragment.specs.Headers.{begin}
use Rattle.dnp_appfragment.specs.Reading.{headers_from}
use Rattle.dnp_appfragment.proofs.Walk.{fault_of}
use Rattle.dnp_appfragment.proofs.headers.Headers.new.Given as goal

-- the first fault of what is left is that of all
abbrev pub invariant-loop-rest : goal.invariant-loop-rest
invariant-loop-rest l = fault_of (headers_from l.form l.common l.rest) ≡ fault_of (headers_from l.form begin l.octets)

abbrev pub decreases-loop-rest : goal.decreases-loop-rest
decreases-loop-rest l = length l.rest
