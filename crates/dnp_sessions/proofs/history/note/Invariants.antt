use Rattle.std.proofs.Common.{◌≡◌, ◌++◌, drop}
use Rattle.dnp_sessions.specs.Sessions.{noted_in}
use Rattle.dnp_sessions.proofs.history.note.Given as goal

-- what was noted and the octets to come
abbrev pub invariant-loop-octet : goal.invariant-loop-octet
invariant-loop-octet l = noted_in l.history.items ++ drop l.octet-index l.octets ≡ noted_in l.fn.history.items ++ l.octets
