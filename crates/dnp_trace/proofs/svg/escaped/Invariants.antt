use Rattle.std.proofs.Common.{◌≡◌, ◌++◌, drop}
use Rattle.dnp_trace.specs.Charts.{text_escaped}
use Rattle.dnp_trace.proofs.svg.escaped.Given as goal

-- what is written and the octets to come
abbrev pub invariant-loop-octet : goal.invariant-loop-octet
invariant-loop-octet l = l.sheet ++ text_escaped (drop l.octet-index l.text) ≡ l.fn.sheet ++ text_escaped l.text
