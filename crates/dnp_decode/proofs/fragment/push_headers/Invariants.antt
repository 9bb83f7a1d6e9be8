use Rattle.std.proofs.Common.{◌≡◌, ◌++◌}
use Rattle.dnp_decode.specs.FragmentLines.{headers_lines}
use Rattle.dnp_decode.proofs.fragment.push_headers.Given as goal

-- what is still to come
abbrev pub invariant-loop-header : goal.invariant-loop-header
invariant-loop-header l = (l.out.items ++ headers_lines l.header-iterator.headers) ≡ (l.initial.out.items ++ headers_lines l.initial.header-iterator.headers)
