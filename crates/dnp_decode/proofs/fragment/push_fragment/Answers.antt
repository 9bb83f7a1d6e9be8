use Rattle.std.proofs.Common.{refl, rules}
use Rattle.dnp_decode.specs.FragmentLines.{Said, said_lines, IsRead}
use Rattle.dnp_decode.proofs.fragment.push_fragment.Goals as goal

pub returns-in_ok-push_said-in-Ok : goal.returns-in_ok-push_said-in-Ok
returns-in_ok-push_said-in-Ok c =
    let s : Said = record { line = c.in-Ok.line; headers = c.in-Ok.headers.headers } in
    (said_lines s, IsRead s (search rules) refl, c.in_ok-push_said-in-Ok.ensures)
