use Rattle.std.proofs.Common.{◌≡◌, ℕ, ◌+◌, ◌++◌, ◌∷◌, List, Some, None, length, map, ap, sym, ◌∙◌, subst}
use Rattle.dnp_daemons.specs.ScriptLines.{first_unread, reading_of}
use Rattle.dnp_daemons.specs.Words.{lines_of}
use Rattle.dnp_daemons.proofs.Scripts.{misfit_here}
use Rattle.dnp_daemons.proofs.script.read_script.Goals as goal

pub returns-in_default-clause-refused : goal.returns-in_default-clause-refused
returns-in_default-clause-refused c = λ line e.
    let r = reading_of (length c.as_slice-substations.result.now) in
    let first = c.first_line.result.0.now in
    let more = lines_of c.first_line.result.1.now in
    let lines = lines_of c.args.text.now in
    let script = c.loop-rest.script.items in
    let none : r first ≡ None = sym c.in_ok-read.ensures ∙ c.in_default.is in
    let stands : map Some script ++ map r (first ∷ more) ≡ map r lines =
    ap (λ (l : List (List ℕ)). map Some script ++ map r l) (sym c.first_line.ensures.lines) ∙ c.loop-rest.invariant.1 in
    let number : c.loop-rest.number ≡ length script + 1 = c.loop-rest.invariant.2 in
    let same : c.loop-rest.number ≡ line = cc in
    subst (λ (n : ℕ). first_unread (reading_of n) lines ≡ Some line) (ap length c.as_slice-substations.ensures)
    (misfit_here r script first more lines none stands ∙ ap Some (sym number ∙ same))
