use Rattle.std.proofs.Common.{◌≡◌, ℕ, ◌+◌, ◌≤◌, ◌++◌, ◌∷◌, [], List, Some, None, length, map, ap, sym, ◌∙◌, subst, rules, arith, length-append}
use Rattle.dnp_daemons.specs.ScriptLines.{first_unread}
use Rattle.dnp_daemons.specs.Words.{lines_of}
use Rattle.dnp_daemons.specs.steps.Judging.{reading_by}
use Rattle.dnp_daemons.proofs.Scripts.{misfit_here, read_here}
use Rattle.dnp_daemons.proofs.script.checking.check_script.Goals as goal

pub returns-in_default-clause-refused : goal.returns-in_default-clause-refused
returns-in_default-clause-refused c = λ line e.
    let r = reading_by c.args.carried (length c.as_slice-substations.result.now) in
    let first = c.first_line.result.0.now in
    let more = lines_of c.first_line.result.1.now in
    let lines = lines_of c.args.text.now in
    let (utf8, (script, stands, number, few)) = c.loop-rest.invariant in
    let none : r first ≡ None = sym c.in_ok-read_line_by.ensures ∙ c.in_default.is in
    let here : map Some script ++ map r (first ∷ more) ≡ map r lines =
    ap (λ (l : List (List ℕ)). map Some script ++ map r l) (sym c.first_line.ensures.lines) ∙ stands in
    let same : c.loop-rest.number ≡ line = cc in
    subst (λ (n : ℕ). first_unread (reading_by c.args.carried n) lines ≡ Some line) (ap length c.as_slice-substations.ensures)
    (misfit_here r script first more lines none here ∙ ap Some (sym number ∙ same))

pub loop-rest-preserved : goal.loop-rest-preserved
loop-rest-preserved c =
    let r = reading_by c.args.carried (length c.as_slice-substations.result.now) in
    let first = c.first_line.result.0.now in
    let more = lines_of c.first_line.result.1.now in
    let read = c.in-Some.field-0 in
    let (utf8, (script, stands, number, few)) = c.loop-rest.invariant in
    let some : r first ≡ Some read = sym c.in_ok-read_line_by.ensures ∙ c.in-Some.is in
    let here : map Some script ++ map r (first ∷ more) ≡ map r (lines_of c.args.text.now) =
    ap (λ (l : List (List ℕ)). map Some script ++ map r l) (sym c.first_line.ensures.lines) ∙ stands in
    let longer : length (script ++ read ∷ []) ≡ length script + 1 = length-append script (read ∷ []) in (
      search rules,
      (script ++ read ∷ [], read_here r script first more (map r (lines_of c.args.text.now)) read some here, omega arith, omega arith),
    )
