use Rattle.std.proofs.Common.{List, ℕ, Option, IfSome, ◌+◌, ◌<◌, ap, sym, subst, ◌∙◌, rules, arith}
use Rattle.dnp_daemons.specs.IdleLines.{idle_from}
use Rattle.dnp_daemons.specs.Words.{lines_of}
use Rattle.dnp_daemons.specs.declared.script.idle.IdleLines.{IdleLines}
use Rattle.dnp_daemons.specs.steps.Idle.{found_before}
use Rattle.dnp_daemons.proofs.IdleFinding.{found_next, found_fewer}
use Rattle.dnp_daemons.proofs.script.idle.idle_lines.Goals as goal

pub loop-rest-preserved : goal.loop-rest-preserved
loop-rest-preserved c =
    let plan = c.args.plan.now in
    let found = c.loop-rest.found in
    let number = c.loop-rest.number in
    let line = c.first_line.result.0.now in
    let more = lines_of c.first_line.result.1.now in
    let reason = c.in_ok-line_reason.field-0 in
    let (utf8, all, some, few, _) = c.loop-rest.invariant in (
      search rules,
      all
          ∙ ap (λ (lines : List (List ℕ)). found_before found (idle_from plan number lines)) c.first_line.ensures.lines
          ∙ found_next plan found number line more reason c.in_ok-line_reason.ensures
          ∙ ap (λ (f : Option IdleLines). found_before f (idle_from plan (number + 1) more)) (sym c.found_after-found.ensures),
      omega arith,
      subst (λ (f : Option IdleLines). IfSome f (λ (lines : IdleLines). lines.count < number + 1)) (sym c.found_after-found.ensures)
          (found_fewer found number reason some few),
      omega arith,
    )
