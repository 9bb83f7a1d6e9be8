-- A step of a unit that was noted has a line.
use Rattle.std.proofs.Common.{◌≡◌, ℕ, List, [], ◌++◌, Some, None, slice_get, subst, sym, append-nil, arith}
use Rattle.std.proofs.lemmas.Grind.{common_steps}
use Rattle.std.proofs.lemmas.Option.{gets}
use Rattle.dnp_trace.specs.declared.noted.Step.{Step}
use Rattle.dnp_trace.specs.Traces.{Passes, Says, Misses, IsStepText, step_line}
use Rattle.dnp_trace.proofs.trace.say_happened.Goals as goal

pub returns-in-Line : goal.returns-in-Line
returns-in-Line c = (
  [],
  subst (λ (s : Step). IsStepText c.args.units.now s []) (sym c.in-Line.is) (Passes c.in-Line.moment c.in-Line.line),
  sym (append-nil c.args.sheet.now),
)

pub returns-in_ok-say_step-in-Some : goal.returns-in_ok-say_step-in-Some
returns-in_ok-say_step-in-Some c =
    let said = c.in_ok-say_step-in-Some.ensures in
    let looked = c.in-Some.ensures.lookup in
    let found : slice_get c.args.units.now c.in-Unit.unit ≡ Some c.in-Some.unit.now = grind (arith, common_steps, gets) in (
      step_line c.in-Unit.moment c.in-Some.unit.now.course c.in-Unit.what said.0,
      subst (λ (s : Step). IsStepText c.args.units.now s (step_line c.in-Unit.moment c.in-Some.unit.now.course c.in-Unit.what said.0)) (sym c.in-Unit.is)
          (Says c.in-Unit.moment c.in-Unit.unit c.in-Unit.what c.in-Some.unit.now said.0 found said.1),
      said.2,
    )

pub returns-in-None : goal.returns-in-None
returns-in-None c =
    let looked = c.in-None.ensures.lookup in
    let missing : slice_get c.args.units.now c.in-Unit.unit ≡ None = grind (arith, common_steps, gets) in (
      [],
      subst (λ (s : Step). IsStepText c.args.units.now s []) (sym c.in-Unit.is) (Misses c.in-Unit.moment c.in-Unit.unit c.in-Unit.what missing),
      sym (append-nil c.args.sheet.now),
    )
