use Rattle.std.proofs.Common.{codes, refl, sym}
use Rattle.dnp_daemons.specs.Judgements.{NoPlan, NoScript, refused_line}
use Rattle.dnp_daemons.specs.Simulations.{Refused}
use Rattle.dnp_daemons.specs.steps.Judging.{reading_by}
use Rattle.dnp_daemons.proofs.Simulating.{cut_refusal, run_cut, run_done, says_so, spoken_cut, spoken_done}
use Rattle.dnp_daemons.proofs.sim.texts_by.Goals as goal

pub returns-in-Ok-simulate-clause-ends : goal.returns-in-Ok-simulate-clause-ends
returns-in-Ok-simulate-clause-ends g c = λ spoken.
    let (lines, good) = rw c.in-Good.is at c.in-Ok.ensures.judged in
    let says = says_so c.args.carried c.args.script.now lines (sym c.as_slice.ensures) good.read in
    run_done (reading_by c.args.carried) c.args.plan.now c.args.script.now _ lines c.in-Ok-simulate.field-0 _ _ good
    (c.in-Ok-simulate.ensures.ends (spoken_done c.args.stores c.in-Ok-simulate.field-0) lines says)

pub returns-in-Good-clause-ends : goal.returns-in-Good-clause-ends
returns-in-Good-clause-ends g c = λ spoken.
    let (lines, good) = rw c.in-Good.is at c.in-Ok.ensures.judged in
    let says = says_so c.args.carried c.args.script.now lines (sym c.as_slice.ensures) good.read in
    run_cut (reading_by c.args.carried) c.args.plan.now c.args.script.now _ lines c.in-Err-simulate.stop _ _ good
    (c.in-Err-simulate.ensures.ends (spoken_cut c.args.stores c.in-Err-simulate.stop spoken) lines says)

pub returns-in-Ok-print_refusal-clause-ends : goal.returns-in-Ok-print_refusal-clause-ends
returns-in-Ok-print_refusal-clause-ends g c = λ spoken.
    let none = rw c.in-NoPlan.is at c.in-Ok.ensures.judged in (
      refused_line (codes "plan") c.in-NoPlan.number,
      Refused (NoPlan c.in-NoPlan.number none refl) refl,
      c.in-Ok-print_refusal.ensures,
    )

pub returns-in-NoPlan-clause-ends : goal.returns-in-NoPlan-clause-ends
returns-in-NoPlan-clause-ends g c = λ spoken.
    let none = rw c.in-NoPlan.is at c.in-Ok.ensures.judged in
    cut_refusal (reading_by c.args.carried) c.args.plan.now c.args.script.now (codes "plan") c.in-NoPlan.number c.in-Err-print_refusal.stop _ _
    (NoPlan c.in-NoPlan.number none refl) c.in-Err-print_refusal.ensures

pub returns-in-Ok-print_refusal-2-clause-ends : goal.returns-in-Ok-print_refusal-2-clause-ends
returns-in-Ok-print_refusal-2-clause-ends g c = λ spoken.
    let none = rw c.in-NoScript.is at c.in-Ok.ensures.judged in (
      refused_line (codes "line") c.in-NoScript.number,
      Refused (NoScript c.in-NoScript.number none refl) refl,
      c.in-Ok-print_refusal-2.ensures,
    )

pub returns-clause-ends : goal.returns-clause-ends
returns-clause-ends g c = λ spoken.
    let none = rw c.in-NoScript.is at c.in-Ok.ensures.judged in
    cut_refusal (reading_by c.args.carried) c.args.plan.now c.args.script.now (codes "line") c.in-NoScript.number c.in-Err-print_refusal-2.stop _ _
    (NoScript c.in-NoScript.number none refl) c.in-Err-print_refusal-2.ensures
