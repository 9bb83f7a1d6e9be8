use Rattle.dnp_master.specs.declared.gathering.Gathering.{Gathering}
use Rattle.dnp_master.specs.steps.Gathering.{Gathers}
use Rattle.dnp_master.specs.Rows.{statics_in}
use Rattle.dnp_master.proofs.gathering.gather_statics.Given as goal

abbrev pub invariant-loop-header : goal.invariant-loop-header
invariant-loop-header l =
    (n : Gathering) → Gathers l.gathering (statics_in l.plan l.header-iterator.headers) n
    → Gathers l.initial.gathering (statics_in l.plan l.initial.header-iterator.headers) n
