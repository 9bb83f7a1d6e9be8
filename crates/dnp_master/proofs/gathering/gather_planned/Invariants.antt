use Rattle.std.proofs.Common.{filter}
use Rattle.dnp_master.specs.declared.gathering.Gathering.{Gathering}
use Rattle.dnp_master.specs.steps.Gathering.{Gathers, IsKnown}
use Rattle.dnp_master.specs.Rows.{is_planned}
use Rattle.dnp_master.proofs.gathering.gather_planned.Given as goal

abbrev pub invariant-loop-row : goal.invariant-loop-row
invariant-loop-row l = record {
  known : IsKnown l.plan l.known;
  rest : (n : Gathering) → Gathers l.gathering (filter (is_planned l.plan) l.row-iterator) n
      → Gathers l.initial.gathering (filter (is_planned l.plan) l.initial.row-iterator) n;
}
