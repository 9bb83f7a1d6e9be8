use Rattle.std.proofs.Common.{◌≡◌}
use Rattle.std.specs.List.{list_all}
use Rattle.dnp_master.specs.declared.gathering.Gathering.{Gathering}
use Rattle.dnp_master.specs.steps.Gathering.{Gathers}
use Rattle.dnp_master.specs.Rows.{is_reported}
use Rattle.dnp_master.proofs.gathering.gather_rows.Given as goal

abbrev pub invariant-loop-row : goal.invariant-loop-row
invariant-loop-row l = record {
  all : list_all (is_reported l.plan) l.row-iterator ≡ list_all (is_reported l.plan) l.initial.row-iterator;
  rest : (n : Gathering) → Gathers l.gathering l.row-iterator n → Gathers l.initial.gathering l.initial.row-iterator n;
}
