use Rattle.std.proofs.Common.{◌≡◌}
use Rattle.std.specs.List.{All}
use Rattle.dnp_objects.specs.Events.{IsEvent}
use Rattle.dnp_appfragment.specs.EventRows.{events_in}
use Rattle.dnp_master.specs.declared.gathering.Gathering.{Gathering}
use Rattle.dnp_master.specs.steps.Gathering.{Gathers}
use Rattle.dnp_master.specs.Rows.{is_from_plan}
use Rattle.dnp_master.proofs.gathering.gather_events.Given as goal

abbrev pub invariant-loop-header : goal.invariant-loop-header
invariant-loop-header l = record {
  all : is_from_plan l.plan l.header-iterator.headers ≡ is_from_plan l.plan l.initial.header-iterator.headers;
  rest : (n : Gathering) → Gathers l.gathering (events_in l.header-iterator.headers) n
      → Gathers l.initial.gathering (events_in l.initial.header-iterator.headers) n;
  carried : All IsEvent (events_in l.header-iterator.headers) → All IsEvent (events_in l.initial.header-iterator.headers);
}
