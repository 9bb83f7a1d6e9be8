-- The laws of lower crates that the body calls are what the lemmas ask for.
use Rattle.dnp_world.proofs.OutstationAppends.{AppendLaws, appends_simulate}
use Rattle.dnp_world.proofs.outstation_laws.an_append_is_moves.Goals as goal

laws_of : goal.After-calls_leave_nothing_else_given → AppendLaws
laws_of c = record {
  rows = record {
    appended = c.lanes_are_moved.ensures.appended;
    dropped = c.an_append_is_of_one_row.ensures.dropped;
  };
  sound = c.lanes_stay_sound.ensures.appended;
  tidy = c.calls_leave_nothing_else_given.ensures.appended;
}

pub returns : goal.returns
returns c = appends_simulate (laws_of c)
