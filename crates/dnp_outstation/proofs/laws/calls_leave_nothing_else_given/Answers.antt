use Rattle.dnp_outstation.proofs.TidyCalls.{goes_on_tidily, received_tidy, closed_tidy, ticked_tidy, appended_tidy, released_tidy, emptied_tidy, changed_tidy, opened_tidy, restarted_tidy}
use Rattle.dnp_outstation.proofs.laws.calls_leave_nothing_else_given.Goals as goal

pub returns-clause-further : goal.returns-clause-further
returns-clause-further c = goes_on_tidily (record {
  sound = c.lanes_stay_sound.ensures.released;
  kept = c.nothing_else_given_is_left.ensures.others_released;
  tidy = c.nothing_else_given_is_left.ensures.released;
})

pub returns-clause-opened : goal.returns-clause-opened
returns-clause-opened c = opened_tidy

pub returns-clause-received : goal.returns-clause-received
returns-clause-received c = received_tidy (record {
  sound = c.lanes_stay_sound.ensures.released;
  kept = c.nothing_else_given_is_left.ensures.others_released;
  tidy = c.nothing_else_given_is_left.ensures.released;
})

pub returns-clause-ticked : goal.returns-clause-ticked
returns-clause-ticked c = ticked_tidy

pub returns-clause-changed : goal.returns-clause-changed
returns-clause-changed c = changed_tidy c.nothing_else_given_is_left.ensures.appended

pub returns-clause-closed : goal.returns-clause-closed
returns-clause-closed c = closed_tidy

pub returns-clause-restarted : goal.returns-clause-restarted
returns-clause-restarted c = restarted_tidy

pub returns-clause-appended : goal.returns-clause-appended
returns-clause-appended c = appended_tidy c.nothing_else_given_is_left.ensures.appended

pub returns-clause-released : goal.returns-clause-released
returns-clause-released c = released_tidy c.nothing_else_given_is_left.ensures.others_released

pub returns-clause-emptied : goal.returns-clause-emptied
returns-clause-emptied c = emptied_tidy
