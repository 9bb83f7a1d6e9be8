use Rattle.dnp_outstation.proofs.Left.{begins_tidy, begins_used, new_leaves_nothing, released_is_tidy, appended_leaves, released_leaves, emptied_leaves}
use Rattle.dnp_outstation.proofs.laws.nothing_else_given_is_left.Goals as goal

pub returns-clause-begins : goal.returns-clause-begins
returns-clause-begins c = begins_tidy

pub returns-clause-begins_used : goal.returns-clause-begins_used
returns-clause-begins_used c = begins_used

pub returns-clause-new : goal.returns-clause-new
returns-clause-new c = new_leaves_nothing

pub returns-clause-released : goal.returns-clause-released
returns-clause-released c = released_is_tidy c.a_release_is_lane_by_lane.ensures

pub returns-clause-appended : goal.returns-clause-appended
returns-clause-appended c = appended_leaves c.ids_are_used_once.ensures.new_ids c.ids_are_used_once.ensures.last_id

pub returns-clause-others_released : goal.returns-clause-others_released
returns-clause-others_released c = released_leaves c.ids_are_used_once.ensures.left

pub returns-clause-emptied : goal.returns-clause-emptied
returns-clause-emptied c = emptied_leaves
