-- The laws that the body calls are what the lemmas ask for.
use Rattle.dnp_world.proofs.NewSystems.{NewLaws, nothing_to_show, stands_at_first}
use Rattle.dnp_world.proofs.standing_laws.a_new_system_stands.Goals as goal

laws_of : goal.After-line_law → NewLaws
laws_of c = record {
  at_first = c.lists_are_of_links.ensures.at_first;
  is_map = c.what_no_cause_refuses_is_a_map.ensures;
  sound_points = c.points_stay_sound.ensures.new;
  sound_lanes = c.lanes_stay_sound.ensures.made;
  fresh = c.lanes_are_moved.ensures.fresh;
  shown = c.a_new_outstation_is_shown.ensures;
  opened = c.line_law.ensures.opened;
}

pub returns-clause-stands : goal.returns-clause-stands
returns-clause-stands c = stands_at_first (laws_of c)

pub returns-clause-shows : goal.returns-clause-shows
returns-clause-shows c = nothing_to_show
