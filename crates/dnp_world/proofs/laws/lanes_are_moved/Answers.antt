-- The laws of `dnp_eventbuf` that the body calls are what the lemmas ask for.
use Rattle.std.proofs.Common.{refl}
use Rattle.dnp_world.proofs.LaneMoves.{Laws, sound_fresh, append_moves, empty_moves, release_moves, release_gives}
use Rattle.dnp_world.proofs.laws.lanes_are_moved.Goals as goal

laws_of : goal.After-each_row_stands_once → Laws
laws_of c = record {
  left = c.a_release_is_by_ids.ensures.left;
  given = c.a_release_is_by_ids.ensures.given;
  appended = c.an_append_is_of_one_row.ensures.rows;
  once = c.each_row_stands_once.ensures.once;
  ids = c.each_row_stands_once.ensures.ids;
  emptied = c.each_row_stands_once.ensures.emptied;
}

pub returns-clause-fresh : goal.returns-clause-fresh
returns-clause-fresh c = λ s sound. (sound_fresh (laws_of c) s sound, record { rows = refl; last_id = refl })

pub returns-clause-appended : goal.returns-clause-appended
returns-clause-appended c = append_moves (laws_of c)

pub returns-clause-emptied : goal.returns-clause-emptied
returns-clause-emptied c = empty_moves (laws_of c)

pub returns-clause-released : goal.returns-clause-released
returns-clause-released c = release_moves (laws_of c)

pub returns-clause-given : goal.returns-clause-given
returns-clause-given c = release_gives (laws_of c)
