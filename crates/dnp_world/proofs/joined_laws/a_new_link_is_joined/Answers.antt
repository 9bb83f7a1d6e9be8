use Rattle.dnp_pointdb.specs.Database.{new_database}
use Rattle.dnp_world.specs.Lanes.{fresh_link}
use Rattle.dnp_world.proofs.JoinedRuns.{new_joined}
use Rattle.dnp_world.proofs.joined_laws.a_new_link_is_joined.Goals as goal

pub returns : goal.returns
returns g c plan times lanes performed peer own sink points sound = record {
  link = fresh_link lanes;
  stands = c.link_law.ensures.start (fresh_link lanes) (c.lanes_are_moved.ensures.fresh lanes sound).0;
  joined = new_joined c.line_law.ensures.opened plan times lanes performed peer own sink
      (c.a_new_outstation_is_shown.ensures (new_database plan) times lanes performed points sound);
}
