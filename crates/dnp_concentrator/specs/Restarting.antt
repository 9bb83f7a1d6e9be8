-- Definition: what a restart leaves of a concentrator and of a centre, beside what is made new of their plan.
use Rattle.std.specs.Prelude.{◌≡◌, List, map}
use Rattle.dnp_outstation.specs.Calls.{restarted_core}
use Rattle.dnp_outstation.specs.State.{Core}
use Rattle.dnp_outstation.specs.Station.{new_core}
use Rattle.dnp_pointdb.specs.Database.{new_database}
use Rattle.dnp_concentrator.specs.declared.plan.Plan.{Plan}
use Rattle.dnp_concentrator.specs.Below.{new_links}
use Rattle.dnp_concentrator.specs.PointsAbove.{points_above}
use Rattle.dnp_concentrator.specs.Relaying.{Relaying, hung_up, new_relaying}

-- a restart leaves the outstation above and the links below as new ones of the plan, whatever was read and whatever came
pub record RestartsAsNew (plan : Plan) (core : Core) (links : List Relaying) : Type 0 where
  pub above : restarted_core core ≡ new_core (new_database (points_above plan)) plan.times
  pub below : map hung_up links ≡ new_links plan

-- the same of a centre's link
abbrev pub LinkRestartsAsNew : Plan → Relaying → Type 0
LinkRestartsAsNew plan link = hung_up link ≡ new_relaying (points_above plan) plan.times
