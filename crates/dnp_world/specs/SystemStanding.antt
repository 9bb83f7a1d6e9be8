-- Definition: what stands behind a whole system, as one centre sees it: a link of the law to each substation and one above, of these
-- stations over these lines, that have the lists which the system keeps (own rule). No field holds them.
use Rattle.std.specs.Prelude.{◌≡◌, ℕ, List, [], map, slice_get, IfSome, ⊤}
use Rattle.dnp_objects.specs.declared.row.Row.{Row}
use Rattle.dnp_concentrator.specs.declared.plan.Plan.{Plan}
use Rattle.dnp_concentrator.specs.IndexMap.{IsMap}
use Rattle.dnp_concentrator.specs.Plan.{KeepsLimits, map_of}
use Rattle.dnp_concentrator.specs.PointsAbove.{points_above, points_below}
use Rattle.dnp_concentrator.specs.Relaying.{Relaying}
use Rattle.dnp_master.specs.State as master
use Rattle.dnp_outstation.specs.State.{State}
use Rattle.dnp_pointdb.specs.Plan as points
use Rattle.dnp_world.specs.Behind.{Elsewhere, Links, IsBehind, made_at, rows_of}
use Rattle.dnp_world.specs.Channels.{ChannelState}
use Rattle.dnp_world.specs.Joined.{Joined}
use Rattle.dnp_world.specs.Kept.{kept_in, report_of}
use Rattle.dnp_world.specs.LawLink.{LawLink}
use Rattle.dnp_world.specs.OneLinkEvents.{LinkState}
use Rattle.dnp_world.specs.OutstationSeen.{ShowOctets}
use Rattle.dnp_world.specs.Reports.{IsFate}
use Rattle.dnp_world.specs.Systems.{SubstationState, System, station_of, panel_of, middle_of, link_at}

-- ---- a link of a system, as a link by itself

-- the rows that a link by itself would list
pub record RowLists : Type 0 where
  pub taken : List Row
  pub released : List Row
  pub left : List Row

abbrev pub lists_of : LawLink → RowLists
lists_of l = record { taken = rows_of l.took; released = rows_of l.released; left = rows_of l.left }

-- these stations over these lines; the master's rows go to no sink of the link's own
abbrev pub seen : State → master.State → ChannelState → ℕ → RowLists → LinkState ⊤
seen outstation master channel now lists = record {
  outstation = outstation;
  master = master;
  sink = tt;
  channel = channel;
  now = now;
  taken = lists.taken;
  released = lists.released;
  left = lists.left;
}

abbrev pub no_sink : ⊤ → List Row → List Row → List Row → ⊤ → Type 0
no_sink old events statics dropped new = ⊤

-- the link to a substation, and the link between concentrator and centre
abbrev pub seen_below : ℕ → Relaying → SubstationState → RowLists → LinkState ⊤
seen_below now relaying substation lists = seen (station_of substation) relaying.master substation.channel now lists

abbrev pub seen_above : System → RowLists → LinkState ⊤
seen_above s lists = seen (middle_of s.concentrator) s.centre.link.master s.above s.now lists

-- ---- what stands behind

-- a substation's link is joined to a link of the law, and its outputs show octets
pub record IsJoinedBelow (now : ℕ) (relaying : Relaying) (l : LawLink) (substation : SubstationState) : Type 0 where
  pub joined : Joined [] (seen_below now relaying substation (lists_of l)) l
  pub shown : ShowOctets (panel_of substation)

-- the points that a link's master asks for
abbrev pub points_asked : Relaying → points.Plan
points_asked r = r.master.plan

-- The system is of this plan, which keeps its limits: all stations have its index map, the concentrator has its points above, and each
-- substation's master has the substation's points.
pub record IsOfPlan (plan : Plan) (s : System) : Type 0 where
  pub limits : KeepsLimits plan
  pub is_map : IsMap s.indices
  pub indices : s.indices ≡ map_of plan
  pub middle_indices : s.concentrator.indices ≡ s.indices
  pub centre_indices : s.centre.indices ≡ s.indices
  pub middle_points : s.concentrator.points ≡ points_above plan
  pub masters : map points_asked s.concentrator.links ≡ map points_below plan.substations

pub record IsStanding (el : Elsewhere) (s : System) : Type 0 where
  pub plan : Plan
  pub of_plan : IsOfPlan plan s
  pub links : Links
  pub below : (substation : ℕ) → IfSome (slice_get s.substations substation) (IsJoinedBelow s.now (link_at s.concentrator substation) (links.below substation))
  pub above : Joined [] (seen_above s (lists_of links.above)) links.above
  pub behind : IsBehind s.indices el links (kept_in s)

-- After an event something stands behind the system again, and what happened is what had happened and these rows of a substation.
pub record Keeps (el : Elsewhere) (substation : ℕ) (made : List Row) (old new : System) : Type 0 where
  pub standing : IsStanding el new
  pub fate : IsFate (made_at substation made) (report_of old) (report_of new)
