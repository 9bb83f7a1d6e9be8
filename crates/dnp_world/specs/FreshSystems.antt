-- Definition: a system of a plan in which nothing has happened yet, over the stores that it is given: the whole, and as one centre
-- sees it (own rule: IEEE Std 1815-2012 speaks of one link at a time).
use Rattle.std.specs.Prelude.{ℕ, suc, List, [], ◌∷◌}
use Rattle.dnp_concentrator.specs.Addresses.{centre_address, outstation_address}
use Rattle.dnp_concentrator.specs.Below.{new_links}
use Rattle.dnp_concentrator.specs.Plan.{map_of}
use Rattle.dnp_concentrator.specs.PointsAbove.{points_above, points_at}
use Rattle.dnp_concentrator.specs.Relaying.{new_relaying}
use Rattle.dnp_concentrator.specs.Reserving.{none_reserved}
use Rattle.dnp_concentrator.specs.declared.addresses.TheConstants.{CONCENTRATOR_ABOVE, MASTER_BELOW}
use Rattle.dnp_concentrator.specs.declared.plan.Plan.{Plan}
use Rattle.dnp_concentrator.specs.declared.plan.SubPlan.{SubPlan}
use Rattle.dnp_concentrator.specs.PerCentre.{at, for_each}
use Rattle.dnp_concentrator.specs.declared.per_centre.PerCentre.{PerCentre}
use Rattle.dnp_controls.specs.Book.{Ledger}
use Rattle.dnp_eventbuf.specs.Archive.{Archive}
use Rattle.dnp_eventbuf.specs.EventBuffer.{EventBuffer, empty_buffer}
use Rattle.dnp_outstation.specs.State.{Core}
use Rattle.dnp_outstation.specs.Station.{new_core}
use Rattle.dnp_pointdb.specs.Database.{new_database}
use Rattle.dnp_pointdb.specs.declared.times.Times.{Times}
use Rattle.dnp_world.specs.Channels.{fresh_channel}
use Rattle.dnp_world.specs.Systems.{CentreState, SubstationState, History, System}
use Rattle.dnp_world.specs.Wholes.{Whole}

-- ---- substations

-- the substation of this number is closed, and holds and performed nothing
abbrev pub fresh_substation : Times → ℕ → SubPlan → SubstationState
fresh_substation times number plan = record {
  core = new_core (new_database (points_at plan)) times;
  lanes = empty_buffer plan.lanes;
  outputs = record { outputs = plan.outputs; setpoints = plan.setpoints; performed = [] };
  channel = fresh_channel (outstation_address number) MASTER_BELOW;
}

-- those of these numbers on
abbrev pub fresh_substations : Times → ℕ → List SubPlan → List SubstationState
fresh_substations times number [] = []
fresh_substations times number (plan ∷ plans) = fresh_substation times number plan ∷ fresh_substations times (suc number) plans

-- ---- the system

abbrev pub no_history : History
no_history = record { confirmed = []; overwritten = []; gone = []; dropped = []; issued = []; operated = [] }

-- the concentrator's outstation towards a centre
abbrev pub fresh_core : Plan → Core
fresh_core plan = new_core (new_database (points_above plan)) plan.times

abbrev pub fresh_centre : Plan → Archive → Ledger → CentreState
fresh_centre plan journal orders = record {
  indices = map_of plan;
  link = new_relaying (points_above plan) plan.times;
  journal = journal;
  orders = orders;
}

-- As the centre of this number sees it, all stations are closed, as after a restart, over this queue, this journal, and these books of
-- concentrator and centre.
abbrev pub fresh_system : Plan → ℕ → EventBuffer → Archive → Ledger → Ledger → System
fresh_system plan centre queue journal controls orders = record {
  indices = map_of plan;
  substations = fresh_substations plan.times 0 plan.substations;
  concentrator = record {
    core = fresh_core plan;
    queue = queue;
    indices = map_of plan;
    points = points_above plan;
    controls = controls;
    reserved = (λ now. none_reserved);
    links = new_links plan;
  };
  centre = fresh_centre plan journal orders;
  above = fresh_channel CONCENTRATOR_ABOVE (centre_address centre);
  now = 0;
  history = no_history;
}

-- the whole, over these queues, these journals, and these books of concentrator and centres
abbrev pub fresh_whole : Plan → PerCentre EventBuffer → PerCentre Archive → Ledger → PerCentre Ledger → Whole
fresh_whole plan queues journals controls orders = record {
  indices = map_of plan;
  substations = fresh_substations plan.times 0 plan.substations;
  concentrator = record {
    cores = for_each (λ centre. fresh_core plan);
    queues = queues;
    indices = map_of plan;
    points = points_above plan;
    controls = controls;
    links = new_links plan;
  };
  centres = for_each (λ centre. fresh_centre plan (at centre journals) (at centre orders));
  above = for_each (λ centre. fresh_channel CONCENTRATOR_ABOVE (centre_address centre));
  now = 0;
  history = record { confirmed = []; overwritten = []; gone = []; dropped = for_each (λ centre. []); issued = []; operated = [] };
}
