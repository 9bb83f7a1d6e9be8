-- Definition: a whole system with two centres, by what it holds, and what each of them sees of it: a system with one centre (own rule:
-- IEEE Std 1815-2012 speaks of one link at a time).
use Rattle.std.specs.Prelude.{ℕ, List}
use Rattle.dnp_objects.specs.declared.command.Command.{Command}
use Rattle.dnp_objects.specs.declared.row.Row.{Row}
use Rattle.dnp_concentrator.specs.Relaying.{Relaying}
use Rattle.dnp_concentrator.specs.Reserving.{reserved_beside}
use Rattle.dnp_concentrator.specs.PerCentre.{at}
use Rattle.dnp_concentrator.specs.declared.span.Spans.{Spans}
use Rattle.dnp_concentrator.specs.declared.per_centre.PerCentre.{PerCentre}
use Rattle.dnp_controls.specs.Book.{Ledger}
use Rattle.dnp_eventbuf.specs.EventBuffer.{EventBuffer}
use Rattle.dnp_outstation.specs.State.{Core}
use Rattle.dnp_pointdb.specs.Plan as points
use Rattle.dnp_world.specs.Channels.{ChannelState}
use Rattle.dnp_world.specs.Systems.{CentreState, SubstationState, System}

-- ---- what it holds

-- an outstation and a queue for each centre; the book of controls and the links below are shared
pub record WholeConcentrator : Type 0 where
  pub cores : PerCentre Core
  pub queues : PerCentre EventBuffer
  pub indices : List Spans
  pub points : points.Plan
  pub controls : Ledger
  pub links : List Relaying

-- what became of rows and commands: full lanes of each queue dropped rows of their own
pub record WholeHistory : Type 0 where
  pub confirmed : List (ℕ × Row)
  pub overwritten : List (ℕ × Row)
  pub gone : List (ℕ × Row)
  pub dropped : PerCentre (List Row)
  pub issued : List (ℕ × Command)
  pub operated : List (ℕ × Command)

pub record Whole : Type 0 where
  pub indices : List Spans
  pub substations : List SubstationState
  pub concentrator : WholeConcentrator
  pub centres : PerCentre CentreState
  -- the lines between the concentrator and each centre
  pub above : PerCentre ChannelState
  pub now : ℕ
  pub history : WholeHistory

-- ---- what a centre sees of it

-- all but what is another centre's alone; of that no more than the point that its select reserves
abbrev pub seen_by : ℕ → Whole → System
seen_by centre w = record {
  indices = w.indices;
  substations = w.substations;
  concentrator = record {
    core = at centre w.concentrator.cores;
    queue = at centre w.concentrator.queues;
    indices = w.concentrator.indices;
    points = w.concentrator.points;
    controls = w.concentrator.controls;
    reserved = reserved_beside centre w.concentrator.cores;
    links = w.concentrator.links;
  };
  centre = at centre w.centres;
  above = at centre w.above;
  now = w.now;
  history = record {
    confirmed = w.history.confirmed;
    overwritten = w.history.overwritten;
    gone = w.history.gone;
    dropped = at centre w.history.dropped;
    issued = w.history.issued;
    operated = w.history.operated;
  };
}
