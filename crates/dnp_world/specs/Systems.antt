-- Definition: a whole system as one centre sees it, by what it holds: substations, a concentrator and the centre, the lines between
-- them, the moment, and what became of rows and commands so far (own rule: IEEE Std 1815-2012 speaks of one link at a time).
use Rattle.std.specs.Prelude.{ℕ, Bool, true, ◌&&◌, nat_lt, if◌then◌else◌, List, length, map, slice_get, Option, Some, None}
use Rattle.dnp_objects.specs.declared.row.Row.{Row}
use Rattle.dnp_objects.specs.declared.command.Command.{Command}
use Rattle.dnp_eventbuf.specs.Archive.{Archive}
use Rattle.dnp_eventbuf.specs.EventBuffer.{EventBuffer}
use Rattle.dnp_controls.specs.Book.{Ledger}
use Rattle.dnp_controls.specs.Latches.{PlainState, plain_panel}
use Rattle.dnp_controls.specs.Panel.{Panel}
use Rattle.dnp_outstation.specs.State.{Core, State}
use Rattle.dnp_outstation.specs.Station.{state_of}
use Rattle.dnp_concentrator.specs.BookOutputs.{book_panel}
use Rattle.dnp_concentrator.specs.Below.{link_in}
use Rattle.dnp_concentrator.specs.Reserving.{Reserved}
use Rattle.dnp_concentrator.specs.Relaying.{Relaying}
use Rattle.dnp_concentrator.specs.declared.span.Spans.{Spans}
use Rattle.dnp_line.specs.Lines.{front_of}
use Rattle.dnp_pointdb.specs.Plan as points
use Rattle.dnp_world.specs.Channels.{ChannelState, line_of}
use Rattle.dnp_world.specs.declared.event.Link.{Link}
use Rattle.dnp_world.specs.declared.event.Link.TheVariants.{Below, Above}
use Rattle.dnp_world.specs.declared.link_event.Way.{Way}

-- ---- the stations

-- a substation's outstation, and its lines to the concentrator
pub record SubstationState : Type 0 where
  pub core : Core
  pub lanes : EventBuffer
  pub outputs : PlainState
  pub channel : ChannelState

-- the outstation, as its functions see it
abbrev pub station_of : SubstationState → State
station_of s = state_of s.core s.lanes (plain_panel s.outputs)

abbrev pub panel_of : SubstationState → Panel
panel_of s = plain_panel s.outputs

-- the substation with its outstation in this state
abbrev pub in_state : SubstationState → State → SubstationState
in_state s state =
    record s { core = state.core; lanes = state.lanes; outputs = record s.outputs { performed = state.performed } }

-- the outstation towards the centre with its queue, the book of controls, and the links to the substations, by their numbers
pub record ConcentratorState : Type 0 where
  pub core : Core
  pub queue : EventBuffer
  pub indices : List Spans
  -- the plan of the points above
  pub points : points.Plan
  pub controls : Ledger
  -- the command whose point a select of another centre reserves, at each moment
  pub reserved : ℕ → Reserved
  pub links : List Relaying

-- the concentrator's outputs at a moment
abbrev pub middle_panel : ConcentratorState → ℕ → Panel
middle_panel c now = book_panel c.indices (c.reserved now) c.controls

-- the concentrator as the outstation that the centre sees; what it has performed is no matter of the moment
abbrev pub middle_of : ConcentratorState → State
middle_of c = state_of c.core c.queue (book_panel c.indices None c.controls)

abbrev pub link_at : ConcentratorState → ℕ → Relaying
link_at c substation = link_in c.links substation

pub record CentreState : Type 0 where
  pub indices : List Spans
  pub link : Relaying
  pub journal : Archive
  pub orders : Ledger

-- ---- what became of rows and commands

-- rows and commands beside their substations' numbers, in the order in which it happened
pub record History : Type 0 where
  -- confirms released them from substations
  pub confirmed : List (ℕ × Row)
  -- full lanes of substations dropped them
  pub overwritten : List (ℕ × Row)
  -- restarts of substations emptied them from their lanes
  pub gone : List (ℕ × Row)
  -- full lanes of the queue dropped them, as they stand above
  pub dropped : List Row
  pub issued : List (ℕ × Command)
  -- outputs of substations performed them
  pub operated : List (ℕ × Command)

-- things of one substation
abbrev pub at_substation : {Thing : Type 0} → ℕ → List Thing → List (ℕ × Thing)
at_substation substation things = map (λ thing. (substation, thing)) things

-- ---- the system

pub record System : Type 0 where
  -- where the substations' indices stand above
  pub indices : List Spans
  pub substations : List SubstationState
  pub concentrator : ConcentratorState
  pub centre : CentreState
  -- the lines between concentrator and centre
  pub above : ChannelState
  pub now : ℕ
  pub history : History

-- what its own centre sees of it
abbrev pub itself : System → System
itself s = s

-- there is a substation of this number, and a link to it
abbrev pub has_substation : System → ℕ → Bool
has_substation s substation = nat_lt substation (length s.substations) && nat_lt substation (length s.concentrator.links)

-- a link above is the one of this centre: what happens on another centre's is elsewhere
abbrev pub has_link : System → Link → Bool
has_link s (Below substation) = has_substation s substation
has_link s (Above centre) = true

-- ---- what stands on the lines

abbrev pub units_at : Way → Option SubstationState → ℕ
units_at way None = 0
units_at way (Some s) = length (line_of way s.channel).units

-- how many units stand on the line of a link, none on one outside the plan
abbrev pub standing_on : System → Link → Way → ℕ
standing_on s (Below substation) way = if has_substation s substation then units_at way (slice_get s.substations substation) else 0
standing_on s (Above centre) way = length (line_of way s.above).units

-- ---- the next unit of a line

abbrev pub front_at : Way → Option SubstationState → Option (List ℕ)
front_at way None = None
front_at way (Some s) = front_of (line_of way s.channel)

-- the octets of the unit that a line of a link gives next, if one stands there; none on one outside the plan
abbrev pub front_on : System → Link → Way → Option (List ℕ)
front_on s (Below substation) way = if has_substation s substation then front_at way (slice_get s.substations substation) else None
front_on s (Above centre) way = front_of (line_of way s.above)
