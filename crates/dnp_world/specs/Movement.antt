-- Definition: what a clean round moves: the first rows of a station's lanes, as many as fit into one fragment, go to whoever polls
-- (own rule for a whole system; IEEE Std 1815-2012, application layer: event classes, READ, responses, confirms).
use Rattle.std.specs.Prelude.{◌≡◌, ◌≢◌, ℕ, Bool, true, false, if◌then◌else◌, List, [], ◌++◌, length, is_some, slice_get, Option, Some, None}
use Rattle.dnp_concentrator.specs.Mapped.{queued_rows}
use Rattle.dnp_eventbuf.specs.Archive.{with_events}
use Rattle.dnp_eventbuf.specs.EventBuffer.{EventBuffer, all_up_to, dropped_by, with_rows, without}
use Rattle.dnp_objects.specs.declared.lane.LaneRow.{LaneRow}
use Rattle.dnp_objects.specs.declared.row.Row.{Row}
use Rattle.dnp_outstation.specs.Connection.{is_last_request}
use Rattle.dnp_outstation.specs.Polled.{Portion, no_rows, poll_octets, polled, reported}
use Rattle.dnp_outstation.specs.State.{State}
use Rattle.dnp_world.specs.Settled.{may_report}
use Rattle.dnp_world.specs.SystemEvents.{relaying_at}
use Rattle.dnp_world.specs.Systems.{ConcentratorState, SubstationState, System, at_substation, middle_of, station_of}
use Rattle.dnp_world.specs.declared.event.Link.{Link}
use Rattle.dnp_world.specs.declared.event.Link.TheVariants.{Below, Above}

-- ---- what leaves the lanes

-- just these rows left: a release of their ids takes them and nothing else. Where there are none the lanes are as they were.
pub data Leave (portion : Portion) (old new : EventBuffer) : Type 0 where
  Released : all_up_to old portion.ids ≡ portion.rows → new ≡ without old portion.ids → Leave portion old new
  Rested : portion.rows ≡ [] → new ≡ old → Leave portion old new

-- ---- over the link to a substation

-- how rows of a substation stand in the concentrator's queue
abbrev pub rows_queued : ConcentratorState → ℕ → List Row → List LaneRow
rows_queued c substation rows = queued_rows c.indices c.points substation rows

-- The rows left the substation's lanes, confirmed, and came into the queue after all others, in their order, as many as left: the
-- index map leaves none of them out. What full lanes of the queue dropped for them is listed. The substation's outputs, the other
-- substations, the concentrator's book and the centre are as they were, so no other row moved, and no command.
pub record MovesBelow (substation : ℕ) (portion_in : State → Portion) (old new : System) : Type 0 where
  pub was : SubstationState
  pub is : SubstationState
  pub was_there : slice_get old.substations substation ≡ Some was
  pub is_there : slice_get new.substations substation ≡ Some is
  pub left : Leave (portion_in (station_of was)) was.lanes is.lanes
  pub outputs : is.outputs ≡ was.outputs
  pub all_queued : length (rows_queued old.concentrator substation (portion_in (station_of was)).rows) ≡ length (portion_in (station_of was)).rows
  pub concentrator : new.concentrator ≡ record old.concentrator {
    core = new.concentrator.core;
    queue = with_rows old.concentrator.queue (rows_queued old.concentrator substation (portion_in (station_of was)).rows);
    links = new.concentrator.links;
  }
  pub history : new.history ≡ record old.history {
    confirmed = old.history.confirmed ++ at_substation substation (portion_in (station_of was)).rows;
    dropped = old.history.dropped ++ dropped_by old.concentrator.queue (rows_queued old.concentrator substation (portion_in (station_of was)).rows);
  }
  pub others : (i : ℕ) → i ≢ substation → slice_get new.substations i ≡ slice_get old.substations i
  pub centre : new.centre ≡ old.centre

-- ---- over the link between concentrator and centre

-- The rows left the queue, and came into the journal after all others, in their order. The substations, the history and the two
-- books are as they were, so no other row moved, and no command.
pub record MovesAbove (portion_in : State → Portion) (old new : System) : Type 0 where
  pub left : Leave (portion_in (middle_of old.concentrator)) old.concentrator.queue new.concentrator.queue
  pub concentrator : new.concentrator ≡ record old.concentrator { core = new.concentrator.core; queue = new.concentrator.queue }
  pub centre : new.centre ≡ record old.centre {
    link = new.centre.link;
    journal = with_events old.centre.journal (portion_in (middle_of old.concentrator)).rows;
  }
  pub substations : new.substations ≡ old.substations
  pub history : new.history ≡ old.history

-- ---- a round

abbrev pub MovesOn : Link → (State → Portion) → System → System → Type 0
MovesOn (Below substation) portion_in old new = MovesBelow substation portion_in old new
MovesOn (Above centre) portion_in old new = MovesAbove portion_in old new

-- the first rows of the lanes
abbrev pub first_rows : State → Portion
first_rows s = polled s.lanes

-- those of an unsolicited response that the outstation starts at the end of a call, if it starts one
abbrev pub first_reported : State → Portion
first_reported s = if may_report s then reported s.lanes s.core.enabled else no_rows

-- what moves where the READ is passed over: below nothing, and above the rows of an unsolicited response that the concentrator starts
abbrev pub passed_rows : Link → State → Portion
passed_rows (Below substation) s = no_rows
passed_rows (Above centre) s = first_reported s

-- the READ is, octet for octet, the last request that the outstation remembers of the connection, as it can be where the response to
-- that had sixteen fragments, or a multiple of sixteen
abbrev pub is_repeated_at : Option SubstationState → List ℕ → Bool
is_repeated_at None octets = false
is_repeated_at (Some s) octets = is_last_request s.core.session octets

abbrev pub is_repeated_on : System → Link → Bool
is_repeated_on s (Below substation) = is_repeated_at (slice_get s.substations substation) (poll_octets (relaying_at s (Below substation)).master.seq)
is_repeated_on s (Above centre) = is_last_request s.concentrator.core.session (poll_octets s.centre.link.master.seq)

-- What a round moves. A READ that is taken for the last request is passed over, and the master goes on waiting for its answer.
pub record RoundMoves (on : Link) (old new : System) : Type 0 where
  pub polled : is_repeated_on old on ≡ false → MovesOn on first_rows old new
  pub repeated : is_repeated_on old on ≡ true → MovesOn on (passed_rows on) old new
  pub busy : is_repeated_on old on ≡ true → is_some (relaying_at new on).master.request ≡ true
