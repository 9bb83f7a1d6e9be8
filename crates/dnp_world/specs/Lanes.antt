-- Definition: the lanes of `dnp_eventbuf` as the law of the link sees them, and what each of their calls is to the link.
use Rattle.std.specs.Prelude.{◌≡◌, false, List, [], ◌∷◌, None}
use Rattle.dnp_objects.specs.declared.lane.LaneRow.{LaneRow}
use Rattle.dnp_objects.specs.Lanes.{lane_number}
use Rattle.dnp_eventbuf.specs.EventBuffer.{EventBuffer, lane_at, with_rows}
use Rattle.dnp_eventbuf.specs.Buffered.{Buffered, buffered_in, buffered_next, buffered_dropped}
use Rattle.dnp_world.specs.LawLink.{LawLink, Idle, Confirms}
use Rattle.dnp_world.specs.Moves.{appended, dropped, nothing_sent, nothing_reported}

-- the link's lanes are these
pub record HasLanes (s : EventBuffer) (l : LawLink) : Type 0 where
  pub rows : l.lanes ≡ buffered_in s
  pub last_id : l.last_id ≡ s.last_id

-- a link before its first opening, with these lanes (own rule: a start from any lanes)
abbrev pub fresh_link : EventBuffer → LawLink
fresh_link s = record {
  outstation = record { is_open = false; last = None; awaited = None; report = None; next = 0 };
  master = record { is_open = false; is_busy = false; seq = 0 };
  lanes = buffered_in s;
  last_id = s.last_id;
  down = [];
  up = [];
  stood = buffered_in s;
  took = [];
  released = [];
  left = [];
  asked = [];
  performed = [];
  phase = Idle;
  trigger = Confirms 14;
  current = nothing_sent;
  reported = nothing_reported;
}

-- what a full lane drops for this row
abbrev pub dropped_for : EventBuffer → LaneRow → List Buffered
dropped_for s x = buffered_dropped (lane_number x.lane) (lane_at s (lane_number x.lane))

-- a row is appended: it comes, and then its lane, if it was full, drops its oldest (IEEE Std 1815-2012, application
-- layer: overflow of event buffers)
abbrev pub lane_appended : EventBuffer → LaneRow → LawLink → LawLink
lane_appended s x l = dropped (buffered_in (with_rows s (x ∷ []))) (dropped_for s x) (appended (buffered_next s x) l)

-- the lanes are emptied, as at a restart that keeps nothing
abbrev pub lanes_emptied : EventBuffer → LawLink → LawLink
lanes_emptied s l = dropped [] (buffered_in s) l
