-- Definition: a link of two stations, two lines and their ports as the law of the link sees it, and what the law says of
-- its lists (IEEE Std 1815-2012: application layer over transport function and data link layer).
use Rattle.std.specs.Prelude.{◌≡◌, ℕ, ◌<◌, ◌^◌, Bool, true, false, List, [], ◌∷◌, ◌++◌, map, All, Contains}
use Rattle.std.specs.List.{flat_map}
use Rattle.std.specs.List.Sorted.{IsPermutation}
use Rattle.dnp_objects.specs.Counts.{IsCoveredBy}
use Rattle.dnp_objects.specs.declared.command.Command.{Command}
use Rattle.dnp_objects.specs.declared.lane.LaneRow.{LaneRow}
use Rattle.dnp_objects.specs.declared.row.Row.{Row}
use Rattle.dnp_eventbuf.specs.Buffered.{buffered_row}
use Rattle.dnp_eventbuf.specs.EventBuffer.{EventBuffer, arriving, rows_in, with_rows}
use Rattle.dnp_line.specs.Flows.{Flows}
use Rattle.dnp_line.specs.Lines.{LineState}
use Rattle.dnp_line.specs.Ports.{PortState}
use Rattle.dnp_master.specs.State.{new_state}
use Rattle.dnp_outstation.specs.Station.{new_core}
use Rattle.dnp_pointdb.specs.Database.{Database, new_database}
use Rattle.dnp_pointdb.specs.Plan.{Plan}
use Rattle.dnp_pointdb.specs.Runs.{Move, Change, Restart, rows_of}
use Rattle.dnp_pointdb.specs.declared.times.Times.{Times}
use Rattle.dnp_world.specs.declared.link_event.End.TheVariants as end
use Rattle.dnp_world.specs.declared.link_event.LinkEvent.{LinkEvent}
use Rattle.dnp_world.specs.declared.link_event.LinkEvent.TheVariants as event
use Rattle.dnp_world.specs.Channels.{fresh_channel}
use Rattle.dnp_world.specs.LawLink.{LawLink}
use Rattle.dnp_world.specs.MasterSeen.{master_of}
use Rattle.dnp_world.specs.Moves.{Moves}
use Rattle.dnp_world.specs.OneLinkEvents.{LinkState}
use Rattle.dnp_world.specs.OutstationSeen.{down_of, octets_of, Shows}
use Rattle.dnp_world.specs.Standing.{CarriesLaw}

-- ---- joined

-- one way: these fragments may still come on it, in the order sent. Where its sender was hung up since the opening,
-- that station is closed, and hands over nothing.
pub record Carries (line : LineState) (sender receiver : PortState) (is_open : Bool) (rest : List (List ℕ)) : Type 0 where
  pub mute : Bool
  pub sent : List (List ℕ)
  pub given : List (List ℕ)
  pub flows : Flows (record { line = line; sender = sender; receiver = receiver; mute = mute; sent = sent; given = given }) rest
  pub silent : mute ≡ true → is_open ≡ false

-- The link of the law has these stations, what may still come on these lines, and these lists. `others` left the lanes
-- where somebody else appended rows and a full lane dropped its oldest.
pub record Joined {Sink : Type 0} (others : List Row) (s : LinkState Sink) (l : LawLink) : Type 0 where
  pub outstation : Shows s.outstation l
  pub master : l.master ≡ master_of s.master
  pub number : s.master.seq < 16
  -- down
  pub going_down : List (List ℕ)
  pub down : Carries s.channel.down s.channel.master_port s.channel.outstation_port s.master.is_open going_down
  pub down_is : l.down ≡ map down_of going_down
  pub octets : All (All (λ octet. octet < 2 ^ 8)) going_down
  -- up
  pub up : Carries s.channel.up s.channel.outstation_port s.channel.master_port s.outstation.core.is_open (map octets_of l.up)
  -- over all connections
  pub taken : IsPermutation s.taken (map buffered_row l.took)
  pub released : map buffered_row l.released ≡ s.released
  pub left : IsPermutation (map buffered_row l.left) (s.left ++ others)

-- Moves make of the link one that is joined to the new state. Meanwhile these rows came to the lanes, the master asked for these
-- commands, and the outputs, which had performed those before, performed some.
pub record Follows {Sink : Type 0} (others came : List Row) (asked before : List Command) (l : LawLink) (new : LinkState Sink) : Type 0 where
  pub link : LawLink
  pub moves : Moves l link
  pub joined : Joined others new link
  pub stood : map buffered_row link.stood ≡ map buffered_row l.stood ++ came
  pub asked_is : link.asked ≡ l.asked ++ asked
  pub commands : List Command
  pub performed : new.outstation.performed ≡ before ++ commands
  pub performed_is : link.performed ≡ l.performed ++ commands

-- there is a link of the law behind it, of which the law's invariant holds
pub record IsJoined {Sink : Type 0} (others : List Row) (s : LinkState Sink) : Type 0 where
  pub link : LawLink
  pub stands : CarriesLaw link
  pub joined : Joined others s link

-- ---- a new link

-- both ends are closed, nothing is on the lines, and nothing has happened
abbrev pub new_link_of : {Sink : Type 0} → Plan → Times → EventBuffer → List Command → ℕ → ℕ → Sink → LinkState Sink
new_link_of plan times lanes performed master_address outstation_address sink = record {
  outstation = record { core = new_core (new_database plan) times; lanes = lanes; performed = performed };
  master = new_state plan times;
  sink = sink;
  channel = fresh_channel outstation_address master_address;
  now = 0;
  taken = [];
  released = [];
  left = [];
}

-- ---- rows that others append to the lanes

abbrev pub with_others_rows : {Sink : Type 0} → List LaneRow → LinkState Sink → LinkState Sink
with_others_rows rows s = record s { outstation = record s.outstation { lanes = with_rows s.outstation.lanes rows } }

-- ---- what happens to the points

abbrev pub point_moves : LinkEvent → List Move
point_moves (event.Change kind index reading) = Change kind index reading ∷ []
point_moves (event.Restart end.Outstation) = Restart ∷ []
point_moves _ = []

-- the rows that the events make, where the points are these
abbrev pub rows_made_by : Database → List LinkEvent → List Row
rows_made_by points events = arriving (rows_of points (flat_map point_moves events))

-- ---- the law of one link

-- the rows that ever stood in the lanes: they are there, or a confirm released them, or they left unconfirmed
abbrev pub stood_in : {Sink : Type 0} → List Row → LinkState Sink → List Row
stood_in others s = rows_in s.outstation.lanes ++ (s.released ++ (s.left ++ others))

-- what stood there grew by these rows, and by nothing else
abbrev pub StoodGrows : {Sink : Type 0} → List Row → List Row → LinkState Sink → LinkState Sink → Type 0
StoodGrows others came old new = IsPermutation (stood_in others new) (stood_in others old ++ came)

-- what confirms released is covered by what the master's sink took, and that stood in the lanes
pub record KeepsLaw {Sink : Type 0} (others : List Row) (s : LinkState Sink) : Type 0 where
  pub covered : IsCoveredBy s.released s.taken
  pub stood : All (Contains (stood_in others s)) s.taken
