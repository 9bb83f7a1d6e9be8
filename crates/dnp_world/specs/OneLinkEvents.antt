-- Definition: one link by itself, and what each event makes of it: the stations by their functions, the lines and ports by those of
-- `dnp_line`, and nothing else (IEEE Std 1815-2012: application layer, transport function and data link layer together).
use Rattle.std.specs.Prelude.{◌≡◌, ℕ, ◌+◌, ◌^◌, ◌-◌, Bool, true, false, ◌&&◌, List, [], ◌∷◌, ◌++◌, min, take, slice_get, Option, Some, IfSome, is_some, option_to_list, Result, Ok, Err, is_ok}
use Rattle.dnp_objects.specs.declared.row.Row.{Row}
use Rattle.dnp_objects.specs.declared.row.Kind.{Kind}
use Rattle.dnp_objects.specs.declared.lane.LaneRow.{LaneRow}
use Rattle.dnp_pointdb.specs.declared.reading.Reading.{Reading}
use Rattle.dnp_pointdb.specs.declared.fault.ChangeFault.{ChangeFault}
use Rattle.dnp_pointdb.specs.Database.{answer_of}
use Rattle.dnp_controls.specs.Latches.{no_panel}
use Rattle.dnp_controls.specs.Panel.{Panel}
use Rattle.dnp_eventbuf.specs.EventBuffer.{exhausts}
use Rattle.dnp_line.specs.Lines.{LineState, front_of, delivered_on, repeated_on}
use Rattle.dnp_line.specs.Ports.{PortState}
use Rattle.dnp_line.specs.Ways.{HearsIfAny}
use Rattle.dnp_outstation.specs.State as outstation
use Rattle.dnp_outstation.specs.State.{Step}
use Rattle.dnp_outstation.specs.Calls.{connection_after, tick_of, change_of, opened_of, restart_of, emptied_of}
use Rattle.dnp_outstation.specs.Connection as connection
use Rattle.dnp_master.specs.declared.fault.AskFault.{AskFault}
use Rattle.dnp_master.specs.declared.fault.MasterFault.{MasterFault}
use Rattle.dnp_master.specs.declared.task.Task.{Task}
use Rattle.dnp_master.specs.declared.task.Task.TheVariants as task
use Rattle.dnp_master.specs.State as master
use Rattle.dnp_master.specs.Calls.{Taking, ask_answer, asked, receive_of, has_rows}
use Rattle.dnp_world.specs.Channels.{ChannelState, DamagesAt, GoDown, GoUp, cleared, hung_up_at, line_of, lost_at}
use Rattle.dnp_world.specs.declared.link_event.End.TheVariants as end
use Rattle.dnp_world.specs.declared.link_event.Way.{Way}
use Rattle.dnp_world.specs.declared.link_event.Way.TheVariants as way
use Rattle.dnp_world.specs.declared.link_event.LinkEvent.{LinkEvent}
use Rattle.dnp_world.specs.declared.link_event.LinkEvent.TheVariants as event

-- ---- one link

-- the two stations and the master's sink, the lines between them, the moment, and the events that the sink took, that
-- confirms released and that left the lanes unconfirmed
pub record LinkState (Sink : Type 0) : Type 0 where
  pub outstation : outstation.State
  pub master : master.State
  pub sink : Sink
  pub channel : ChannelState
  pub now : ℕ
  pub taken : List Row
  pub released : List Row
  pub left : List Row

-- ---- the outstation's calls

-- the outstation takes this step: what it sends goes up, and the rows that it released are listed
pub record Steps {Sink : Type 0} (step : Step) (old new : LinkState Sink) : Type 0 where
  pub goes : GoUp step.does.send old.channel new.channel
  pub after : new ≡ record old {
    outstation = step.state;
    channel = new.channel;
    released = old.released ++ step.does.discarded;
  }

-- these fragments, one or none, come to the outstation, whose outputs are these
abbrev pub ComeDown : {Sink : Type 0} → Panel → List (List ℕ) → LinkState Sink → LinkState Sink → Type 0
ComeDown panel [] old new = new ≡ old
ComeDown panel (fragment ∷ others) old new = Steps (connection_after old.outstation panel old.now fragment) old new

-- ---- the master's calls

-- the sink takes the rows, if there are any
pub record TakesRows {Sink : Type 0} (takes : Sink → List Row → List Row → List Row → Sink → Type 0) (t : Taking) (old new : Sink) : Type 0 where
  pub given : has_rows t ≡ true → (dropped : List Row) × takes old t.events t.statics dropped new
  pub spared : has_rows t ≡ false → new ≡ old

-- and only then the fragment is confirmed
pub record Takes {Sink : Type 0} (takes : Sink → List Row → List Row → List Row → Sink → Type 0) (t : Taking)
    (old new : LinkState Sink) : Type 0 where
  pub rows : TakesRows takes t old.sink new.sink
  pub goes : GoDown (option_to_list t.confirm) old.channel new.channel
  pub after : new ≡ record old {
    master = t.state;
    sink = new.sink;
    channel = new.channel;
    taken = old.taken ++ t.events;
  }

-- what the master refuses for itself is lost
abbrev pub Receives : {Sink : Type 0} → (Sink → List Row → List Row → List Row → Sink → Type 0) → Result Taking MasterFault
    → LinkState Sink → LinkState Sink → Type 0
Receives takes (Ok t) old new = Takes takes t old new
Receives takes (Err fault) old new = new ≡ old

abbrev pub ComeUp : {Sink : Type 0} → (Sink → List Row → List Row → List Row → Sink → Type 0) → List (List ℕ)
    → LinkState Sink → LinkState Sink → Type 0
ComeUp takes [] old new = new ≡ old
ComeUp takes (fragment ∷ others) old new = Receives takes (receive_of old.master old.now fragment) old new

-- ---- the front unit of a line

-- it comes to the port, which gives these fragments, one or none; the line is left so
pub record ComesDown {Sink : Type 0} (panel : Panel) (line : LineState) (old new : LinkState Sink) : Type 0 where
  pub port : PortState
  pub given : List (List ℕ)
  pub heard : HearsIfAny (front_of old.channel.down) old.channel.outstation_port port [] given
  pub came : ComeDown panel given (record old { channel = record old.channel { down = line; outstation_port = port } }) new

pub record ComesUp {Sink : Type 0} (takes : Sink → List Row → List Row → List Row → Sink → Type 0) (line : LineState)
    (old new : LinkState Sink) : Type 0 where
  pub port : PortState
  pub given : List (List ℕ)
  pub heard : HearsIfAny (front_of old.channel.up) old.channel.master_port port [] given
  pub came : ComeUp takes given (record old { channel = record old.channel { up = line; master_port = port } }) new

-- its octets become others
pub record IsDamaged {Sink : Type 0} (way : Way) (octets : List ℕ) (old new : LinkState Sink) : Type 0 where
  pub damages : DamagesAt way octets old.channel new.channel
  pub after : new ≡ record old { channel = new.channel }

-- ---- opening, hanging up and restarts

abbrev pub opening : {Sink : Type 0} → LinkState Sink → LinkState Sink
opening s = record s { master = master.opened s.master; channel = cleared s.channel }

abbrev pub master_gone : {Sink : Type 0} → LinkState Sink → LinkState Sink
master_gone s = record s { master = master.closed s.master; channel = hung_up_at end.Master s.channel }

abbrev pub outstation_gone : {Sink : Type 0} → LinkState Sink → LinkState Sink
outstation_gone s = record s {
  outstation = record s.outstation { core = connection.closed s.outstation.core };
  channel = hung_up_at end.Outstation s.channel;
}

abbrev pub outstation_restarted : {Sink : Type 0} → LinkState Sink → LinkState Sink
outstation_restarted s = record s {
  outstation = restart_of s.outstation false;
  channel = hung_up_at end.Outstation s.channel;
  left = s.left ++ emptied_of s.outstation false;
}

-- ---- readings and tasks

-- the lanes have a number left for the row that it makes, and what a full lane dropped for it is listed; a reading that
-- the points refuse does nothing
abbrev pub Changes : {Sink : Type 0} → Result (Option LaneRow) ChangeFault → Kind → ℕ → Reading → LinkState Sink → LinkState Sink → Type 0
Changes (Ok made) kind index reading old new =
    let step = change_of old.outstation old.now kind index reading made in
    IfSome made (λ row. exhausts old.outstation.lanes (row ∷ []) ≡ false)
    × Steps step (record old { left = old.left ++ step.does.overwritten }) new
Changes (Err fault) kind index reading old new = new ≡ old

-- a command is none of the link's own tasks
abbrev pub is_own : Task → Bool
is_own (task.Select command) = false
is_own (task.Operate command) = false
is_own _ = true

-- the request goes down
pub record IsAsked {Sink : Type 0} (task : Task) (octets : List ℕ) (old new : LinkState Sink) : Type 0 where
  pub goes : GoDown (octets ∷ []) old.channel new.channel
  pub after : new ≡ record old { master = asked old.master old.now task; channel = new.channel }

-- a task that the master refuses does nothing
abbrev pub AsksBy : {Sink : Type 0} → Result (List ℕ) AskFault → Task → LinkState Sink → LinkState Sink → Type 0
AsksBy (Ok octets) task old new = IsAsked task octets old new
AsksBy (Err fault) task old new = new ≡ old

abbrev pub AsksIfOwn : {Sink : Type 0} → Bool → Task → LinkState Sink → LinkState Sink → Type 0
AsksIfOwn true task old new = AsksBy (ask_answer old.master task) task old new
AsksIfOwn false task old new = new ≡ old

-- ---- the events

-- the event makes `new` of `old`, where `takes` says what an append makes of the sink, and `panel` what the outstation's
-- outputs are before it
abbrev pub HappensOn : {Sink : Type 0} → (Sink → List Row → List Row → List Row → Sink → Type 0) → Panel
    → LinkState Sink → LinkEvent → LinkState Sink → Type 0
HappensOn takes panel old event.Open new = Steps (opened_of old.outstation old.now) (opening old) new
HappensOn takes panel old (event.HangUp end.Master) new = new ≡ master_gone old
HappensOn takes panel old (event.HangUp end.Outstation) new = new ≡ outstation_gone old
HappensOn takes panel old (event.Deliver way.Down) new = ComesDown panel (delivered_on old.channel.down) old new
HappensOn takes panel old (event.Deliver way.Up) new = ComesUp takes (delivered_on old.channel.up) old new
HappensOn takes panel old (event.Repeat way.Down) new = ComesDown panel (repeated_on old.channel.down) old new
HappensOn takes panel old (event.Repeat way.Up) new = ComesUp takes (repeated_on old.channel.up) old new
HappensOn takes panel old (event.Lose way) new = new ≡ record old { channel = lost_at way old.channel }
HappensOn takes panel old (event.Damage way octets) new = IsDamaged way octets.items old new
HappensOn takes panel old (event.Change kind index reading) new =
    Changes (answer_of old.outstation.core.points kind index reading) kind index reading old new
HappensOn takes panel old (event.Ask task) new = AsksIfOwn (is_own task) task old new
HappensOn takes panel old (event.Pass ms) new = new ≡ record old { now = min (old.now + ms) (2 ^ 64 - 1) }
HappensOn takes panel old (event.Tick end.Master) new = new ≡ record old { master = master.ticked old.master old.now }
HappensOn takes panel old (event.Tick end.Outstation) new = Steps (tick_of old.outstation old.now) old new
HappensOn takes panel old (event.Restart end.Master) new = new ≡ master_gone old
HappensOn takes panel old (event.Restart end.Outstation) new = new ≡ outstation_restarted old

-- ---- lists of events

-- they happen one after the other, on a link whose outstation has no outputs
abbrev pub RunsTo : {Sink : Type 0} → (Sink → List Row → List Row → List Row → Sink → Type 0)
    → LinkState Sink → List LinkEvent → LinkState Sink → Type 0
RunsTo takes old [] new = new ≡ old
RunsTo takes old (event ∷ events) new = (next : LinkState _) × HappensOn takes no_panel old event next × RunsTo takes next events new

-- an event at which a list stops is lost if it is a delivery, and else left out
abbrev pub CountsFor : {Sink : Type 0} → (Sink → List Row → List Row → List Row → Sink → Type 0)
    → LinkState Sink → LinkEvent → LinkState Sink → Type 0
CountsFor takes old (event.Deliver way) new = HappensOn takes no_panel old (event.Lose way) new
CountsFor takes old event new = new ≡ old

-- nothing has changed; the sink, which may have refused, holds what it did
pub record IsStopped {Sink : Type 0} (keeps : Sink → Sink → Type 0) (old new : LinkState Sink) : Type 0 where
  pub kept : keeps old.sink new.sink
  pub after : new ≡ record old { sink = new.sink }

-- the same of an event at which a list stops
pub record StopsAt {Sink : Type 0} (takes : Sink → List Row → List Row → List Row → Sink → Type 0) (keeps : Sink → Sink → Type 0)
    (old : LinkState Sink) (event : LinkEvent) (new : LinkState Sink) : Type 0 where
  pub sink : Sink
  pub kept : keeps old.sink sink
  pub counts : CountsFor takes (record old { sink = sink }) event new

-- The events at which a store, or a request for memory, is asked, by the link as it stands: none that finds an empty line, or brings
-- what its station refuses, a reading or a task.
abbrev pub may_stop : {Sink : Type 0} → LinkState Sink → LinkEvent → Bool
may_stop s event.Open = true
may_stop s (event.HangUp end) = false
may_stop s (event.Deliver way) = is_some (front_of (line_of way s.channel))
may_stop s (event.Repeat way) = is_some (front_of (line_of way s.channel))
may_stop s (event.Lose way) = false
may_stop s (event.Damage way octets) = false
may_stop s (event.Change kind index reading) = is_ok (answer_of s.outstation.core.points kind index reading)
may_stop s (event.Ask task) = is_own task && is_ok (ask_answer s.master task)
may_stop s (event.Pass ms) = false
may_stop s (event.Tick end.Master) = false
may_stop s (event.Tick end.Outstation) = true
may_stop s (event.Restart end.Master) = false
may_stop s (event.Restart end.Outstation) = true

-- so many events were done, and the list stopped at the one after them
pub record StopsAfter {Sink : Type 0} (takes : Sink → List Row → List Row → List Row → Sink → Type 0) (keeps : Sink → Sink → Type 0)
    (old : LinkState Sink) (events : List LinkEvent) (done : ℕ) (new : LinkState Sink) : Type 0 where
  pub before : LinkState Sink
  pub ran : RunsTo takes old (take done events) before
  pub event : LinkEvent
  pub next : slice_get events done ≡ Some event
  pub may : may_stop before event ≡ true
  pub stops : StopsAt takes keeps before event new
