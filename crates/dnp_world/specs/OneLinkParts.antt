-- Definition: the parts of a link by itself, and a new one.
use Rattle.std.specs.Prelude.{◌≡◌, List, [], ◌++◌}
use Rattle.dnp_controls.specs.Latches.{no_panel}
use Rattle.dnp_eventbuf.specs.EventBuffer.{EventBuffer}
use Rattle.dnp_master.specs.Calls.{Taking}
use Rattle.dnp_master.specs.State.{new_state}
use Rattle.dnp_objects.specs.declared.row.Row.{Row}
use Rattle.dnp_outstation.specs.Parts as outstation
use Rattle.dnp_outstation.specs.Station.{new_core, state_of}
use Rattle.dnp_pointdb.specs.Database.{new_database}
use Rattle.dnp_pointdb.specs.Plan.{Plan}
use Rattle.dnp_pointdb.specs.declared.times.Times.{Times}
use Rattle.dnp_world.specs.declared.one_link.OneLink.{OneLink}
use Rattle.dnp_world.specs.declared.one_link.receiver.Receiver.{Receiver}
use Rattle.dnp_concentrator.specs.declared.addresses.TheConstants.{CENTRE, FIRST_OUTSTATION}
use Rattle.dnp_world.specs.Channels as channel
use Rattle.dnp_world.specs.Channels.{fresh_channel}
use Rattle.dnp_world.specs.OneLinkEvents.{LinkState, TakesRows}

-- what it is, by what its lanes say of themselves
abbrev pub link_of : {L S : Type 0} → (L → EventBuffer) → OneLink L S → LinkState S
link_of contents x = record {
  outstation = outstation.whole_of contents (λ _. no_panel) x.outstation;
  master = x.receiver.master;
  sink = x.receiver.sink;
  channel = channel.state_of x.channel;
  now = x.moment;
  taken = x.receiver.taken.items;
  released = x.released.items;
  left = x.left.items;
}

abbrev pub lanes_of : {L S : Type 0} → OneLink L S → L
lanes_of x = outstation.lanes_of x.outstation

abbrev pub sink_of : {L S : Type 0} → OneLink L S → S
sink_of x = x.receiver.sink

abbrev pub with_lanes : {L S : Type 0} → OneLink L S → L → OneLink L S
with_lanes x lanes = record x { outstation = outstation.with_lanes x.outstation lanes }

abbrev pub receiver_with : {S : Type 0} → Receiver S → S → Receiver S
receiver_with r sink = record r { sink = sink }

abbrev pub with_sink : {L S : Type 0} → OneLink L S → S → OneLink L S
with_sink x sink = record x { receiver = receiver_with x.receiver sink }

-- ---- the master, and the sink of its rows

-- it took this: the sink took the rows, and the events are listed
pub record ReceiverTakes {Sink : Type 0} (takes : Sink → List Row → List Row → List Row → Sink → Type 0) (t : Taking) (old new : Receiver Sink)
    : Type 0 where
  pub rows : TakesRows takes t old.sink new.sink
  pub master : new.master ≡ t.state
  pub listed : new.taken.items ≡ old.taken.items ++ t.events

-- it is as it was, but for its sink
pub record KeepsBeside {Sink : Type 0} (keeps : Sink → Sink → Type 0) (old new : Receiver Sink) : Type 0 where
  pub sink : keeps old.sink new.sink
  pub master : new.master ≡ old.master
  pub listed : new.taken.items ≡ old.taken.items

-- ---- a new one

-- both ends closed, nothing on the lines, and nothing has happened
abbrev pub new_link : {S : Type 0} → Plan → Times → EventBuffer → S → LinkState S
new_link plan times lanes sink = record {
  outstation = state_of (new_core (new_database plan) times) lanes no_panel;
  master = new_state plan times;
  sink = sink;
  channel = fresh_channel FIRST_OUTSTATION CENTRE;
  now = 0;
  taken = [];
  released = [];
  left = [];
}
