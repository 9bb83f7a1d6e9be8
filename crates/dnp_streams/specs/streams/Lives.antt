-- Definition: how stations live between the frames that come: time passes, and readings of their points change.
use Rattle.std.specs.Prelude.{◌≡◌, ◌≢◌, ◌↔◌, ℕ, Option, None, Ok, IsErr, true}
use Rattle.dnp_objects.specs.declared.lane.LaneRow.{LaneRow}
use Rattle.dnp_outstation.specs.Calls.{change_of, tick_of}
use Rattle.dnp_outstation.specs.Connection.{has_enabled_rows, solicited_timer}
use Rattle.dnp_outstation.specs.State.{Actions, is_ready}
use Rattle.dnp_outstation.specs.Timers.{next_deadline}
use Rattle.dnp_outstation.specs.declared.fault.Fault.{Fault}
use Rattle.dnp_outstation.specs.declared.fault.Fault.TheVariants as outstation
use Rattle.dnp_pointdb.specs.Database.{answer_of}
use Rattle.dnp_concentrator.specs.declared.cause.Cause.TheVariants as cause
use Rattle.dnp_streams.specs.declared.stream.change.Change.{Change}
use Rattle.dnp_streams.specs.declared.stream.station.StationFault.{StationFault}
use Rattle.dnp_streams.specs.declared.stream.station.StationFault.TheVariants.{Message, Cause}
use Rattle.dnp_streams.specs.streams.Outstations.{Seen, answer_by}
use Rattle.dnp_streams.specs.streams.Stations.{Answer, Opening}

-- how a station takes it that time has passed, and how it takes a change of a reading: each at a moment, and answered or refused as an
-- opening is; and when its next timer ends, in milliseconds, if one runs
pub record Life (S : Type 0) : Type 1 where
  pub ticks : Opening S
  pub changes : Change → Opening S
  pub deadline : S → Option ℕ

-- a station of which nothing is said between the frames that come
abbrev pub lifeless : {S : Type 0} → Life S
lifeless = record {
  ticks = record { answers = λ old now answer new. ⊥; refuses = λ old now fault. ⊥ };
  changes = λ change. record { answers = λ old now answer new. ⊥; refuses = λ old now fault. ⊥ };
  deadline = λ s. None;
}

-- ---- an outstation

-- time passes (IEEE Std 1815-2012, application layer: what a confirm that doesn't come leads to)
pub record IsTicked (old : Seen) (now : ℕ) (answer : Answer) (new : Seen) : Type 0 where
  pub does : Actions
  pub step : tick_of old.whole now ≡ record { state = new.whole; does = does }
  pub answered : answer ≡ answer_by does
  pub outputs : new.panel ≡ old.panel

-- a point's reading changes, by which an event may be made
pub record IsChanged (change : Change) (old : Seen) (now : ℕ) (answer : Answer) (new : Seen) : Type 0 where
  pub made : Option LaneRow
  pub taken : answer_of old.whole.core.points change.kind change.index change.reading ≡ Ok made
  pub does : Actions
  pub step : change_of old.whole now change.kind change.index change.reading made ≡ record { state = new.whole; does = does }
  pub answered : answer ≡ answer_by does
  pub outputs : new.panel ≡ old.panel

-- time is refused for the sake of lanes that hold rows of an enabled class, and only where an unsolicited response may be sent
pub record RefusesTick (old : Seen) (now : ℕ) (fault : StationFault) : Type 0 where
  pub ready : is_ready (solicited_timer old.whole.core now) ≡ true
  pub rows : has_enabled_rows old.whole ≡ true
  pub message : fault ≢ Message
  pub exhausted : fault ≢ Cause cause.Exhausted

-- the fault of a change, as the station says it
abbrev pub told_of : Fault → StationFault
told_of outstation.NoPoint = Message
told_of outstation.ValueRange = Message
told_of outstation.TimeRange = Message
told_of outstation.Exhausted = Cause cause.Exhausted
told_of outstation.Memory = Cause cause.Memory
told_of outstation.Device = Cause cause.Device

-- a change is refused as a message that can't be taken where the points refuse the reading, and else for the sake of lanes
pub record RefusesChange (change : Change) (old : Seen) (now : ℕ) (fault : StationFault) : Type 0 where
  pub message : (fault ≡ Message) ↔ IsErr (answer_of old.whole.core.points change.kind change.index change.reading)

abbrev pub outstation_lives : Life Seen
outstation_lives = record {
  ticks = record { answers = IsTicked; refuses = RefusesTick };
  changes = λ change. record { answers = IsChanged change; refuses = RefusesChange change };
  deadline = λ s. next_deadline s.whole.core;
}
