-- Definition: how the outstation of a concentrator towards a centre lives: time passes for it. Its readings are those of its substations.
use Rattle.std.specs.Prelude.{◌≡◌, ℕ}
use Rattle.dnp_outstation.specs.Calls.{tick_of}
use Rattle.dnp_outstation.specs.State.{Actions}
use Rattle.dnp_outstation.specs.Timers.{next_deadline}
use Rattle.dnp_streams.specs.declared.stream.station.StationFault.{StationFault}
use Rattle.dnp_streams.specs.declared.stream.station.StationFault.TheVariants.{Message}
use Rattle.dnp_streams.specs.streams.Concentrators.{AboveSeen, seen_at}
use Rattle.dnp_streams.specs.streams.Lives.{Life, RefusesTick}
use Rattle.dnp_streams.specs.streams.Outstations.{answer_by}
use Rattle.dnp_streams.specs.streams.Stations.{Answer}

-- time passes, as for any outstation (IEEE Std 1815-2012, application layer): nothing else of the concentrator changes
pub record IsTickedAbove (old : AboveSeen) (now : ℕ) (answer : Answer) (new : AboveSeen) : Type 0 where
  pub does : Actions
  pub step : tick_of old.whole now ≡ record { state = new.whole; does = does }
  pub answered : answer ≡ answer_by does
  pub after : new ≡ record old { whole = new.whole }

-- A change of a reading is never answered: it is refused as a message that can't be taken, since readings come from the substations.
abbrev pub above_lives : Life AboveSeen
above_lives = record {
  ticks = record { answers = IsTickedAbove; refuses = λ old now fault. RefusesTick (seen_at old now) now fault };
  changes = λ change. record { answers = λ old now answer new. ⊥; refuses = λ old now fault. fault ≡ Message };
  deadline = λ s. next_deadline s.whole.core;
}
