-- Definition: how a centre lives: its response timer runs. It has no readings of its own.
use Rattle.std.specs.Prelude.{◌≡◌, ℕ}
use Rattle.dnp_master.specs.State.{is_timed_out, next_deadline}
use Rattle.dnp_concentrator.specs.Relaying.{ticked}
use Rattle.dnp_streams.specs.declared.stream.station.StationFault.TheVariants.{Message}
use Rattle.dnp_streams.specs.streams.Centres.{CentreSeen}
use Rattle.dnp_streams.specs.streams.Lives.{Life}
use Rattle.dnp_streams.specs.streams.Masters.{closing}
use Rattle.dnp_streams.specs.streams.Stations.{Answer}

-- time passes: exactly where the response timer has ended it closes (IEEE Std 1815-2012, application layer: response timeouts), and
-- nothing else of it changes
pub record IsTickedCentre (old : CentreSeen) (now : ℕ) (answer : Answer) (new : CentreSeen) : Type 0 where
  pub answered : answer ≡ closing (is_timed_out old.link.master now)
  pub after : new ≡ record old { link = ticked old.link now }

-- Time is never refused. A change of a reading always is, as a message that can't be taken.
abbrev pub centre_lives : Life CentreSeen
centre_lives = record {
  ticks = record { answers = IsTickedCentre; refuses = λ old now fault. ⊥ };
  changes = λ change. record { answers = λ old now answer new. ⊥; refuses = λ old now fault. fault ≡ Message };
  deadline = λ s. next_deadline s.link.master;
}
