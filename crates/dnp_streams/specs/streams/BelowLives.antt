-- Definition: how the link of a concentrator to a substation lives: its response timer runs. Its readings are those of the substation.
use Rattle.std.specs.Prelude.{◌≡◌, ℕ, ◌&&◌, nat_lt, if◌then◌else◌, Bool, length, Option, None}
use Rattle.dnp_master.specs.State.{is_timed_out, next_deadline}
use Rattle.dnp_concentrator.specs.Below.{link_in}
use Rattle.dnp_concentrator.specs.Concentrator.{without_link}
use Rattle.dnp_concentrator.specs.Relaying.{ticked}
use Rattle.dnp_streams.specs.declared.stream.station.StationFault.TheVariants.{Message}
use Rattle.dnp_streams.specs.streams.Concentrators.{BelowSeen, both, with_link}
use Rattle.dnp_streams.specs.streams.Lives.{Life}
use Rattle.dnp_streams.specs.streams.Masters.{closing}
use Rattle.dnp_streams.specs.streams.Stations.{Answer}

-- the response timer has ended (IEEE Std 1815-2012, application layer: response timeouts); where there is no such substation, it never has
abbrev pub has_ended : BelowSeen → ℕ → Bool
has_ended s now = nat_lt s.substation (length s.links) && is_timed_out (link_in s.links s.substation).master now

-- the link closes, and the readings above of the substation's points are marked lost, for both centres
abbrev pub cut : BelowSeen → ℕ → BelowSeen
cut s now = record s { links = with_link s (λ link. ticked link now); cores = both (λ core. without_link core s.substation) s.cores }

-- time passes: that happens exactly where the timer has ended, and nothing else changes
pub record IsTickedBelow (old : BelowSeen) (now : ℕ) (answer : Answer) (new : BelowSeen) : Type 0 where
  pub answered : answer ≡ closing (has_ended old now)
  pub after : new ≡ (if has_ended old now then cut old now else old)

-- when the response timer ends, if it runs; where there is no such substation, none does
abbrev pub next_below : BelowSeen → Option ℕ
next_below s = if nat_lt s.substation (length s.links) then next_deadline (link_in s.links s.substation).master else None

-- Time is never refused. A change of a reading always is, as a message that can't be taken.
abbrev pub below_lives : Life BelowSeen
below_lives = record {
  ticks = record { answers = IsTickedBelow; refuses = λ old now fault. ⊥ };
  changes = λ change. record { answers = λ old now answer new. ⊥; refuses = λ old now fault. fault ≡ Message };
  deadline = next_below;
}
