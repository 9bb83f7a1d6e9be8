-- How a clean round of a whole system comes out, refusal by refusal.
use Rattle.std.proofs.Common.{◌≡◌, Bool, true, false, Result, Ok, Err, refl}
use Rattle.std.specs.Prelude.{◌≢◌, ◌↔◌, IfErr, OnOk, ⊤}
use Rattle.dnp_world.specs.Centres.{HappensToAll, centre_of, is_quiet_on, may_stop, seen_at}
use Rattle.dnp_world.specs.Rounds.{IsRound, StopsInRound}
use Rattle.dnp_world.specs.Wholes.{Whole}
use Rattle.dnp_world.specs.declared.event.Link.{Link}
use Rattle.dnp_world.specs.declared.round_fault.RoundFault.{RoundFault}
use Rattle.dnp_world.specs.declared.round_fault.RoundFault.TheVariants.{NotQuiet, Fault}
use Rattle.dnp_daemons.specs.ScriptWorlds.{RoundEnds}

-- what wasn't refused was quiet
was_quiet : (r : Result ⊤ RoundFault) (quiet : Bool) → (r ≡ Err NotQuiet → ⊥) → (r ≡ Err NotQuiet) ↔ (quiet ≡ false) → quiet ≡ true
was_quiet r true other refused = refl
was_quiet r false other refused = absurd (other (refused.1 refl))

pub round_ends : (on : Link) (old new : Whole) (r : Result ⊤ RoundFault) → ((r ≡ Err NotQuiet) ↔ (is_quiet_on old on ≡ false))
    → (r ≡ Err NotQuiet → new ≡ old) → OnOk r (IsRound HappensToAll (seen_at (centre_of on)) on old new)
    → IfErr r (λ fault. fault ≢ NotQuiet → StopsInRound HappensToAll (seen_at (centre_of on)) may_stop on old new)
    → RoundEnds old on r new
round_ends on old new (Ok done) refused same round stopped = (was_quiet (Ok done) (is_quiet_on old on) (λ e. cc) refused, round)
round_ends on old new (Err NotQuiet) refused same round stopped = (refused.0 refl, same refl)
round_ends on old new (Err (Fault cause)) refused same round stopped =
    (was_quiet (Err (Fault cause)) (is_quiet_on old on) (λ e. cc) refused, stopped (λ e. cc))
