-- Lines that do nothing, found one after the other.
use Rattle.std.proofs.Common.{◌≡◌, ℕ, ◌+◌, ◌<◌, List, ◌∷◌, Option, Some, None, IfSome, arith, refl}
use Rattle.dnp_concentrator.specs.declared.plan.Plan.{Plan}
use Rattle.dnp_daemons.specs.IdleLines.{idle_from, reason_of}
use Rattle.dnp_daemons.specs.declared.script.idle.IdleLines.{IdleLines}
use Rattle.dnp_daemons.specs.declared.script.idle.IdleReason.{IdleReason}
use Rattle.dnp_daemons.specs.steps.Idle.{found_after, found_before}

-- a line of this number stands before those to come
pub found_next : (plan : Plan) (found : Option IdleLines) (number : ℕ) (line : List ℕ) (lines : List (List ℕ)) (reason : Option IdleReason)
    → reason ≡ reason_of plan line
    → found_before found (idle_from plan number (line ∷ lines))
    ≡ found_before (found_after found number reason) (idle_from plan (number + 1) lines)
found_next plan found number line lines None e = rw (← e) refl
found_next plan None number line lines (Some reason) e = rw (← e) (grind arith)
found_next plan (Some found) number line lines (Some reason) e = rw (← e) (grind arith)

-- they are fewer than the lines so far
pub found_fewer : (found : Option IdleLines) (number : ℕ) (reason : Option IdleReason) → 0 < number → IfSome found (λ lines. lines.count < number)
    → IfSome (found_after found number reason) (λ lines. lines.count < number + 1)
found_fewer None number None some few = tt
found_fewer (Some found) number None some few = omega arith
found_fewer None number (Some reason) some few = omega arith
found_fewer (Some found) number (Some reason) some few = omega arith
