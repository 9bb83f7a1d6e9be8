-- A response leaves a link connected, or not connected, as it was.
use Rattle.std.proofs.Common.{◌≡◌, ℕ, Bool, true, false, refl}
use Rattle.std.specs.Prelude.{if◌then◌else◌}
use Rattle.dnp_schedule.specs.declared.pace.Pace.{Pace}
use Rattle.dnp_schedule.specs.declared.schedule.Phase.{Phase}
use Rattle.dnp_schedule.specs.declared.schedule.Phase.TheVariants.{Resting, Connecting, Starting, Running}
use Rattle.dnp_schedule.specs.declared.schedule.Schedule.{Schedule}
use Rattle.dnp_schedule.specs.Deciding.{is_connected}
use Rattle.dnp_schedule.specs.Moving.{answered, heard, is_start_over, settled, settled_in}
use Rattle.dnp_nodes.specs.Callers.{after_response}
use Rattle.dnp_nodes.specs.declared.heads.Head.{Head}

started : (b : Bool) (s : Schedule) → is_connected s.phase ≡ true → is_connected (if b then record s { phase = Running; losses = 0 } else s).phase ≡ true
started true s e = refl
started false s e = e

settled-from : (p : Phase) (s : Schedule) → is_connected s.phase ≡ is_connected p → is_connected (settled_in p s).phase ≡ is_connected p
settled-from (Resting until) s e = e
settled-from (Connecting until) s e = e
settled-from Starting s e = started (is_start_over s) s e
settled-from Running s e = e

phase-settled : (s : Schedule) → is_connected (settled s).phase ≡ is_connected s.phase
phase-settled s = settled-from s.phase s refl

pub phase-after_response : (s : Schedule) (now : ℕ) (pace : Pace) (head : Head) (rows : ℕ) (ends : Bool) → is_connected (after_response s now pace head rows ends).phase ≡ is_connected s.phase
phase-after_response s now pace head rows true = phase-settled (answered (heard s now pace head.iin rows) now head.number)
phase-after_response s now pace head rows false = phase-settled (heard s now pace head.iin rows)
