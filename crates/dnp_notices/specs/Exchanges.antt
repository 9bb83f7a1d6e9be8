-- Definition: the response that a station awaits, and what comes in its place (IEEE Std 1815-2012, application layer: sequence
-- numbers, FIR, FIN and UNS).
use Rattle.std.specs.Prelude.{ℕ, ◌%◌, Bool, true, false, not, ◌&&◌, ◌==◌, if◌then◌else◌, List, [], ◌∷◌, Option, Some, None, Result, Ok, Err}
use Rattle.dnp_appfragment.specs.declared.fault.AppFault.{AppFault}
use Rattle.dnp_appfragment.specs.declared.function.Function.{Function}
use Rattle.dnp_appfragment.specs.declared.function.Function.TheVariants as function
use Rattle.dnp_appfragment.specs.Control.{ControlBits}
use Rattle.dnp_appfragment.specs.Fragments.{Answered}
use Rattle.dnp_master.specs.Calls.{is_report}
use Rattle.dnp_master.specs.State.{State, after as following}
use Rattle.dnp_master.specs.declared.request.OpenRequest.{OpenRequest}
use Rattle.dnp_notices.specs.declared.exchange.Awaited.{Awaited}
use Rattle.dnp_notices.specs.declared.exchange.Exchange.{Exchange}
use Rattle.dnp_notices.specs.declared.exchange.Mismatch.{Mismatch}
use Rattle.dnp_notices.specs.declared.exchange.Mismatch.TheVariants.{Sequence, First, Later, Form}

-- ---- why a response is not the one that is awaited

-- another sequence number is told before FIR
abbrev pub mismatch_of_control : Awaited → ControlBits → Option Mismatch
mismatch_of_control awaited control =
    if not (control.seq == awaited.seq) then Some (Sequence control.seq awaited.seq)
    else (if awaited.is_later && control.fir then Some First
    else (if not awaited.is_later && not control.fir then Some Later
    else None))

abbrev pub mismatch : Awaited → Function → ControlBits → Option Mismatch
mismatch awaited function.Response control = if control.uns then Some Form else mismatch_of_control awaited control
mismatch awaited _ control = Some Form

abbrev pub mismatch_eq : Mismatch → Mismatch → Bool
mismatch_eq (Sequence came awaited) (Sequence came' awaited') = (came == came') && (awaited == awaited')
mismatch_eq First First = true
mismatch_eq Later Later = true
mismatch_eq Form Form = true
mismatch_eq _ _ = false

-- ---- what is awaited, from fragment to fragment

-- the first fragment, with the sequence number of the request
abbrev pub asked : List ℕ → Exchange
asked [] = record { awaited = None; mismatch = None }
asked (control ∷ rest) = record { awaited = Some (record { seq = control % 16; is_later = false }); mismatch = None }

-- none after the last one, else the one with the next sequence number
abbrev pub next_after : ControlBits → Option Awaited
next_after control = if control.fin then None else Some (record { seq = following control.seq; is_later = true })

abbrev pub after_by : Exchange → ControlBits → Option Mismatch → Exchange
after_by exchange control (Some mismatch) = record exchange { mismatch = Some mismatch }
after_by exchange control None = record { awaited = next_after control; mismatch = None }

-- a report changes nothing
abbrev pub after_awaited : Exchange → Option Awaited → Function → ControlBits → Exchange
after_awaited exchange None function control = exchange
after_awaited exchange (Some awaited) function control =
    if is_report function control then exchange else after_by exchange control (mismatch awaited function control)

abbrev pub after : Exchange → Function → ControlBits → Exchange
after exchange function control = after_awaited exchange exchange.awaited function control

abbrev pub came : Exchange → Result Answered AppFault → Exchange
came exchange (Ok answered) = after exchange answered.function answered.control
came exchange (Err fault) = exchange

-- ---- what a master awaits

abbrev pub awaited_by : ℕ → Option OpenRequest → Option Awaited
awaited_by seq None = None
awaited_by seq (Some request) = Some (record { seq = seq; is_later = request.has_begun })

abbrev pub awaited_of : State → Option Awaited
awaited_of s = awaited_by s.seq s.request
