-- What becomes of a change of an outstation's reading, as its station says it.
use Rattle.std.proofs.Common.{◌≡◌, Result, Ok, Err, refl, sym, ap, ◌∙◌}
use Rattle.std.specs.Prelude.{◌↔◌, IsErr, IfErr, IfOk}
use Rattle.dnp_outstation.specs.Station.{change_fault_of, IsStoreFault}
use Rattle.dnp_outstation.specs.declared.fault.Fault.{Fault}
use Rattle.dnp_outstation.specs.declared.fault.Fault.TheVariants as outstation
use Rattle.dnp_pointdb.specs.declared.fault.ChangeFault.{ChangeFault}
use Rattle.dnp_pointdb.specs.declared.fault.ChangeFault.TheVariants as change
use Rattle.dnp_streams.specs.declared.stream.station.StationFault.{StationFault}
use Rattle.dnp_streams.specs.declared.stream.station.StationFault.TheVariants.{Message}
use Rattle.dnp_streams.specs.streams.Lives.{told_of}

-- the call came to an end, so the points took the reading
pub taken_by_points : {A T : Type 0} (P : Type 0) (r : Result T ChangeFault) (a : A) (Q : T → Type 0)
    → IfErr r (λ e. (◌≡◌ {A = Result A Fault} (Ok a) (Err (change_fault_of e))) × P) → IfOk r Q → (t : T) × (r ≡ Ok t) × Q t
taken_by_points P (Ok t) a Q refused step = (t, refl, step)
taken_by_points P (Err e) a Q refused step = absurd (let is = refused.0 in cc)

told_by_points : (e : ChangeFault) → told_of (change_fault_of e) ≡ Message
told_by_points change.NoPoint = refl
told_by_points _ = refl

told_by_stores : (fault : Fault) → IsStoreFault fault → told_of fault ≡ Message → ⊥
told_by_stores outstation.NoPoint store is = store
told_by_stores outstation.ValueRange store is = store
told_by_stores outstation.TimeRange store is = store
told_by_stores _ store is = absurd (cc)

same_fault : {A : Type 0} (e f : Fault) → ◌≡◌ {A = Result A Fault} (Err e) (Err f) → e ≡ f
same_fault e f is = cc

-- a message is told where the points refused the reading, and nowhere else
pub message_of_points : {T : Type 0} (A P : Type 0) (r : Result T ChangeFault) (fault : Fault) (told : StationFault) → told ≡ told_of fault
    → IfErr r (λ e. (◌≡◌ {A = Result A Fault} (Err fault) (Err (change_fault_of e))) × P) → IfOk r (λ made. IsStoreFault fault)
    → (told ≡ Message) ↔ IsErr r
message_of_points A P (Ok t) fault told is refused named = (λ message. absurd (told_by_stores fault named (sym is ∙ message)), λ none. absurd (cc))
message_of_points A P (Err e) fault told is refused named =
    (λ message. refl, λ some. is ∙ ap told_of (same_fault {A = A} fault (change_fault_of e) refused.0) ∙ told_by_points e)
