-- What follows for a result that is seen as the value or the fault that is wanted.
use Rattle.std.proofs.Common.{◌≡◌, subst, Result, Ok, Err, IfOk, IfErr}
use Rattle.std.specs.Result.{IsOkAnd}
use Rattle.dnp_appfragment.specs.declared.fault.AppFault.{AppFault}
use Rattle.dnp_appfragment.specs.Seen.{Gives}

-- what is wanted is right as a value, or as a fault
abbrev pub Meets : {Y : Type 0} → Result Y AppFault → (Y → Type 0) → (AppFault → Type 0) → Type 0
Meets (Ok y) P Q = P y
Meets (Err e) P Q = Q e

pub found_of : {X Y : Type 0} (view : X → Y) (P : Y → Type 0) (Q : AppFault → Type 0) (r : Result X AppFault) (wanted : Result Y AppFault)
    → Gives view r wanted → Meets wanted P Q → IfOk r (λ x. P (view x))
found_of {X} {Y} view P Q (Ok x) wanted gives meets = subst (λ (w : Result Y AppFault). Meets w P Q) gives meets
found_of view P Q (Err e) wanted gives meets = tt

pub fault_of : {X Y : Type 0} (view : X → Y) (P : Y → Type 0) (Q : AppFault → Type 0) (r : Result X AppFault) (wanted : Result Y AppFault)
    → Gives view r wanted → Meets wanted P Q → IfErr r Q
fault_of view P Q (Ok x) wanted gives meets = tt
fault_of {X} {Y} view P Q (Err e) wanted gives meets = subst (λ (w : Result Y AppFault). Meets w P Q) gives meets

pub only_of : {X Y : Type 0} (view : X → Y) (r : Result X AppFault) (wanted : Result Y AppFault) (y : Y)
    → Gives view r wanted → wanted ≡ Ok y → IsOkAnd r (λ x. view x ≡ y)
only_of view (Ok x) wanted y gives is = cc
only_of view (Err e) wanted y gives is = cc

pub only_fault_of : {X Y : Type 0} (view : X → Y) (r : Result X AppFault) (wanted : Result Y AppFault) (e : AppFault)
    → Gives view r wanted → wanted ≡ Err e → r ≡ Err e
only_fault_of view (Ok x) wanted e gives is = cc
only_fault_of view (Err d) wanted e gives is = cc

-- ---- what is wanted, without a call

pub meant : {Y : Type 0} (P : Y → Type 0) (Q : AppFault → Type 0) (wanted : Result Y AppFault) (y : Y) → Meets wanted P Q → wanted ≡ Ok y → P y
meant {Y} P Q wanted y meets is = subst (λ (w : Result Y AppFault). Meets w P Q) is meets

pub meant_fault : {Y : Type 0} (P : Y → Type 0) (Q : AppFault → Type 0) (wanted : Result Y AppFault) (e : AppFault) → Meets wanted P Q
    → wanted ≡ Err e → Q e
meant_fault {Y} P Q wanted e meets is = subst (λ (w : Result Y AppFault). Meets w P Q) is meets
