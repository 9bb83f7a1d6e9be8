-- One first fault, and a result that is right where it is Ok and where it is Err.
use Rattle.std.proofs.Common.{◌≡◌, refl, ap, arith, inl, inr, Result, Ok, Err, IfOk, IfErr}
use Rattle.std.proofs.lemmas.Bool.{cases_order}
use Rattle.dnp_objects.specs.declared.fault.ObjectFault.{ObjectFault}
use Rattle.dnp_objects.specs.declared.fault.ObjectFault.TheVariants.{ObjectUnknown, Cut, ValueRange}
use Rattle.dnp_objects.specs.Faults.{place, IsFirst}

-- the places of two faults differ
same_place : (e d : ObjectFault) → place e ≡ place d → e ≡ d
same_place ObjectUnknown ObjectUnknown same = refl
same_place ObjectUnknown Cut same = absurd (omega arith)
same_place ObjectUnknown ValueRange same = absurd (omega arith)
same_place Cut ObjectUnknown same = absurd (omega arith)
same_place Cut Cut same = refl
same_place Cut ValueRange same = absurd (omega arith)
same_place ValueRange ObjectUnknown same = absurd (omega arith)
same_place ValueRange Cut same = absurd (omega arith)
same_place ValueRange ValueRange same = refl

one_first : (IsCause : ObjectFault → Type 0) (e d : ObjectFault) → IsFirst IsCause e → IsFirst IsCause d → e ≡ d
one_first IsCause e d first other =
    elim (cases_order (place e) (place d)) [
      | inl same ↦ same_place e d same
      | inr apart ↦ elim apart [
        | inl before ↦ absurd (other.1 e before first.0)
        | inr after ↦ absurd (first.1 d after other.0)
      ]
    ]

-- where one value is right, and none has a cause of refusal, the right value is the result
pub only_right : {A : Type 0} (IsRight : A → Type 0) (IsCause : ObjectFault → Type 0)
    → ((a b : A) → IsRight a → IsRight b → a ≡ b) → ((a : A) (e : ObjectFault) → IsRight a → IsCause e → ⊥)
    → (r : Result A ObjectFault) → IfOk r IsRight → IfErr r (IsFirst IsCause) → (a : A) → IsRight a → r ≡ Ok a
only_right IsRight IsCause one apart (Ok b) found fault a right = ap Ok (one b a found right)
only_right IsRight IsCause one apart (Err e) found fault a right = absurd (apart a e right fault.0)

-- and the first cause is the result's fault
pub only_fault : {A : Type 0} (IsRight : A → Type 0) (IsCause : ObjectFault → Type 0)
    → ((a : A) (e : ObjectFault) → IsRight a → IsCause e → ⊥)
    → (r : Result A ObjectFault) → IfOk r IsRight → IfErr r (IsFirst IsCause) → (d : ObjectFault) → IsFirst IsCause d → r ≡ Err d
only_fault IsRight IsCause apart (Ok b) found fault d first = absurd (apart b d found first.0)
only_fault IsRight IsCause apart (Err e) found fault d first = ap Err (one_first IsCause e d fault first)
