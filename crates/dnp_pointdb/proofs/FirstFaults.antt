-- The first cause to refuse a reading is the fault that is answered.
use Rattle.std.proofs.Common.{◌≡◌, ℕ, Bool, true, false, Option, Some, None, Result, Err, refl, ◌∙◌, ap, arith}
use Rattle.dnp_objects.specs.declared.row.Kind.{Kind}
use Rattle.dnp_pointdb.specs.declared.reading.Reading.{Reading}
use Rattle.dnp_pointdb.specs.declared.state.PointState.{PointState}
use Rattle.dnp_pointdb.specs.declared.fault.ChangeFault.{ChangeFault}
use Rattle.dnp_pointdb.specs.declared.fault.ChangeFault.TheVariants.{NoPoint, ValueRange, TimeRange}
use Rattle.dnp_pointdb.specs.Ranges.{is_carried, is_in_time}
use Rattle.dnp_pointdb.specs.Database.{Database, state_at, IsFirst, checked, answer_of, set_answer_of, made_from, set_from}
use Rattle.dnp_pointdb.proofs.Changes.{tested}

by_carried : (s : PointState) (carried timely : Bool) → carried ≡ false → tested s carried timely ≡ Err ValueRange
by_carried s carried timely fails = ap (λ (b : Bool). tested s b timely) fails

by_time : (s : PointState) (carried timely : Bool) → (carried ≡ false → ⊥) → timely ≡ false → tested s carried timely ≡ Err TimeRange
by_time s true timely can late = ap (λ (b : Bool). tested s true b) late
by_time s false timely can late = absurd (can refl)

of_found : (found : Option PointState) (kind : Kind) (reading : Reading) → (found ≡ None → ⊥)
    → (s : PointState) × (found ≡ Some s)
of_found None kind reading there = absurd (there refl)
of_found (Some s) kind reading there = (s, refl)

pub first_checked : (database : Database) (kind : Kind) (index : ℕ) (reading : Reading) (fault : ChangeFault)
    → IsFirst database kind index reading fault → checked (state_at database kind index) kind reading ≡ Err fault
first_checked database kind index reading NoPoint first =
    ap (λ (o : Option PointState). checked o kind reading) first.0
first_checked database kind index reading ValueRange first =
    let there = of_found (state_at database kind index) kind reading (λ none. first.1 NoPoint (omega arith) none) in
    ap (λ (o : Option PointState). checked o kind reading) there.1
    ∙ by_carried there.0 (is_carried kind reading) (is_in_time reading.time) first.0
first_checked database kind index reading TimeRange first =
    let there = of_found (state_at database kind index) kind reading (λ none. first.1 NoPoint (omega arith) none) in
    ap (λ (o : Option PointState). checked o kind reading) there.1
    ∙ by_time there.0 (is_carried kind reading) (is_in_time reading.time) (λ fails. first.1 ValueRange (omega arith) fails) first.0

pub first_answer : (database : Database) (kind : Kind) (index : ℕ) (reading : Reading) (fault : ChangeFault)
    → IsFirst database kind index reading fault → answer_of database kind index reading ≡ Err fault
first_answer database kind index reading fault first =
    ap (λ (r : Result PointState ChangeFault). made_from kind index reading r) (first_checked database kind index reading fault first)

pub first_set_answer : (database : Database) (kind : Kind) (index : ℕ) (reading : Reading) (fault : ChangeFault)
    → IsFirst database kind index reading fault → set_answer_of database kind index reading ≡ Err fault
first_set_answer database kind index reading fault first =
    ap (λ (r : Result PointState ChangeFault). set_from r) (first_checked database kind index reading fault first)
