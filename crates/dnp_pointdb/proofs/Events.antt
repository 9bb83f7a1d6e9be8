-- Which changes are events, and what lost communication does to flags.
use Rattle.std.proofs.Common.{◌≡◌, ◌≢◌, ℕ, zero, suc, ◌<◌, ◌≤◌, ◌⊎◌, ◌↔◌, Bool, true, false, cond, not, ◌||◌, ◌==◌, min, max, Option, None, refl, sym, ◌∙◌, ap, arith, rules, inl, inr, ltb-true, lt-ltb}
use Rattle.std.specs.Prelude.{IsSome, IfSome, nat_lt, bit_and}
use Rattle.std.specs.Option.{option_map}
use Rattle.std.specs.Int.{bit_at}
use Rattle.std.proofs.lemmas.Bool.Decides.{eqb_tells}
use Rattle.std.proofs.lemmas.Nat.Bits.{bit_at_and, bit_at_or, bit_at-lt, bit_at_mask_inside, bit_at-pow_other}
use Rattle.dnp_objects.specs.declared.limits.TheConstants.{CLASSES}
use Rattle.dnp_objects.specs.declared.row.Kind.{Kind}
use Rattle.dnp_objects.specs.declared.row.Row.{Row}
use Rattle.dnp_objects.specs.declared.lane.Lane.{Lane}
use Rattle.dnp_objects.specs.declared.lane.LaneRow.{LaneRow}
use Rattle.dnp_objects.specs.Lanes.{IsLane}
use Rattle.dnp_pointdb.specs.declared.point.Point.{Point}
use Rattle.dnp_pointdb.specs.declared.reading.Reading.{Reading}
use Rattle.dnp_pointdb.specs.declared.reading.LastReport.{LastReport}
use Rattle.dnp_pointdb.specs.Events.{differs, distance, lane_of, row_of, event_of}
use Rattle.dnp_pointdb.specs.Database.{lost_flags}

-- ---- events

abbrev event_from : Bool → Option Lane → Row → Option LaneRow
event_from d lane row = cond d (option_map (λ (l : Lane). record { lane = l; row = row }) lane) None

no_event : IsSome {T = LaneRow} None → ⊥
no_event h = grind (arith, h)

is_event : (d : Bool) (class : ℕ) (kind : Kind) (row : Row)
    → IsSome (event_from d (lane_of class kind) row) ↔ ((d ≡ true) × (1 ≤ class) × (class ≤ CLASSES))
is_event false class kind row = (λ h. absurd (no_event h), λ h. absurd (cc))
is_event true zero kind row = (λ h. absurd (no_event h), λ h. absurd (omega (arith, h.1)))
is_event true (suc zero) kind row = (λ h. (refl, omega arith, omega arith), λ h. search rules)
is_event true (suc (suc zero)) kind row = (λ h. (refl, omega arith, omega arith), λ h. search rules)
is_event true (suc (suc (suc zero))) kind row = (λ h. (refl, omega arith, omega arith), λ h. search rules)
is_event true (suc (suc (suc (suc n)))) kind row = (λ h. absurd (no_event h), λ h. absurd (omega (arith, h.2)))

differing : (point : Point) (last : LastReport) (reading : Reading)
    → (differs point last reading ≡ true) ↔ ((reading.flags ≢ last.flags) ⊎ (point.deadband < distance reading.value last.value))
differing point last reading = by_numbers reading.flags last.flags point.deadband (distance reading.value last.value)
  where
    by_flags : (a b d m : ℕ) → ((a == b) ≡ true) × (a ≡ b) ⊎ ((a == b) ≡ false) × (a ≢ b) → (not (a == b) || nat_lt d m ≡ true) ↔ ((a ≢ b) ⊎ (d < m))
    by_flags a b d m (inl p) =
        let is : not (a == b) || nat_lt d m ≡ nat_lt d m = ap (λ (t : Bool). not t || nat_lt d m) p.0 in
        (λ h. inr (ltb-true d m (sym is ∙ h)), λ h. is ∙ elim h [ inl apart ↦ absurd (apart p.1) | inr lt ↦ lt-ltb d m lt ])
    by_flags a b d m (inr p) =
        let is : not (a == b) || nat_lt d m ≡ true = ap (λ (t : Bool). not t || nat_lt d m) p.0 in
        (λ h. inl p.1, λ h. is)

    by_numbers : (a b d m : ℕ) → (not (a == b) || nat_lt d m ≡ true) ↔ ((a ≢ b) ⊎ (d < m))
    by_numbers a b d m = by_flags a b d m (eqb_tells a b)

pub event_exactly : (kind : Kind) (index : ℕ) (point : Point) (last : LastReport) (reading : Reading)
    → IsSome (event_of kind index point last reading)
    ↔ ((1 ≤ point.class) × (point.class ≤ CLASSES)
    × ((reading.flags ≢ last.flags) ⊎ (point.deadband < distance reading.value last.value)))
event_exactly kind index point last reading =
    let either = is_event (differs point last reading) point.class kind (row_of kind index reading) in
    let far = differing point last reading in
    (λ h. let found = either.0 h in (found.1, found.2, far.0 found.0), λ h. either.1 (far.1 h.2, h.0, h.1))

row_in_lane : (d : Bool) (class : ℕ) (kind : Kind) (row : Row)
    → IfSome (event_from d (lane_of class kind) row) (λ made. IsLane made.lane class kind × (made.row ≡ row))
row_in_lane false class kind row = tt
row_in_lane true zero kind row = tt
row_in_lane true (suc zero) kind row = ((refl, refl), refl)
row_in_lane true (suc (suc zero)) kind row = ((refl, refl), refl)
row_in_lane true (suc (suc (suc zero))) kind row = ((refl, refl), refl)
row_in_lane true (suc (suc (suc (suc n)))) kind row = tt

pub event_row : (kind : Kind) (index : ℕ) (point : Point) (last : LastReport) (reading : Reading)
    → IfSome (event_of kind index point last reading)
    (λ made. IsLane made.lane point.class kind × (made.row ≡ row_of kind index reading))
event_row kind index point last reading = row_in_lane (differs point last reading) point.class kind (row_of kind index reading)

-- ---- flags

cleared : (x y a w z : ℕ) → x ≡ max y z → y ≡ min a w → w ≡ 0 → z ≡ 0 → x ≡ 0
cleared x y a w z p q r s = omega arith

put_up : (x y a w z : ℕ) → x ≡ max y z → y ≡ min a w → a < 2 → z ≡ 1 → x ≡ 1
put_up x y a w z p q r s = omega arith

left : (x y a w z : ℕ) → x ≡ max y z → y ≡ min a w → w ≡ 1 → z ≡ 0 → a < 2 → x ≡ a
left x y a w z p q r s t = omega arith

pub online_cleared : (flags : ℕ) → bit_at (lost_flags flags) 0 ≡ 0
online_cleared flags =
    cleared (bit_at (lost_flags flags) 0) (bit_at (bit_and flags 254) 0) (bit_at flags 0) (bit_at 254 0) (bit_at 4 0)
    (bit_at_or (bit_and flags 254) 4 0) (bit_at_and flags 254 0) refl refl

pub comm_lost_set : (flags : ℕ) → bit_at (lost_flags flags) 2 ≡ 1
comm_lost_set flags =
    put_up (bit_at (lost_flags flags) 2) (bit_at (bit_and flags 254) 2) (bit_at flags 2) (bit_at 254 2) (bit_at 4 2)
    (bit_at_or (bit_and flags 254) 4 2) (bit_at_and flags 254 2) (bit_at-lt flags 2) refl

pub others_left : (flags bit : ℕ) → bit < 8 → bit ≢ 0 → bit ≢ 2 → bit_at (lost_flags flags) bit ≡ bit_at flags bit
others_left flags bit below not_0 not_2 =
    left (bit_at (lost_flags flags) bit) (bit_at (bit_and flags 254) bit) (bit_at flags bit) (bit_at 254 bit) (bit_at 4 bit)
    (bit_at_or (bit_and flags 254) 4 bit) (bit_at_and flags 254 bit) (bit_at_mask_inside 1 8 bit (omega arith) below)
    (bit_at-pow_other 2 bit not_2) (bit_at-lt flags bit)
