-- A lane is known by its class and its kind.
use Rattle.std.proofs.Common.{◌≡◌, ℕ, zero, suc, ◌≤◌, ◌↔◌, Option, Some, None, refl, ap, arith, rules}
use Rattle.std.specs.Prelude.{IsSome, IfSome}
use Rattle.dnp_objects.specs.declared.limits.TheConstants.{CLASSES}
use native.Mathlib.Bridge.{le_prop}
use mathlib.Core.HLevel.{is_prop→PathP}
use Rattle.dnp_objects.specs.declared.row.Kind.{Kind}
use Rattle.dnp_objects.specs.declared.lane.Lane.{Lane}
use Rattle.dnp_objects.specs.Lanes.{IsLane}
use Rattle.dnp_pointdb.specs.Events.{lane_of}

pub one_lane : (a b : Lane) → a.class ≡ b.class → a.kind ≡ b.kind → a ≡ b
one_lane a b p q = λ i. record {
  class = p i;
  kind = q i;
  at_least_1 = is_prop→PathP (λ j. 1 ≤ p j) (λ j. le_prop) a.at_least_1 b.at_least_1 i;
  at_most_3 = is_prop→PathP (λ j. p j ≤ 3) (λ j. le_prop) a.at_most_3 b.at_most_3 i;
}

pub lane_found : (found : Option Lane) (class : ℕ) (kind : Kind)
    → (IsSome found ↔ ((1 ≤ class) × (class ≤ CLASSES))) → IfSome found (λ lane. IsLane lane class kind)
    → found ≡ lane_of class kind
lane_found None zero kind in_range is = refl
lane_found None (suc zero) kind in_range is = absurd (let some : IsSome {T = Lane} None = in_range.1 (omega arith, omega arith) in grind arith)
lane_found None (suc (suc zero)) kind in_range is = absurd (let some : IsSome {T = Lane} None = in_range.1 (omega arith, omega arith) in grind arith)
lane_found None (suc (suc (suc zero))) kind in_range is = absurd (let some : IsSome {T = Lane} None = in_range.1 (omega arith, omega arith) in grind arith)
lane_found None (suc (suc (suc (suc n)))) kind in_range is = refl
lane_found (Some lane) zero kind in_range is = absurd (let some : IsSome {T = Lane} (Some lane) = search rules in omega (arith, in_range.0 some))
lane_found (Some lane) (suc zero) kind in_range is = ap (λ (l : Lane). Some l) (one_lane lane _ is.0 is.1)
lane_found (Some lane) (suc (suc zero)) kind in_range is = ap (λ (l : Lane). Some l) (one_lane lane _ is.0 is.1)
lane_found (Some lane) (suc (suc (suc zero))) kind in_range is = ap (λ (l : Lane). Some l) (one_lane lane _ is.0 is.1)
lane_found (Some lane) (suc (suc (suc (suc n)))) kind in_range is = absurd (let some : IsSome {T = Lane} (Some lane) = search rules in omega (arith, in_range.0 some))
