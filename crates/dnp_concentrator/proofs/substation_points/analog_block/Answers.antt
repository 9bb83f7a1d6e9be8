-- Where either list is at its end, all points were made.
use Rattle.std.proofs.Common.{◌≡◌, ℕ, ◌⊎◌, inl, inr, List, [], ◌∷◌, ◌++◌, ◌∙◌, ap, refl, sym, append-nil, rules}
use Rattle.std.proofs.lemmas.Slice.Zip.{either_empty_from_Zip}
use Rattle.dnp_pointdb.specs.declared.point.Point.{Point}
use Rattle.dnp_concentrator.specs.PointsAbove.{analog_points}
use Rattle.dnp_concentrator.proofs.substation_points.analog_block.Goals as goal

none_left : (classes deadbands : List ℕ) → (classes ≡ []) ⊎ (deadbands ≡ []) → analog_points classes deadbands ≡ []
none_left classes deadbands (inl e) = rw e refl
none_left [] deadbands (inr e) = refl
none_left (class ∷ classes) deadbands (inr e) = rw e refl

all_made : (all made : List Point) (classes deadbands : List ℕ) → all ≡ made ++ analog_points classes deadbands → (classes ≡ []) ⊎ (deadbands ≡ [])
    → made ≡ all
all_made all made classes deadbands is spent =
    sym (is ∙ ap (λ (more : List Point). made ++ more) (none_left classes deadbands spent) ∙ append-nil made)

pub returns : goal.returns
returns c =
    let spent = either_empty_from_Zip _ c.next.new.self _ c.in-None.is c.next.ensures.steps in
    let here = all_made _ _ _ _ c.loop-class.invariant spent in
    search (rules, here)
