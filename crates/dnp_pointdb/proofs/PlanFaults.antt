-- A plan has one first fault.
use Rattle.std.proofs.Common.{◌≡◌, ℕ, zero, suc, refl, sym, ◌∙◌, ap, inl, inr}
use Rattle.std.proofs.lemmas.Bool.{cases_order}
use Rattle.dnp_pointdb.specs.declared.fault.PlanFault.{PlanFault}
use Rattle.dnp_pointdb.specs.declared.fault.PlanFault.TheVariants.{Class, TooMany, TooWide, Overlap}
use Rattle.dnp_pointdb.specs.Plan.{Plan, IsFirst, place}

-- the fault of a place in the order
fault_at : ℕ → PlanFault
fault_at zero = Class
fault_at (suc zero) = TooMany
fault_at (suc (suc zero)) = TooWide
fault_at (suc (suc (suc n))) = Overlap

fault_at-place : (f : PlanFault) → fault_at (place f) ≡ f
unfolding fault_at
fault_at-place Class = refl
fault_at-place TooMany = refl
fault_at-place TooWide = refl
fault_at-place Overlap = refl

same_place : (f g : PlanFault) → place f ≡ place g → f ≡ g
same_place f g same = sym (fault_at-place f) ∙ ap (λ (n : ℕ). fault_at n) same ∙ fault_at-place g

pub one_first : (plan : Plan) (f g : PlanFault) → IsFirst plan f → IsFirst plan g → f ≡ g
one_first plan f g of_f of_g =
    elim (cases_order (place f) (place g)) [
      | inl same ↦ same_place f g same
      | inr (inl lt) ↦ absurd (of_g.1 f lt of_f.0)
      | inr (inr gt) ↦ absurd (of_f.1 g gt of_g.0)
    ]
