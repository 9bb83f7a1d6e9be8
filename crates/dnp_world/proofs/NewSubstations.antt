-- Substations are made by their numbers.
use Rattle.std.proofs.Common.{◌≡◌, ℕ, suc, ◌+◌, ◌<◌, List, [], ◌∷◌, ◌++◌, length, drop, get_or, sym, ap, ◌∙◌, arith, append_assoc}
use Rattle.std.proofs.lemmas.List.{drop_more}
use Rattle.dnp_pointdb.specs.declared.times.Times.{Times}
use Rattle.dnp_concentrator.specs.declared.plan.SubPlan.{SubPlan}
use Rattle.dnp_world.specs.FreshSystems.{fresh_substation, fresh_substations}
use Rattle.dnp_world.specs.Systems.{SubstationState}

-- one more was made, of those that were left
pub one_made : (times : Times) (k its : ℕ) (plans : List SubPlan) (plan : SubPlan) (made new all : List SubstationState) (one : SubstationState)
    → k < length plans → its ≡ k → plan ≡ get_or plans k plan → one ≡ fresh_substation times its plan → new ≡ made ++ one ∷ []
    → made ++ fresh_substations times k (drop k plans) ≡ all → new ++ fresh_substations times (k + 1) (drop (k + 1) plans) ≡ all
one_made times k its plans plan made new all one low same is one_is put whole =
    let one_here : one ≡ fresh_substation times k plan = one_is ∙ ap (λ (n : ℕ). fresh_substation times n plan) same in
    let next : k + 1 ≡ suc k = omega arith in
    ap (λ (xs : List SubstationState). xs ++ fresh_substations times (k + 1) (drop (k + 1) plans)) put
    ∙ append_assoc made (one ∷ []) (fresh_substations times (k + 1) (drop (k + 1) plans))
    ∙ ap (λ (s : SubstationState). made ++ s ∷ fresh_substations times (k + 1) (drop (k + 1) plans)) one_here
    ∙ ap (λ (n : ℕ). made ++ fresh_substation times k plan ∷ fresh_substations times n (drop (k + 1) plans)) next
    ∙ ap (λ (p : SubPlan). made ++ fresh_substations times k (p ∷ drop (k + 1) plans)) is
    ∙ ap (λ (ps : List SubPlan). made ++ fresh_substations times k ps) (sym (drop_more plans k plan low))
    ∙ whole
