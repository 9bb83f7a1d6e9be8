-- Each function has one octet, and no octet is two functions'.
use Rattle.std.proofs.Common.{◌≡◌, refl, subst, ℕ, Bool, true, false, cond, List, [], ◌∷◌, Some, IfSome, eqb-true, ◌==◌, find}
use Rattle.dnp_appfragment.specs.declared.function.Function.{Function}
use Rattle.dnp_appfragment.specs.declared.function.Function.TheVariants as function
use Rattle.dnp_appfragment.specs.Table.{codes, function_of, function_octet}

found_in : (octet : ℕ) (functions : List Function) → IfSome (find (λ (f : Function). function_octet f == octet) functions) (λ f. function_octet f ≡ octet)
found_in octet [] = tt
found_in octet (f ∷ functions) = here (function_octet f == octet) refl (found_in octet functions)
  where
    here : (b : Bool) → (function_octet f == octet) ≡ b → IfSome (find (λ (f : Function). function_octet f == octet) functions) (λ f. function_octet f ≡ octet)
        → IfSome (cond b (Some f) (find (λ (f : Function). function_octet f == octet) functions)) (λ f. function_octet f ≡ octet)
    here true is rest = eqb-true (function_octet f) octet is
    here false is rest = rest

pub function_found : (octet : ℕ) → IfSome (function_of octet) (λ f. function_octet f ≡ octet)
unfolding function_of
function_found octet = found_in octet codes

pub function_again : (f : Function) → function_of (function_octet f) ≡ Some f
unfolding function_of codes
function_again function.Confirm = refl
function_again function.Read = refl
function_again function.Write = refl
function_again function.Select = refl
function_again function.Operate = refl
function_again function.DirectOperate = refl
function_again function.DirectOperateNr = refl
function_again function.EnableUnsolicited = refl
function_again function.DisableUnsolicited = refl
function_again function.DelayMeasure = refl
function_again function.Response = refl
function_again function.UnsolicitedResponse = refl

pub function_only : (octet : ℕ) (f : Function) → function_octet f ≡ octet → function_of octet ≡ Some f
function_only octet f is = subst (λ (n : ℕ). function_of n ≡ Some f) is (function_again f)
