-- Calls of a master's side: the steps of the station that was lent to it.
use Rattle.std.proofs.Common.{◌≡◌, ◌⊎◌, ◌≤◌, ℕ, ◌+◌, Bool, true, false, List, [], ◌∷◌, ◌++◌, ◌<◌, arith, inl, inr, refl, sym, ap, ◌∙◌}
use Rattle.std.specs.Prelude.{if◌then◌else◌, length, IfSome, Option, Some, None, is_some}
use Rattle.std.proofs.lemmas.Bool.{cases_lt}
use Rattle.dnp_streams.specs.links.Deeds.{Reply, Ways, Ticked}
use Rattle.dnp_streams.specs.links.Laws.{Event, Made, deeds_in}
use Rattle.dnp_streams.specs.links.Links.{HasRoom, LinkState}
use Rattle.dnp_nodes.specs.CallerCalls.{IsClosed, IsFed, IsHanded, IsOpened, IsTicked}
use Rattle.dnp_nodes.specs.Callers.{Calls, IsCut, is_up, link_of, over_budget}
use Rattle.dnp_nodes.specs.Turns.{IsLed}
use Rattle.dnp_nodes.specs.declared.caller.Caller.{Caller}
use Rattle.dnp_nodes.specs.declared.slot.Closing.{Closing}
use Rattle.dnp_nodes.specs.declared.slot.Want.{Want}

pub led_still : {S : Type 0} (w : Ways S) (hung_up_of : S → S) (h : Type 0) (s s' : S) → (h → s' ≡ s) → IsLed w hung_up_of h s s'
led_still w hung_up_of h s s' same = record { deeds = []; is_cut = false; leads = λ honest. record { last = s; acts = refl; end = same honest } }

pub led_cut : {S : Type 0} (w : Ways S) (hung_up_of : S → S) (h : Type 0) (s s' : S) → (h → s' ≡ hung_up_of s) → IsLed w hung_up_of h s s'
led_cut w hung_up_of h s s' same = record { deeds = []; is_cut = true; leads = λ honest. record { last = s; acts = refl; end = same honest } }

led_called : {S : Type 0} (w : Ways S) (hung_up_of : S → S) (h : Type 0) (now : ℕ) (first : List Event) (from : LinkState) (want : Option Want)
    (old new : Caller) (s s' : S) → Calls w hung_up_of h now first from want old s new s' → IsLed w hung_up_of h s s'
led_called w hung_up_of h now first from want old new s s' calls = record {
  deeds = deeds_in (first ++ calls.goes.rest);
  is_cut = is_some calls.over;
  leads = λ honest. record { last = calls.station; acts = calls.goes.runs.acts honest; end = calls.ends.state honest };
}

pub led_opened : {S : Type 0} (w : Ways S) (hung_up_of : S → S) (h : Type 0) (now : ℕ) (old new : Caller) (s s' : S)
    → IsOpened w hung_up_of h now old s new s' → IsLed w hung_up_of h s s'
led_opened w hung_up_of h now old new s s' is = led_called w hung_up_of h now _ _ _ old new s s' is.opened.1

led_up : {S : Type 0} (w : Ways S) (hung_up_of : S → S) (h : Type 0) (s s' : S) (up : Bool) {Same Else : Type 0}
    → (up ≡ false → Same × (s' ≡ s)) → (up ≡ true → Else) → (Else → IsLed w hung_up_of h s s') → IsLed w hung_up_of h s s'
led_up w hung_up_of h s s' false down more led = led_still w hung_up_of h s s' (λ honest. (down refl).1)
led_up w hung_up_of h s s' true down more led = led (more refl)

led_fed_up : {S : Type 0} (w : Ways S) (hung_up_of : S → S) (h : Type 0) (now : ℕ) (first : List Event) (from : LinkState) (want : Option Want)
    (cause : Closing) (old new : Caller) (s s' : S) → (IsCut hung_up_of h cause old s new s') ⊎ Calls w hung_up_of h now first from want old s new s'
    → IsLed w hung_up_of h s s'
led_fed_up w hung_up_of h now first from want cause old new s s' (inl is) = led_cut w hung_up_of h s s' is.state
led_fed_up w hung_up_of h now first from want cause old new s s' (inr calls) = led_called w hung_up_of h now first from want old new s s' calls

pub led_fed : {S : Type 0} (w : Ways S) (hung_up_of : S → S) (h : Type 0) (now : ℕ) (octets : List ℕ) (old new : Caller) (s s' : S)
    → IsFed w hung_up_of h now octets old s new s' → IsLed w hung_up_of h s s'
led_fed w hung_up_of h now octets old new s s' is =
    led_up w hung_up_of h s s' (is_up old) is.unconnected is.fed (led_fed_up w hung_up_of h now _ _ _ _ old new s s')

pub led_handed : {S : Type 0} (w : Ways S) (hung_up_of : S → S) (h : Type 0) (now count : ℕ) (old new : Caller) (s s' : S)
    → IsHanded w hung_up_of h now count old s new s' → IsLed w hung_up_of h s s'
led_handed w hung_up_of h now count old new s s' is =
    led_up w hung_up_of h s s' (is_up old) is.unconnected is.handed (led_called w hung_up_of h now _ _ _ old new s s')

pub led_closed_by : {S : Type 0} (w : Ways S) (hung_up_of : S → S) (h : Type 0) (s s' : S) (up : Bool)
    → (h → s' ≡ (if up then hung_up_of s else s)) → IsLed w hung_up_of h s s'
led_closed_by w hung_up_of h s s' true same = led_cut w hung_up_of h s s' same
led_closed_by w hung_up_of h s s' false same = led_still w hung_up_of h s s' same

pub led_closed : {S : Type 0} (w : Ways S) (hung_up_of : S → S) (h : Type 0) (now : ℕ) (old new : Caller) (s s' : S)
    → IsClosed hung_up_of h now old s new s' → IsLed w hung_up_of h s s'
led_closed w hung_up_of h now old new s s' is = led_closed_by w hung_up_of h s s' (is_up old) is.hung_up

led_roomy : {S : Type 0} (w : Ways S) (hung_up_of : S → S) (h : Type 0) (now : ℕ) (from : LinkState) (want : Option Want) (old new : Caller) (s s' : S)
    {Kept : Type 0} → (HasRoom from) ⊎ (HasRoom from → ⊥)
    → (HasRoom from → (reply : Reply) × (Calls w hung_up_of h now (Made (Ticked now reply) ∷ []) from want old s new s'))
    → ((HasRoom from → ⊥) → Kept × (h → s' ≡ s)) → IsLed w hung_up_of h s s'
led_roomy w hung_up_of h now from want old new s s' (inl room) passes full = led_called w hung_up_of h now _ _ _ old new s s' (passes room).1
led_roomy w hung_up_of h now from want old new s s' (inr none) passes full = led_still w hung_up_of h s s' (full none).1

has_room : (a b : ℕ) → (a ≤ b) ⊎ (a ≤ b → ⊥)
has_room a b = by (cases_lt b a)
  where
    by : (b < a) ⊎ (a ≤ b) → (a ≤ b) ⊎ (a ≤ b → ⊥)
    by (inl less) = inr (λ more. omega arith)
    by (inr more) = inl more

led_in_time : {S : Type 0} (w : Ways S) (hung_up_of : S → S) (h : Type 0) (now : ℕ) (from : LinkState) (want : Option Want) (old new : Caller) (s s' : S)
    {Kept : Type 0} (budget : Option Closing) → IfSome budget (λ cause. IsCut hung_up_of h cause old s new s')
    → (budget ≡ None → HasRoom from → (reply : Reply) × (Calls w hung_up_of h now (Made (Ticked now reply) ∷ []) from want old s new s'))
    → (budget ≡ None → (HasRoom from → ⊥) → Kept × (h → s' ≡ s)) → IsLed w hung_up_of h s s'
led_in_time w hung_up_of h now from want old new s s' (Some cause) over passes full = led_cut w hung_up_of h s s' over.state
led_in_time w hung_up_of h now from want old new s s' None over passes full =
    led_roomy w hung_up_of h now from want old new s s' (has_room _ _) (passes refl) (full refl)

led_time : {S : Type 0} (w : Ways S) (hung_up_of : S → S) (h : Type 0) (now : ℕ) (from : LinkState) (want : Option Want) (old new : Caller) (s s' : S)
    {Waited Kept : Type 0} (up : Bool) (budget : Option Closing) → (up ≡ false → Waited × (s' ≡ s))
    → (up ≡ true → IfSome budget (λ cause. IsCut hung_up_of h cause old s new s'))
    → (up ≡ true → budget ≡ None → HasRoom from → (reply : Reply) × (Calls w hung_up_of h now (Made (Ticked now reply) ∷ []) from want old s new s'))
    → (up ≡ true → budget ≡ None → (HasRoom from → ⊥) → Kept × (h → s' ≡ s)) → IsLed w hung_up_of h s s'
led_time w hung_up_of h now from want old new s s' false budget waited over passes full = led_still w hung_up_of h s s' (λ honest. (waited refl).1)
led_time w hung_up_of h now from want old new s s' true budget waited over passes full =
    led_in_time w hung_up_of h now from want old new s s' budget (over refl) (passes refl) (full refl)

pub led_ticked : {S : Type 0} (w : Ways S) (hung_up_of : S → S) (h : Type 0) (now : ℕ) (old new : Caller) (s s' : S)
    → IsTicked w hung_up_of h now old s new s' → IsLed w hung_up_of h s s'
led_ticked w hung_up_of h now old new s s' is =
    led_time w hung_up_of h now (link_of old) _ old new s s' (is_up old) (over_budget old now) is.waited is.over is.passes is.full
