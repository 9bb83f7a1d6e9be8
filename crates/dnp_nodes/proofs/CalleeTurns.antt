-- Calls of an outstation's side: the steps of the station that was lent to it.
use Rattle.std.proofs.Common.{◌≡◌, ◌⊎◌, ℕ, Bool, true, false, List, [], ◌++◌, inl, inr, refl}
use Rattle.std.specs.Prelude.{if◌then◌else◌, IfSome, Option, Some, None, is_some}
use Rattle.dnp_streams.specs.links.Deeds.{Ways}
use Rattle.dnp_streams.specs.links.Laws.{Event, deeds_in}
use Rattle.dnp_streams.specs.links.Links.{LinkState}
use Rattle.dnp_nodes.proofs.CallerTurns.{led_closed_by, led_cut, led_still}
use Rattle.dnp_nodes.specs.CalleeCalls.{IsClosed, IsFed, IsHanded, IsOpened, IsTicked}
use Rattle.dnp_nodes.specs.Callees.{Calls, IsCut, is_up, link_of, over_budget}
use Rattle.dnp_nodes.specs.Turns.{IsLed}
use Rattle.dnp_nodes.specs.declared.callee.Callee.{Callee}
use Rattle.dnp_nodes.specs.declared.slot.Closing.{Closing}
use Rattle.dnp_nodes.specs.declared.slot.Want.{Want}

led_called : {S : Type 0} (w : Ways S) (hung_up_of : S → S) (h : Type 0) (now : ℕ) (first : List Event) (from : LinkState) (want : Option Want)
    (old new : Callee) (s s' : S) → Calls w hung_up_of h now first from want old s new s' → IsLed w hung_up_of h s s'
led_called w hung_up_of h now first from want old new s s' calls = record {
  deeds = deeds_in (first ++ (calls.goes.heard ++ calls.goes.time));
  is_cut = is_some calls.over;
  leads = λ honest. record { last = calls.station; acts = calls.goes.runs.acts honest; end = calls.ends.state honest };
}

pub led_opened : {S : Type 0} (w : Ways S) (hung_up_of : S → S) (h : Type 0) (now : ℕ) (old new : Callee) (s s' : S)
    → IsOpened w hung_up_of h now old s new s' → IsLed w hung_up_of h s s'
led_opened w hung_up_of h now old new s s' is = led_called w hung_up_of h now _ _ _ old new s s' is.opened.1

led_up : {S : Type 0} (w : Ways S) (hung_up_of : S → S) (h : Type 0) (s s' : S) (up : Bool) {Same Else : Type 0}
    → (up ≡ false → Same × (s' ≡ s)) → (up ≡ true → Else) → (Else → IsLed w hung_up_of h s s') → IsLed w hung_up_of h s s'
led_up w hung_up_of h s s' false down more led = led_still w hung_up_of h s s' (λ honest. (down refl).1)
led_up w hung_up_of h s s' true down more led = led (more refl)

led_fed_up : {S : Type 0} (w : Ways S) (hung_up_of : S → S) (h : Type 0) (now : ℕ) (first : List Event) (from : LinkState) (want : Option Want)
    (cause : Closing) (old new : Callee) (s s' : S) → (IsCut hung_up_of h cause old s new s') ⊎ Calls w hung_up_of h now first from want old s new s'
    → IsLed w hung_up_of h s s'
led_fed_up w hung_up_of h now first from want cause old new s s' (inl is) = led_cut w hung_up_of h s s' is.state
led_fed_up w hung_up_of h now first from want cause old new s s' (inr calls) = led_called w hung_up_of h now first from want old new s s' calls

pub led_fed : {S : Type 0} (w : Ways S) (hung_up_of : S → S) (h : Type 0) (now : ℕ) (octets : List ℕ) (old new : Callee) (s s' : S)
    → IsFed w hung_up_of h now octets old s new s' → IsLed w hung_up_of h s s'
led_fed w hung_up_of h now octets old new s s' is =
    led_up w hung_up_of h s s' (is_up old) is.unconnected is.fed (led_fed_up w hung_up_of h now _ _ _ _ old new s s')

pub led_handed : {S : Type 0} (w : Ways S) (hung_up_of : S → S) (h : Type 0) (now count : ℕ) (old new : Callee) (s s' : S)
    → IsHanded w hung_up_of h now count old s new s' → IsLed w hung_up_of h s s'
led_handed w hung_up_of h now count old new s s' is =
    led_up w hung_up_of h s s' (is_up old) is.unconnected is.handed (led_called w hung_up_of h now _ _ _ old new s s')

pub led_closed : {S : Type 0} (w : Ways S) (hung_up_of : S → S) (h : Type 0) (old new : Callee) (s s' : S)
    → IsClosed hung_up_of h old s new s' → IsLed w hung_up_of h s s'
led_closed w hung_up_of h old new s s' is = led_closed_by w hung_up_of h s s' (is_up old) is.hung_up

led_in_time : {S : Type 0} (w : Ways S) (hung_up_of : S → S) (h : Type 0) (now : ℕ) (from : LinkState) (want : Option Want) (old new : Callee) (s s' : S)
    (budget : Option Closing) → IfSome budget (λ cause. IsCut hung_up_of h cause old s new s')
    → (budget ≡ None → Calls w hung_up_of h now [] from want old s new s') → IsLed w hung_up_of h s s'
led_in_time w hung_up_of h now from want old new s s' (Some cause) over calls = led_cut w hung_up_of h s s' over.state
led_in_time w hung_up_of h now from want old new s s' None over calls = led_called w hung_up_of h now _ _ _ old new s s' (calls refl)

led_time : {S : Type 0} (w : Ways S) (hung_up_of : S → S) (h : Type 0) (now : ℕ) (from : LinkState) (want : Option Want) (old new : Callee) (s s' : S)
    {Same : Type 0} (up : Bool) (budget : Option Closing) → (up ≡ false → Same × (s' ≡ s))
    → (up ≡ true → IfSome budget (λ cause. IsCut hung_up_of h cause old s new s'))
    → (up ≡ true → budget ≡ None → Calls w hung_up_of h now [] from want old s new s') → IsLed w hung_up_of h s s'
led_time w hung_up_of h now from want old new s s' false budget down over calls = led_still w hung_up_of h s s' (λ honest. (down refl).1)
led_time w hung_up_of h now from want old new s s' true budget down over calls = led_in_time w hung_up_of h now from want old new s s' budget (over refl) (calls refl)

pub led_ticked : {S : Type 0} (w : Ways S) (hung_up_of : S → S) (h : Type 0) (now : ℕ) (old new : Callee) (s s' : S)
    → IsTicked w hung_up_of h now old s new s' → IsLed w hung_up_of h s s'
led_ticked w hung_up_of h now old new s s' is =
    led_time w hung_up_of h now (link_of old) _ old new s s' (is_up old) (over_budget old now) is.unconnected is.over is.in_time
