-- The way of a concentrator: turns of its links, one after the other.
use Rattle.std.proofs.Common.{◌≡◌, ◌⊎◌, ℕ, ◌<◌, ◌≤◌, Bool, List, [], ◌∷◌, ◌++◌, inl, inr, refl, subst, sym, ap, ◌∙◌}
use Rattle.std.specs.Prelude.{length}
use Rattle.std.proofs.lemmas.Bool.{cases_lt}
use Rattle.dnp_concentrator.specs.Concentrator.{core_of, links_of}
use Rattle.dnp_concentrator.specs.PerCentre.{at}
use Rattle.dnp_concentrator.specs.declared.concentrator.Concentrator.{Concentrator}
use Rattle.dnp_eventbuf.specs.Sides.{other_than}
use Rattle.dnp_streams.specs.streams.Concentrators.{AboveSeen, BelowSeen, above_hung_up, below_hung_up}
use Rattle.dnp_nodes.proofs.CallerTurns as led
use Rattle.dnp_nodes.proofs.CalleeTurns as led_above
use Rattle.dnp_nodes.specs.CallerCalls as caller
use Rattle.dnp_nodes.specs.CalleeCalls as callee
use Rattle.dnp_nodes.specs.ConcentratorNodes.{CallsAbove, CallsBelow, ClosesAbove, ClosesBelow, FeedsAbove, FeedsBelow, HandsAbove, HandsBelow, IsAsked, IsBeside, OpensAbove, OpensBelow, TellsBelow, TicksAbove, TicksBelow, above_in, below_in, concentrator_in, told}
use Rattle.dnp_nodes.specs.Turns.{AreTurns, GoesItsWay, IsHonest, IsLed, IsTurn, IsTurnAbove, IsTurnBelow, IsWell, Stores, above_ways, below_ways, seen_above, seen_below}
use Rattle.dnp_nodes.specs.declared.callee.Callee.{Callee}
use Rattle.dnp_nodes.specs.declared.caller.Caller.{Caller}
use Rattle.dnp_nodes.specs.declared.concentrator_node.ConcentratorNode.{ConcentratorNode}
use Rattle.dnp_nodes.specs.declared.slot.Slot.{Slot}
use Rattle.dnp_nodes.specs.declared.slot.Slot.TheVariants.{Above, Below}

turns_then : {Q B : Type 0} (v : Stores Q B) (xs ys : List Slot) (a b c : Concentrator Q B) → AreTurns v xs a b → AreTurns v ys b c → AreTurns v (xs ++ ys) a c
turns_then v [] ys a b c same after = subst (λ from. AreTurns v ys from c) same after
turns_then v (x ∷ xs) ys a b c (next, turn, turns) after = (next, turn, turns_then v xs ys next b c turns after)

pub way_still : {Q B : Type 0} (v : Stores Q B) (a b : Concentrator Q B) → b ≡ a → GoesItsWay v a b
way_still v a b same = record { slots = []; turns = same }

pub way_then : {Q B : Type 0} (v : Stores Q B) (a b c : Concentrator Q B) → GoesItsWay v a b → GoesItsWay v b c → GoesItsWay v a c
way_then v a b c one two = record { slots = one.slots ++ two.slots; turns = turns_then v one.slots two.slots a b c one.turns two.turns }

way_below : {Q B : Type 0} (v : Stores Q B) (number : ℕ) (a b : Concentrator Q B) → IsTurnBelow v number a b → GoesItsWay v a b
way_below v number a b turn = record { slots = Below number ∷ []; turns = (b, turn, refl) }

way_above : {Q B : Type 0} (v : Stores Q B) (centre : ℕ) (a b : Concentrator Q B) → IsTurnAbove v centre a b → GoesItsWay v a b
way_above v centre a b turn = record { slots = Above centre ∷ []; turns = (b, turn, refl) }

-- a call of a link whose law leads the station that was lent to it
pub way_of_below : {Q B : Type 0} (v : Stores Q B) (number : ℕ) (Law : Type 0 → Caller → BelowSeen → Caller → BelowSeen → Type 0) (old new : ConcentratorNode Q B)
    → ((h : Type 0) (before after : Caller) (s s' : BelowSeen) → Law h before s after s' → IsLed below_ways below_hung_up h s s')
    → (IsHonest v (concentrator_in new) → IsHonest v (concentrator_in old)) → CallsBelow v number Law old new
    → GoesItsWay v (concentrator_in old) (concentrator_in new)
way_of_below {Q} {B} v number Law old new leads held calls = by (cases_lt number (length (below_in old)))
  where
    by : (number < length (below_in old)) ⊎ (length (below_in old) ≤ number) → GoesItsWay v (concentrator_in old) (concentrator_in new)
    by (inl less) =
        let there = calls.there less in
        way_below v number (concentrator_in old) (concentrator_in new) (record {
          held = held;
          led = leads (IsHonest v (concentrator_in new)) there.0 there.1 (seen_below v (concentrator_in old) number) (seen_below v (concentrator_in new) number) there.4;
        })
    by (inr past) = way_still v (concentrator_in old) (concentrator_in new) (ap (λ (n : ConcentratorNode Q B). concentrator_in n) (calls.missing past))

pub way_of_above : {Q B : Type 0} (v : Stores Q B) (centre : ℕ) (Law : Type 0 → Callee → AboveSeen → Callee → AboveSeen → Type 0) (old new : ConcentratorNode Q B)
    → ((h : Type 0) (before after : Callee) (s s' : AboveSeen) → Law h before s after s' → IsLed above_ways above_hung_up h s s')
    → IsBeside v centre old new → CallsAbove v centre Law old new → GoesItsWay v (concentrator_in old) (concentrator_in new)
way_of_above v centre Law old new leads beside calls =
    way_above v centre (concentrator_in old) (concentrator_in new) (record {
      held = beside.held;
      led = leads (IsWell v (concentrator_in new)) (at centre (above_in old)) calls.there.0 (seen_above v (concentrator_in old) centre) (seen_above v (concentrator_in new) centre)
          calls.there.2;
      links = beside.links;
      other = beside.other;
    })

-- ---- each call of a link

pub way_opens_below : {Q B : Type 0} (v : Stores Q B) (number now : ℕ) (old new : ConcentratorNode Q B)
    → (IsHonest v (concentrator_in new) → IsHonest v (concentrator_in old)) → OpensBelow v number now old new → GoesItsWay v (concentrator_in old) (concentrator_in new)
way_opens_below v number now old new held calls =
    way_of_below v number (λ h before s after s'. caller.IsOpened below_ways below_hung_up h now before s after s') old new
    (λ h before after s s'. led.led_opened below_ways below_hung_up h now before after s s') held calls

pub way_feeds_below : {Q B : Type 0} (v : Stores Q B) (number now : ℕ) (octets : List ℕ) (old new : ConcentratorNode Q B)
    → (IsHonest v (concentrator_in new) → IsHonest v (concentrator_in old)) → FeedsBelow v number now octets old new → GoesItsWay v (concentrator_in old) (concentrator_in new)
way_feeds_below v number now octets old new held calls =
    way_of_below v number (λ h before s after s'. caller.IsFed below_ways below_hung_up h now octets before s after s') old new
    (λ h before after s s'. led.led_fed below_ways below_hung_up h now octets before after s s') held calls

pub way_hands_below : {Q B : Type 0} (v : Stores Q B) (number now count : ℕ) (old new : ConcentratorNode Q B)
    → (IsHonest v (concentrator_in new) → IsHonest v (concentrator_in old)) → HandsBelow v number now count old new → GoesItsWay v (concentrator_in old) (concentrator_in new)
way_hands_below v number now count old new held calls =
    way_of_below v number (λ h before s after s'. caller.IsHanded below_ways below_hung_up h now count before s after s') old new
    (λ h before after s s'. led.led_handed below_ways below_hung_up h now count before after s s') held calls

pub way_closes_below : {Q B : Type 0} (v : Stores Q B) (number now : ℕ) (old new : ConcentratorNode Q B)
    → (IsHonest v (concentrator_in new) → IsHonest v (concentrator_in old)) → ClosesBelow v number now old new → GoesItsWay v (concentrator_in old) (concentrator_in new)
way_closes_below v number now old new held calls =
    way_of_below v number (λ h before s after s'. caller.IsClosed below_hung_up h now before s after s') old new
    (λ h before after s s'. led.led_closed below_ways below_hung_up h now before after s s') held calls

pub way_ticks_below : {Q B : Type 0} (v : Stores Q B) (number now : ℕ) (old new : ConcentratorNode Q B)
    → (IsHonest v (concentrator_in new) → IsHonest v (concentrator_in old)) → TicksBelow v number now old new → GoesItsWay v (concentrator_in old) (concentrator_in new)
way_ticks_below v number now old new held calls =
    way_of_below v number (λ h before s after s'. caller.IsTicked below_ways below_hung_up h now before s after s') old new
    (λ h before after s s'. led.led_ticked below_ways below_hung_up h now before after s s') held calls

pub way_opens_above : {Q B : Type 0} (v : Stores Q B) (centre now : ℕ) (old new : ConcentratorNode Q B) → IsBeside v centre old new
    → OpensAbove v centre now old new → GoesItsWay v (concentrator_in old) (concentrator_in new)
way_opens_above v centre now old new beside calls =
    way_of_above v centre (λ h before s after s'. callee.IsOpened above_ways above_hung_up h now before s after s') old new
    (λ h before after s s'. led_above.led_opened above_ways above_hung_up h now before after s s') beside calls

pub way_feeds_above : {Q B : Type 0} (v : Stores Q B) (centre now : ℕ) (octets : List ℕ) (operated : Bool) (old new : ConcentratorNode Q B) → IsBeside v centre old new
    → FeedsAbove v centre now octets operated old new → GoesItsWay v (concentrator_in old) (concentrator_in new)
way_feeds_above v centre now octets operated old new beside calls =
    way_of_above v centre (λ h before s after s'. IsAsked (λ next. callee.IsFed above_ways above_hung_up h now octets before s next s') operated after) old new
    (λ h before after s s' is. led_above.led_fed above_ways above_hung_up h now octets before is.0 s s' is.1) beside calls

pub way_hands_above : {Q B : Type 0} (v : Stores Q B) (centre now count : ℕ) (operated : Bool) (old new : ConcentratorNode Q B) → IsBeside v centre old new
    → HandsAbove v centre now count operated old new → GoesItsWay v (concentrator_in old) (concentrator_in new)
way_hands_above v centre now count operated old new beside calls =
    way_of_above v centre (λ h before s after s'. IsAsked (λ next. callee.IsHanded above_ways above_hung_up h now count before s next s') operated after) old new
    (λ h before after s s' is. led_above.led_handed above_ways above_hung_up h now count before is.0 s s' is.1) beside calls

pub way_closes_above : {Q B : Type 0} (v : Stores Q B) (centre : ℕ) (old new : ConcentratorNode Q B) → IsBeside v centre old new
    → ClosesAbove v centre old new → GoesItsWay v (concentrator_in old) (concentrator_in new)
way_closes_above v centre old new beside calls =
    way_of_above v centre (λ h before s after s'. callee.IsClosed above_hung_up h before s after s') old new
    (λ h before after s s'. led_above.led_closed above_ways above_hung_up h before after s s') beside calls

pub way_ticks_above : {Q B : Type 0} (v : Stores Q B) (centre now : ℕ) (old new : ConcentratorNode Q B) → IsBeside v centre old new
    → TicksAbove v centre now old new → GoesItsWay v (concentrator_in old) (concentrator_in new)
way_ticks_above v centre now old new beside calls =
    way_of_above v centre (λ h before s after s'. callee.IsTicked above_ways above_hung_up h now before s after s') old new
    (λ h before after s s'. led_above.led_ticked above_ways above_hung_up h now before after s s') beside calls

pub way_tells_below : {Q B : Type 0} (v : Stores Q B) (number now : ℕ) (old new : ConcentratorNode Q B)
    → (IsHonest v (concentrator_in new) → IsHonest v (concentrator_in old)) → TellsBelow v number now old new → GoesItsWay v (concentrator_in old) (concentrator_in new)
way_tells_below v number now old new held calls =
    way_of_below v number (λ h before s after s'. caller.IsTicked below_ways below_hung_up h now (told before) s after s') old new
    (λ h before after s s' is. led.led_ticked below_ways below_hung_up h now (told before) after s s' is) held calls
