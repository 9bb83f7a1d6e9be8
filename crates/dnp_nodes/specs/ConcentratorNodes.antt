-- Definition: the node of a concentrator: the concentrator, and its links.
use Rattle.std.specs.Prelude.{◌≡◌, ◌⊎◌, ℕ, ◌<◌, ◌≤◌, Bool, true, false, nat_le, nat_lt, if◌then◌else◌, List, [], Option, Some, None, length, slice_get, slice_set}
use Rattle.dnp_concentrator.specs.Concentrator.{core_of, links_of}
use Rattle.dnp_concentrator.specs.PerCentre.{at, with_at}
use Rattle.dnp_concentrator.specs.declared.concentrator.Concentrator.{Concentrator}
use Rattle.dnp_concentrator.specs.declared.per_centre.PerCentre.{PerCentre}
use Rattle.dnp_eventbuf.specs.Sides.{other_than}
use Rattle.dnp_eventbuf.specs.declared.pair.TheConstants.{CENTRES}
use Rattle.dnp_schedule.specs.Moving.{may_have_control}
use Rattle.dnp_streams.specs.streams.AboveLives.{above_lives}
use Rattle.dnp_streams.specs.streams.BelowLives.{below_lives}
use Rattle.dnp_streams.specs.streams.Concentrators.{AboveSeen, BelowSeen, above_hung_up, below_hung_up}
use Rattle.dnp_nodes.specs.CallerCalls as caller
use Rattle.dnp_nodes.specs.CalleeCalls as callee
use Rattle.dnp_nodes.specs.Budgets.{or_last}
use Rattle.dnp_nodes.specs.Callees as callees
use Rattle.dnp_nodes.specs.Callers as callers
use Rattle.dnp_nodes.specs.Callees.{has_operated, with_operated}
use Rattle.dnp_nodes.specs.Callers.{has_stored, output_of, schedule_of, want_of, with_schedule, with_stored}
use Rattle.dnp_nodes.specs.Turns.{GoesItsWay, IsHonest, IsWell, Stores, seen_above, seen_below, above_ways, below_ways}
use Rattle.dnp_nodes.specs.declared.callee.Callee.{Callee}
use Rattle.dnp_nodes.specs.declared.caller.Caller.{Caller}
use Rattle.dnp_nodes.specs.declared.concentrator_node.ConcentratorNode.{ConcentratorNode}
use Rattle.dnp_nodes.specs.declared.report.Reports.{Reports}
use Rattle.dnp_nodes.specs.declared.slot.Slot.{Slot}
use Rattle.dnp_nodes.specs.declared.slot.Slot.TheVariants.{Above, Below}
use Rattle.dnp_nodes.specs.declared.slot.Want.{Want}
use Rattle.dnp_nodes.specs.declared.slot.Wanted.{Wanted}

abbrev pub concentrator_in : {Q B : Type 0} → ConcentratorNode Q B → Concentrator Q B
concentrator_in n = n.concentrator

-- the links to the substations, by their numbers
abbrev pub below_in : {Q B : Type 0} → ConcentratorNode Q B → List Caller
below_in n = n.below.items

-- the links of the centres
abbrev pub above_in : {Q B : Type 0} → ConcentratorNode Q B → PerCentre Callee
above_in n = n.above

abbrev pub reports_in : {Q B : Type 0} → ConcentratorNode Q B → Reports
reports_in n = n.shared.reports

-- it has this concentrator, and these links
pub record Shows {Q B : Type 0} (concentrator : Concentrator Q B) (below : List Caller) (above : PerCentre Callee) (n : ConcentratorNode Q B) : Type 0 where
  pub same : concentrator_in n ≡ concentrator
  pub links : below_in n ≡ below
  pub centres : above_in n ≡ above

-- its concentrator became another
abbrev pub with_concentrator : {Q B : Type 0} → ConcentratorNode Q B → Concentrator Q B → ConcentratorNode Q B
with_concentrator n concentrator = record n { concentrator = concentrator }

-- ---- a call of one link

-- The link to a substation went by this law from one state to another, and no other link. A place that isn't there changes nothing.
pub record AtBelow {Q B : Type 0} (number : ℕ) (Law : Caller → Caller → Type 0) (old new : ConcentratorNode Q B) : Type 0 where
  pub there : number < length (below_in old) → (before after : Caller) × (slice_get (below_in old) number ≡ Some before)
      × (below_in new ≡ slice_set (below_in old) number after) × Law before after
  pub missing : length (below_in old) ≤ number → new ≡ old
  pub above : above_in new ≡ above_in old

-- so the link of a centre
pub record AtAbove {Q B : Type 0} (centre : ℕ) (Law : Callee → Callee → Type 0) (old new : ConcentratorNode Q B) : Type 0 where
  pub there : (after : Callee) × (above_in new ≡ with_at centre (above_in old) after) × Law (at centre (above_in old)) after
  pub below : below_in new ≡ below_in old

-- a law of a call is one of a link and of the concentrator as the link sees it
abbrev pub CallsBelow : {Q B : Type 0} → Stores Q B → ℕ → (Type 0 → Caller → BelowSeen → Caller → BelowSeen → Type 0)
    → ConcentratorNode Q B → ConcentratorNode Q B → Type 0
CallsBelow v number Law old new =
    AtBelow number (λ before after. Law (IsHonest v new.concentrator) before (seen_below v old.concentrator number) after (seen_below v new.concentrator number)) old new

abbrev pub CallsAbove : {Q B : Type 0} → Stores Q B → ℕ → (Type 0 → Callee → AboveSeen → Callee → AboveSeen → Type 0)
    → ConcentratorNode Q B → ConcentratorNode Q B → Type 0
CallsAbove v centre Law old new =
    AtAbove centre (λ before after. Law (IsWell v new.concentrator) before (seen_above v old.concentrator centre) after (seen_above v new.concentrator centre)) old new

-- what such a call leaves above: queue and book were honest before, and the links below and the other centre's outstation stay as they are
pub record IsBeside {Q B : Type 0} (v : Stores Q B) (centre : ℕ) (old new : ConcentratorNode Q B) : Type 0 where
  pub held : IsWell v new.concentrator → IsWell v old.concentrator
  pub links : links_of new.concentrator ≡ links_of old.concentrator
  pub other : core_of (other_than centre) new.concentrator ≡ core_of (other_than centre) old.concentrator

-- each call of a link to a substation
abbrev pub OpensBelow : {Q B : Type 0} → Stores Q B → ℕ → ℕ → ConcentratorNode Q B → ConcentratorNode Q B → Type 0
OpensBelow v number now old new = CallsBelow v number (λ honest before s after s'. caller.IsOpened below_ways below_hung_up honest now before s after s') old new

abbrev pub FeedsBelow : {Q B : Type 0} → Stores Q B → ℕ → ℕ → List ℕ → ConcentratorNode Q B → ConcentratorNode Q B → Type 0
FeedsBelow v number now octets old new = CallsBelow v number (λ honest before s after s'. caller.IsFed below_ways below_hung_up honest now octets before s after s') old new

abbrev pub HandsBelow : {Q B : Type 0} → Stores Q B → ℕ → ℕ → ℕ → ConcentratorNode Q B → ConcentratorNode Q B → Type 0
HandsBelow v number now count old new = CallsBelow v number (λ honest before s after s'. caller.IsHanded below_ways below_hung_up honest now count before s after s') old new

abbrev pub ClosesBelow : {Q B : Type 0} → Stores Q B → ℕ → ℕ → ConcentratorNode Q B → ConcentratorNode Q B → Type 0
ClosesBelow v number now old new = CallsBelow v number (λ honest before s after s'. caller.IsClosed below_hung_up honest now before s after s') old new

abbrev pub TicksBelow : {Q B : Type 0} → Stores Q B → ℕ → ℕ → ConcentratorNode Q B → ConcentratorNode Q B → Type 0
TicksBelow v number now old new = CallsBelow v number (λ honest before s after s'. caller.IsTicked below_ways below_hung_up honest now before s after s') old new

-- each call of the link of a centre
abbrev pub OpensAbove : {Q B : Type 0} → Stores Q B → ℕ → ℕ → ConcentratorNode Q B → ConcentratorNode Q B → Type 0
OpensAbove v centre now old new = CallsAbove v centre (λ honest before s after s'. callee.IsOpened above_ways above_hung_up honest now before s after s') old new

-- the link was asked whether an output may be operated, and forgets that
abbrev pub IsAsked : (Callee → Type 0) → Bool → Callee → Type 0
IsAsked Law operated after = (next : Callee) × Law next × (operated ≡ has_operated next) × (after ≡ with_operated next false)

abbrev pub FeedsAbove : {Q B : Type 0} → Stores Q B → ℕ → ℕ → List ℕ → Bool → ConcentratorNode Q B → ConcentratorNode Q B → Type 0
FeedsAbove v centre now octets operated old new =
    CallsAbove v centre (λ honest before s after s'. IsAsked (λ next. callee.IsFed above_ways above_hung_up honest now octets before s next s') operated after) old new

abbrev pub HandsAbove : {Q B : Type 0} → Stores Q B → ℕ → ℕ → ℕ → Bool → ConcentratorNode Q B → ConcentratorNode Q B → Type 0
HandsAbove v centre now count operated old new =
    CallsAbove v centre (λ honest before s after s'. IsAsked (λ next. callee.IsHanded above_ways above_hung_up honest now count before s next s') operated after) old new

abbrev pub ClosesAbove : {Q B : Type 0} → Stores Q B → ℕ → ConcentratorNode Q B → ConcentratorNode Q B → Type 0
ClosesAbove v centre old new = CallsAbove v centre (λ honest before s after s'. callee.IsClosed above_hung_up honest before s after s') old new

abbrev pub TicksAbove : {Q B : Type 0} → Stores Q B → ℕ → ℕ → ConcentratorNode Q B → ConcentratorNode Q B → Type 0
TicksAbove v centre now old new = CallsAbove v centre (λ honest before s after s'. callee.IsTicked above_ways above_hung_up honest now before s after s') old new

-- ---- what a call of one link leads to at the others

-- event rows of a substation were stored since that was asked last
abbrev pub stored_by : Option Caller → Bool
stored_by None = false
stored_by (Some link) = has_stored link

abbrev pub stored_at : {Q B : Type 0} → ConcentratorNode Q B → ℕ → Bool
stored_at n number = stored_by (slice_get (below_in n) number)

-- that is forgotten
pub record IsForgotten {Q B : Type 0} (number : ℕ) (old new : ConcentratorNode Q B) : Type 0 where
  pub at_link : AtBelow number (λ before after. after ≡ with_stored before false) old new
  pub same : concentrator_in new ≡ concentrator_in old

-- Both centres' links are ticked, the first centre's first, if that is so.
abbrev pub TicksBothIf : {Q B : Type 0} → Bool → Stores Q B → ℕ → ConcentratorNode Q B → ConcentratorNode Q B → Type 0
TicksBothIf false v now old new = new ≡ old
TicksBothIf {Q} {B} true v now old new = (between : ConcentratorNode Q B) × TicksAbove v 0 now old between × TicksAbove v 1 now between new

-- If rows of a substation were stored, both centres' links are ticked, so that these wait for no timer.
pub record PassesUp {Q B : Type 0} (v : Stores Q B) (number now : ℕ) (old new : ConcentratorNode Q B) : Type 0 where
  pub asked : ConcentratorNode Q B
  pub forgotten : IsForgotten number old asked
  pub ticks : TicksBothIf (stored_at old number) v now asked new

-- a link was told that a control may wait
abbrev pub told : Caller → Caller
told link = with_schedule link (may_have_control (schedule_of link))

-- such a link is ticked
abbrev pub TellsBelow : {Q B : Type 0} → Stores Q B → ℕ → ℕ → ConcentratorNode Q B → ConcentratorNode Q B → Type 0
TellsBelow v number now old new = CallsBelow v number (λ honest before s after s'. caller.IsTicked below_ways below_hung_up honest now (told before) s after s') old new

-- The link to a substation was told that a control may wait, and ticked, at some moment of the concentrator's way.
pub record IsToldAt {Q B : Type 0} (v : Stores Q B) (now number : ℕ) (old new : ConcentratorNode Q B) : Type 0 where
  pub before : Caller
  pub after : Caller
  pub first : Concentrator Q B
  pub last : Concentrator Q B
  pub was : slice_get (below_in old) number ≡ Some before
  pub is : slice_get (below_in new) number ≡ Some after
  pub comes : GoesItsWay v (concentrator_in old) first
  pub ticked : caller.IsTicked below_ways below_hung_up (IsHonest v last) now (told before) (seen_below v first number) after (seen_below v last number)
  pub goes : GoesItsWay v last (concentrator_in new)

-- Each link below has been told of a control that a centre has operated, of the first 255: a concentrator has no more substations.
pub record PassesDown {Q B : Type 0} (v : Stores Q B) (now : ℕ) (old new : ConcentratorNode Q B) : Type 0 where
  pub each : (number : ℕ) → number < 255 → number < length (below_in old) → IsToldAt v now number old new
  pub count : length (below_in new) ≡ length (below_in old)
  pub above : above_in new ≡ above_in old

-- ---- what each call of the node does

-- a number that is no centre's changes nothing
abbrev pub IfCentre : {Q B : Type 0} → ℕ → (ConcentratorNode Q B → ConcentratorNode Q B → Type 0) → ConcentratorNode Q B → ConcentratorNode Q B → Type 0
IfCentre centre Law old new = (centre < CENTRES → Law old new) × (CENTRES ≤ centre → new ≡ old)

-- if an output may be operated, the links below are told
abbrev pub PassesDownIf : {Q B : Type 0} → Bool → Stores Q B → ℕ → ConcentratorNode Q B → ConcentratorNode Q B → Type 0
PassesDownIf true v now old new = PassesDown v now old new
PassesDownIf false v now old new = new ≡ old

-- what a link's call is followed by
abbrev pub ThenDown : {Q B : Type 0} → Stores Q B → ℕ → (Bool → ConcentratorNode Q B → ConcentratorNode Q B → Type 0)
    → ConcentratorNode Q B → ConcentratorNode Q B → Type 0
ThenDown {Q} {B} v now Law old new = (operated : Bool) × (next : ConcentratorNode Q B) × Law operated old next × PassesDownIf operated v now next new

abbrev pub ThenUp : {Q B : Type 0} → Stores Q B → ℕ → ℕ → (ConcentratorNode Q B → ConcentratorNode Q B → Type 0)
    → ConcentratorNode Q B → ConcentratorNode Q B → Type 0
ThenUp {Q} {B} v number now Law old new = (next : ConcentratorNode Q B) × Law old next × PassesUp v number now next new

-- a connection of a centre takes the place of any other
abbrev pub Reopens : {Q B : Type 0} → Stores Q B → ℕ → ℕ → ConcentratorNode Q B → ConcentratorNode Q B → Type 0
Reopens {Q} {B} v centre now old new = (next : ConcentratorNode Q B) × ClosesAbove v centre old next × OpensAbove v centre now next new

abbrev pub Connects : {Q B : Type 0} → Stores Q B → Slot → ℕ → ConcentratorNode Q B → ConcentratorNode Q B → Type 0
Connects v (Below number) now old new = OpensBelow v number now old new
Connects v (Above centre) now old new = IfCentre centre (Reopens v centre now) old new

abbrev pub Receives : {Q B : Type 0} → Stores Q B → Slot → ℕ → List ℕ → ConcentratorNode Q B → ConcentratorNode Q B → Type 0
Receives v (Below number) now octets old new = ThenUp v number now (FeedsBelow v number now octets) old new
Receives v (Above centre) now octets old new = IfCentre centre (ThenDown v now (FeedsAbove v centre now octets)) old new

abbrev pub Sends : {Q B : Type 0} → Stores Q B → Slot → ℕ → ℕ → ConcentratorNode Q B → ConcentratorNode Q B → Type 0
Sends v (Below number) now count old new = ThenUp v number now (HandsBelow v number now count) old new
Sends v (Above centre) now count old new = IfCentre centre (ThenDown v now (HandsAbove v centre now count)) old new

abbrev pub Closes : {Q B : Type 0} → Stores Q B → Slot → ℕ → ConcentratorNode Q B → ConcentratorNode Q B → Type 0
Closes v (Below number) now old new = ClosesBelow v number now old new
Closes v (Above centre) now old new = IfCentre centre (ClosesAbove v centre) old new

-- ---- what it wants, sends, and when

-- the moment at which a link is to be called again, at the latest; the last of all where there is no such link
abbrev pub IsDueBy : Option Caller → Option ℕ → ℕ → Type 0
IsDueBy None timer moment = moment ≡ or_last None
IsDueBy (Some link) timer moment = callers.IsDue link timer moment

abbrev pub IsDueBelow : {Q B : Type 0} → Stores Q B → ℕ → ConcentratorNode Q B → ℕ → Type 0
IsDueBelow v number n moment = IsDueBy (slice_get (below_in n) number) (below_lives.deadline (seen_below v n.concentrator number)) moment

abbrev pub IsDueAbove : {Q B : Type 0} → Stores Q B → ℕ → ConcentratorNode Q B → ℕ → Type 0
IsDueAbove v centre n moment = callees.IsDue (at centre (above_in n)) (above_lives.deadline (seen_above v n.concentrator centre)) moment

-- The links of the centres, and the first `count` of those to substations, are not due before this moment.
pub record AreDueFrom {Q B : Type 0} (v : Stores Q B) (n : ConcentratorNode Q B) (count moment : ℕ) : Type 0 where
  pub first : (due : ℕ) × IsDueAbove v 0 n due × moment ≤ due
  pub second : (due : ℕ) × IsDueAbove v 1 n due × moment ≤ due
  pub below : (number : ℕ) → number < count → (due : ℕ) × IsDueBelow v number n due × moment ≤ due

-- that is done, or nothing
abbrev pub DoesIf : {Q B : Type 0} → Bool → (ConcentratorNode Q B → ConcentratorNode Q B → Type 0) → ConcentratorNode Q B → ConcentratorNode Q B → Type 0
DoesIf true Law old new = Law old new
DoesIf false Law old new = new ≡ old

-- a link that is due at some moment is due now, or not yet
abbrev pub IsDueNow : ℕ → (ℕ → Type 0) → Bool → Type 0
IsDueNow now IsDue due = (moment : ℕ) × IsDue moment × (due ≡ nat_le moment now)

-- a link is ticked if it is due, and else nothing changes
abbrev pub IfDue : {Q B : Type 0} → ℕ → (ℕ → Type 0) → (ConcentratorNode Q B → ConcentratorNode Q B → Type 0) → ConcentratorNode Q B → ConcentratorNode Q B → Type 0
IfDue now IsDue Law old new = (moment : ℕ) × IsDue moment × DoesIf (nat_le moment now) Law old new

abbrev pub IfDueBelow : {Q B : Type 0} → Stores Q B → ℕ → ℕ → ConcentratorNode Q B → ConcentratorNode Q B → Type 0
IfDueBelow v number now old new = IfDue now (IsDueBelow v number old) (ThenUp v number now (TicksBelow v number now)) old new

abbrev pub IfDueAbove : {Q B : Type 0} → Stores Q B → ℕ → ℕ → ConcentratorNode Q B → ConcentratorNode Q B → Type 0
IfDueAbove v centre now old new = IfDue now (IsDueAbove v centre old) (TicksAbove v centre now) old new

abbrev pub wanted_by : Option Caller → Option Want
wanted_by None = None
wanted_by (Some link) = want_of link

-- what the link at a place wants of it
abbrev pub wanted_at : {Q B : Type 0} → ConcentratorNode Q B → Slot → Option Want
wanted_at n (Below number) = wanted_by (slice_get (below_in n) number)
wanted_at n (Above centre) = callees.want_of (at centre (above_in n))

abbrev pub output_in : Option Caller → List ℕ
output_in None = []
output_in (Some link) = output_of link

-- the octets that wait at a place
abbrev pub output_at : {Q B : Type 0} → ConcentratorNode Q B → Slot → List ℕ
output_at n (Below number) = output_in (slice_get (below_in n) number)
output_at n (Above centre) = if nat_lt centre CENTRES then callees.output_of (at centre (above_in n)) else []

-- a want of a place is told, and the place wants it no more
pub record TellsWant {Q B : Type 0} (slot : Slot) (want : Want) (old new : ConcentratorNode Q B) : Type 0 where
  pub was : wanted_at old slot ≡ Some want
  pub is : wanted_at new slot ≡ None

-- no place wants anything, of the first 255 below
pub record WantsNothing {Q B : Type 0} (n : ConcentratorNode Q B) : Type 0 where
  pub below : (number : ℕ) → number < 255 → number < length (below_in n) → wanted_at n (Below number) ≡ None
  pub above : (centre : ℕ) → centre < CENTRES → wanted_at n (Above centre) ≡ None

-- what is wanted next
abbrev pub TellsNext : {Q B : Type 0} → Option Wanted → ConcentratorNode Q B → ConcentratorNode Q B → Type 0
TellsNext None old new = WantsNothing old
TellsNext (Some wanted) old new = TellsWant wanted.slot wanted.want old new

-- what a centre's link wants next
abbrev pub TellsNextAbove : {Q B : Type 0} → Option Wanted → ConcentratorNode Q B → ConcentratorNode Q B → Type 0
TellsNextAbove None old new = (wanted_at old (Above 0) ≡ None) × (wanted_at old (Above 1) ≡ None)
TellsNextAbove (Some wanted) old new =
    ((wanted.slot ≡ Above 0) ⊎ (wanted.slot ≡ Above 1)) × (wanted_at old wanted.slot ≡ Some wanted.want) × (wanted_at new wanted.slot ≡ None)
