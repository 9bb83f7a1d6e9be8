-- Controls: what was done on their way, and where they stop.
use Rattle.std.proofs.Common.{◌≡◌, ℕ, Bool, true, false, ◌&&◌, ap, [], ◌∷◌, Option, Some, None, Result, Ok, Err, inl, inr, refl, subst}
use Rattle.std.proofs.lemmas.Bool.{and_parts}
use Rattle.std.specs.Prelude.{◌⊎◌, IfErr, IfSome, OnOk, ⊤}
use Rattle.dnp_world.specs.steps.ControlSteps.{EndsControlBy}
use Rattle.dnp_world.specs.Controls.{CanGo, ControlEnds, First, IsAccepted, IsControlFor, IsRefusedFor, IsRefusedOn, IsTold, Passes, PassesBack, StopsBack, StopsFor, StopsOn, StopsRelaying, Second, Third, are_quiet_for, next_below, substation_in}
use Rattle.dnp_world.specs.Centres.{HappensToAll, may_stop}
use Rattle.dnp_world.specs.Rounds.{Flushes, StopsFlushingAll, StopsInTurn, is_quiet_above, is_quiet_below}
use Rattle.dnp_world.specs.Systems.{System, has_substation}
use Rattle.dnp_world.specs.Wholes.{Whole, seen_by}
use Rattle.dnp_world.specs.declared.event.Event.{Event}
use Rattle.dnp_world.specs.declared.event.Event.TheVariants.{Deliver, Relay}
use Rattle.dnp_world.specs.declared.event.Link.{Link}
use Rattle.dnp_world.specs.declared.event.Link.TheVariants.{Below, Above}
use Rattle.dnp_world.specs.declared.link_event.Way.{Way}
use Rattle.dnp_world.specs.declared.link_event.Way.TheVariants.{Down, Up}
use Rattle.dnp_world.specs.declared.round_fault.ControlFault.{ControlFault}
use Rattle.dnp_world.specs.declared.round_fault.ControlFault.TheVariants.{NotQuiet, NotNext, Refused, Fault}
use Rattle.dnp_world.proofs.SystemRounds.{Ran, StopsIn, ran_both, ran_flush, ran_one, stops_after, stops_at, stops_flushing_all, stops_in_turn}

-- a control goes over the link to its centre first
pub not_quiet : (s : System) (substation : Option ℕ) → is_quiet_above s ≡ false → are_quiet_for s substation ≡ false
not_quiet s None is = is
not_quiet s (Some substation) is = ap (λ (quiet : Bool). quiet && is_quiet_below s substation) is

-- its substation is one of the plan
pub planned : (s : System) (substation : Option ℕ) → are_quiet_for s substation ≡ true → IfSome substation (λ n. has_substation s n ≡ true)
planned s None quiet = tt
planned s (Some n) quiet = (and_parts (has_substation s n) _ (and_parts (is_quiet_above s) (is_quiet_below s n) quiet).1).0

-- ---- what was done

-- an event on a control's way
abbrev pub IsOfControl : Event → Type 0
IsOfControl event = (on : Link) × ((event ≡ Relay on) ⊎ ((way : Way) × (event ≡ Deliver on way)))

ran_step : (see : Whole → System) (on : Link) (id : Option ℕ) (old new : Whole) → Passes HappensToAll see on id old new → Ran IsOfControl old new
ran_step see on id old new p = ran_one IsOfControl old new (Relay on) (on, inl refl) p.relays

ran_flushed : (see : Whole → System) (on : Link) (way : Way) (old new : Whole) → Flushes HappensToAll see on way old new → Ran IsOfControl old new
ran_flushed see on way old new flushes = ran_flush see IsOfControl on way old new (on, inr (way, refl)) flushes

pub ran_back : (see : Whole → System) (on : Link) (id : Option ℕ) (old new : Whole) → PassesBack HappensToAll see on id old new → Ran IsOfControl old new
ran_back see on id old new p =
    ran_both IsOfControl old p.answered new
    (ran_both IsOfControl old p.relayed p.answered (ran_step see on id old p.relayed p.step) (ran_flushed see on Down p.relayed p.answered p.down))
    (ran_flushed see on Up p.answered new p.up)

pub ran_twice : (see : Whole → System) (on : Link) (id : Option ℕ) (old mid new : Whole) → PassesBack HappensToAll see on id old mid
    → PassesBack HappensToAll see on id mid new → Ran IsOfControl old new
ran_twice see on id old mid new first second = ran_both IsOfControl old mid new (ran_back see on id old mid first) (ran_back see on id mid new second)

pub ran_accepted : (see : Whole → System) (on : Link) (id : Option ℕ) (old new : Whole) → IsAccepted HappensToAll see on id old new → Ran IsOfControl old new
ran_accepted see on id old new p =
    ran_both IsOfControl old p.operated new (ran_twice see on id old p.selected p.operated p.selects p.operates)
    (ran_step see on id p.operated new p.finishes)

-- ---- where it stopped

-- before its next step
stops_still : (on : Link) (old new : Whole) → new ≡ old → StopsIn IsOfControl old new
stops_still on old new same = stops_at IsOfControl old new (Relay on) (on, inl refl) same

stops_relaying : (see : Whole → System) (on : Link) (old new : Whole) → StopsRelaying HappensToAll see may_stop on old new → StopsIn IsOfControl old new
stops_relaying see on old new (inl counts) = stops_still on old new counts
stops_relaying see on old new (inr h) =
    stops_after IsOfControl old new new (ran_one IsOfControl old new (Relay on) (on, inl refl) h) (stops_still on new new refl)

stops_back : (see : Whole → System) (on : Link) (id : Option ℕ) (old new : Whole) → StopsBack HappensToAll see may_stop on id old new
    → StopsIn IsOfControl old new
stops_back see on id old new s =
    stops_in_turn IsOfControl (StopsRelaying HappensToAll see may_stop on) (Passes HappensToAll see on id)
    (StopsFlushingAll HappensToAll see may_stop on (Down ∷ Up ∷ [])) (stops_relaying see on) (ran_step see on id)
    (stops_flushing_all see IsOfControl on (λ way. (on, inr (way, refl))) (Down ∷ Up ∷ [])) old new s

stops_on : (see : Whole → System) (on : Link) (id : Option ℕ) (old new : Whole) → StopsOn HappensToAll see may_stop on id old new
    → StopsIn IsOfControl old new
stops_on see on id old new s =
    stops_in_turn IsOfControl (StopsBack HappensToAll see may_stop on id) (PassesBack HappensToAll see on id)
    (StopsInTurn (StopsBack HappensToAll see may_stop on id) (PassesBack HappensToAll see on id) (StopsRelaying HappensToAll see may_stop on))
    (stops_back see on id) (ran_back see on id)
    (stops_in_turn IsOfControl (StopsBack HappensToAll see may_stop on id) (PassesBack HappensToAll see on id) (StopsRelaying HappensToAll see may_stop on)
    (stops_back see on id) (ran_back see on id) (stops_relaying see on))
    old new s

pub stops_for : (see : Whole → System) (centre : ℕ) (substation : Option ℕ) (id : ℕ) (old new : Whole)
    → StopsFor HappensToAll see may_stop centre substation id old new → StopsIn IsOfControl old new
stops_for see centre None id old new s = stops_on see (Above centre) (Some id) old new s
stops_for see centre (Some substation) id old new s =
    stops_in_turn IsOfControl (StopsOn HappensToAll see may_stop (Above centre) (Some id)) (IsAccepted HappensToAll see (Above centre) (Some id))
    (λ (above new : Whole). StopsOn HappensToAll see may_stop (Below substation) (next_below (see above) substation) above new)
    (stops_on see (Above centre) (Some id)) (ran_accepted see (Above centre) (Some id))
    (λ above new. stops_on see (Below substation) (next_below (see above) substation) above new) old new s

-- ---- how it ended

-- what ends a part of the way ends the whole
pub ends_of : {Refusal All : ℕ → Type 0} {Stop Stopped : Type 0} (fault : ControlFault) → ((status : ℕ) → Refusal status → All status)
    → (Stop → Stopped) → EndsControlBy Refusal Stop fault → EndsControlBy All Stopped fault
ends_of NotQuiet refusal stop ends = ends
ends_of NotNext refusal stop ends = ends
ends_of (Refused status) refusal stop ends = refusal status ends
ends_of (Fault cause) refusal stop ends = stop ends

-- how the whole way ends is how the call ends
pub control_of : (see : Whole → System) (centre : ℕ) (id : ℕ) (substation : Option ℕ) (old new : Whole) (result : Result ⊤ ControlFault) → CanGo id (see old)
    → substation ≡ substation_in (see old) id
    → OnOk result (IsControlFor HappensToAll see centre substation id old new)
    → IfErr result (EndsControlBy (λ (status : ℕ). IsRefusedFor HappensToAll see centre substation id status old new)
    (StopsFor HappensToAll see may_stop centre substation id old new)) → ControlEnds HappensToAll see may_stop centre id old result new
control_of see centre id substation old new (Ok done) can is whole ended =
    (can, subst (λ (x : Option ℕ). IsControlFor HappensToAll see centre x id old new) is whole)
control_of see centre id substation old new (Err NotQuiet) can is whole ended = absurd ended
control_of see centre id substation old new (Err NotNext) can is whole ended = absurd ended
control_of see centre id substation old new (Err (Refused status)) can is whole ended =
    (can, subst (λ (x : Option ℕ). IsRefusedFor HappensToAll see centre x id status old new) is ended)
control_of see centre id substation old new (Err (Fault cause)) can is whole ended = inr
    (can, subst (λ (x : Option ℕ). StopsFor HappensToAll see may_stop centre x id old new) is ended)

-- ---- over a link to a substation, which all see alike

below_told : (n substation : ℕ) (id : Option ℕ) (status : ℕ) (old new : Whole) → IsTold HappensToAll (seen_by 0) (Below substation) id status old new
    → IsTold HappensToAll (seen_by n) (Below substation) id status old new
below_told n substation id status old new t = record { relays = t.relays; says = t.says; other = t.other }

below_passes : (n substation : ℕ) (id : Option ℕ) (old new : Whole) → Passes HappensToAll (seen_by 0) (Below substation) id old new
    → Passes HappensToAll (seen_by n) (Below substation) id old new
below_passes n substation id old new p = record { relays = p.relays; passes = p.passes }

below_back : (n substation : ℕ) (id : Option ℕ) (old new : Whole) → PassesBack HappensToAll (seen_by 0) (Below substation) id old new
    → PassesBack HappensToAll (seen_by n) (Below substation) id old new
below_back n substation id old new p = record {
  relayed = p.relayed;
  answered = p.answered;
  step = below_passes n substation id old p.relayed p.step;
  down = p.down;
  up = p.up;
}

pub below_accepted : (n substation : ℕ) (id : Option ℕ) (old new : Whole) → IsAccepted HappensToAll (seen_by 0) (Below substation) id old new
    → IsAccepted HappensToAll (seen_by n) (Below substation) id old new
below_accepted n substation id old new p = record {
  selected = p.selected;
  operated = p.operated;
  selects = below_back n substation id old p.selected p.selects;
  operates = below_back n substation id p.selected p.operated p.operates;
  finishes = below_passes n substation id p.operated new p.finishes;
}

pub below_refused : (n substation : ℕ) (id : Option ℕ) (status : ℕ) (old new : Whole)
    → IsRefusedOn HappensToAll (seen_by 0) (Below substation) id status old new
    → IsRefusedOn HappensToAll (seen_by n) (Below substation) id status old new
below_refused n substation id status old new (First t) = First (below_told n substation id status old new t)
below_refused n substation id status old new (Second selected b t) =
    Second selected (below_back n substation id old selected b) (below_told n substation id status selected new t)
below_refused n substation id status old new (Third selected operated b d t) =
    Third selected operated (below_back n substation id old selected b) (below_back n substation id selected operated d)
    (below_told n substation id status operated new t)

below_stops_back : (n substation : ℕ) (id : Option ℕ) (old new : Whole) → StopsBack HappensToAll (seen_by 0) may_stop (Below substation) id old new
    → StopsBack HappensToAll (seen_by n) may_stop (Below substation) id old new
below_stops_back n substation id old new (inl stops) = inl stops
below_stops_back n substation id old new (inr (next, p, rest)) = inr (next, below_passes n substation id old next p, rest)

pub below_stops : (n substation : ℕ) (id : Option ℕ) (old new : Whole) → StopsOn HappensToAll (seen_by 0) may_stop (Below substation) id old new
    → StopsOn HappensToAll (seen_by n) may_stop (Below substation) id old new
below_stops n substation id old new (inl stops) = inl (below_stops_back n substation id old new stops)
below_stops n substation id old new (inr (selected, b, inl stops)) =
    inr (selected, below_back n substation id old selected b, inl (below_stops_back n substation id selected new stops))
below_stops n substation id old new (inr (selected, b, inr (operated, d, stops))) =
    inr (selected, below_back n substation id old selected b, inr (operated, below_back n substation id selected operated d, stops))
