-- Lists of events of a system.
use Rattle.std.proofs.Common.{◌≡◌, ℕ, ◌+◌, ◌<◌, ◌≤◌, true, List, [], ◌∷◌, ◌++◌, length, take, get_or, Some, Result, refl, sym, ap, ◌∙◌, subst}
use Rattle.std.specs.Prelude.{OnErr}
use Rattle.std.proofs.lemmas.List.{take_all, take_more}
use Rattle.std.proofs.lemmas.Option.{slice_get-get_or}
use Rattle.dnp_world.specs.declared.event.Event.{Event}
use Rattle.dnp_world.specs.declared.event.Event.TheVariants as event
use Rattle.dnp_world.specs.declared.event.Link.{Link}
use Rattle.dnp_world.specs.declared.link_event.Way.{Way}
use Rattle.dnp_world.specs.Centres.{HappensToAll, may_stop}
use Rattle.dnp_world.specs.SystemRuns.{CountsFor, RunsTo, StopsAfter}
use Rattle.dnp_world.specs.Wholes.{Whole}
use Rattle.dnp_world.proofs.OneLinkRuns.{any_err}

pub runs_more : (old mid new : Whole) (events : List Event) (event : Event) → RunsTo HappensToAll old events mid → HappensToAll mid event new
    → RunsTo HappensToAll old (events ++ event ∷ []) new
runs_more old mid new [] event ran h = (new, subst (λ (s : Whole). HappensToAll s event new) ran h, refl)
runs_more old mid new (first ∷ events) event ran h = (ran.0, ran.1, runs_more ran.0 mid new events event ran.2 h)

-- one event more was done
pub one_done : (old mid new : Whole) (events : List Event) (k : ℕ) (event : Event) → k < length events → event ≡ get_or events k event
    → RunsTo HappensToAll old (take k events) mid → HappensToAll mid event new → RunsTo HappensToAll old (take (k + 1) events) new
one_done old mid new events k event low is ran h =
    subst (λ (es : List Event). RunsTo HappensToAll old es new)
    (ap (λ (e : Event). take k events ++ e ∷ []) is ∙ sym (take_more events k event low))
    (runs_more old mid new (take k events) event ran h)

pub all_done : (old new : Whole) (events : List Event) (k : ℕ) → length events ≤ k → RunsTo HappensToAll old (take k events) new
    → RunsTo HappensToAll old events new
all_done old new events k high ran = subst (λ (es : List Event). RunsTo HappensToAll old es new) (take_all k events high) ran

pub stops_after : (old mid new : Whole) (events : List Event) (k : ℕ) (event : Event) → k < length events → event ≡ get_or events k event
    → RunsTo HappensToAll old (take k events) mid → may_stop mid event ≡ true → CountsFor HappensToAll mid event new
    → StopsAfter HappensToAll may_stop old events k new
stops_after old mid new events k event low is ran may counts = record {
  before = mid;
  ran = ran;
  event = event;
  next = slice_get-get_or events k event low ∙ ap Some (sym is);
  may = may;
  counts = counts;
}

-- what is so of what counts for an event at which a list stops: a unit is lost, or nothing happens
pub at_a_stop : (Leaves : Whole → Whole → Type 0) → ((on : Link) (way : Way) (old new : Whole) → HappensToAll old (event.Lose on way) new → Leaves old new)
    → ((old new : Whole) → new ≡ old → Leaves old new) → (e : Event) (old new : Whole) → CountsFor HappensToAll old e new → Leaves old new
at_a_stop Leaves lost rests (event.Deliver on way) old new h = lost on way old new h
at_a_stop Leaves lost rests e old new same = rests old new same

-- ---- what stays of a system that an event doesn't touch

-- what stops an event other than a delivery
pub left_out : {A E : Type 0} (result : Result A E) (old new : Whole) (event its : Event) → event ≡ its → ((s : Whole) → CountsFor HappensToAll s its s)
    → new ≡ old → OnErr result (CountsFor HappensToAll old event new)
left_out result old new event its is counts same =
    any_err result _
    (subst (λ (s : Whole). CountsFor HappensToAll s event new) same (subst (λ (e : Event). CountsFor HappensToAll new e new) (sym is) (counts new)))
