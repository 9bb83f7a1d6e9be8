-- Lists of events of a system whose units are carried.
use Rattle.std.proofs.Common.{◌≡◌, Bool, inl, inr, ℕ, ◌+◌, ◌<◌, ◌≤◌, List, [], ◌∷◌, ◌++◌, Result, Err, length, take, get_or, refl, sym, ap, ◌∙◌, subst}
use Rattle.std.proofs.lemmas.List.{take_all, take_more}
use Rattle.dnp_concentrator.specs.declared.cause.Cause.{Cause}
use Rattle.dnp_concentrator.specs.declared.cause.Cause.TheVariants.{Device}
use Rattle.dnp_world.specs.Carriers.{Crosses, RunsOver, TellsDeviceOver}
use Rattle.dnp_world.specs.Causes.{TellsDevice}
use Rattle.dnp_world.specs.Centres.{HappensToAll}
use Rattle.dnp_world.specs.Wholes.{Whole}
use Rattle.dnp_world.specs.declared.event.Event.{Event}
use Rattle.dnp_world.specs.declared.event.Link.{Link}
use Rattle.dnp_world.specs.declared.link_event.Way.{Way}

pub over_more : {C : Type 0} (carries : C → Link → Way → List ℕ → C → Type 0) (old mid new : Whole) (events : List Event) (event : Event)
    (before between after : C) → RunsOver carries old events mid before between → HappensToAll mid event new → Crosses carries mid event between after
    → RunsOver carries old (events ++ event ∷ []) new before after
over_more carries old mid new [] event before between after ran h crossed = (
  new,
  after,
  subst (λ (s : Whole). HappensToAll s event new) ran.0 h,
  subst (λ (c : _). Crosses carries old event c after) ran.1 (subst (λ (s : Whole). Crosses carries s event between after) ran.0 crossed),
  (refl, refl),
)
over_more carries old mid new (first ∷ events) event before between after ran h crossed =
    (ran.0, ran.1, ran.2, ran.3, over_more carries ran.0 mid new events event ran.1 between after ran.4 h crossed)

-- one event more was done
pub one_over : {C : Type 0} (carries : C → Link → Way → List ℕ → C → Type 0) (old mid new : Whole) (events : List Event) (k : ℕ) (event : Event)
    (before between after : C) → k < length events → event ≡ get_or events k event → RunsOver carries old (take k events) mid before between
    → HappensToAll mid event new → Crosses carries mid event between after → RunsOver carries old (take (k + 1) events) new before after
one_over carries old mid new events k event before between after low is ran h crossed =
    subst (λ (es : List Event). RunsOver carries old es new before after)
    (ap (λ (e : Event). take k events ++ e ∷ []) is ∙ sym (take_more events k event low))
    (over_more carries old mid new (take k events) event before between after ran h crossed)

pub all_over : {C : Type 0} (carries : C → Link → Way → List ℕ → C → Type 0) (old new : Whole) (events : List Event) (k : ℕ) (before after : C)
    → length events ≤ k → RunsOver carries old (take k events) new before after → RunsOver carries old events new before after
all_over carries old new events k before after high ran =
    subst (λ (es : List Event). RunsOver carries old es new before after) (take_all k events high) ran

-- where no carrier says Device, a store has
pub in_memory : {C : Type 0} (refuses : C → Cause → C → Type 0) → ((old : C) (cause : Cause) (new : C) → refuses old cause new → ⊥)
    → (before after : Bool) (says : Type 0) → TellsDeviceOver refuses before after says → TellsDevice before after says
in_memory refuses never before after says tells = record {
  stopped = λ is. elim (tells.stopped is) [ inl stopped ↦ stopped | inr may ↦ absurd (never may.0 Device may.1 may.2) ];
  runs_on = tells.runs_on;
}

-- ---- a call that hands on another's fault tells Device where that one does

-- by its cause, after calls at which all ran on
pub device_by_cause : {C T : Type 0} {refuses : C → Cause → C → Type 0} {first before after : Bool} (cause : Cause) → before ≡ first
    → TellsDeviceOver refuses before after ((let said : Result T Cause = Err cause in said) ≡ Err Device)
    → TellsDeviceOver refuses first after (cause ≡ Device)
device_by_cause cause ran_on tells = record {
  stopped = λ is. tells.stopped (ap Err is);
  runs_on = λ other. tells.runs_on (λ is. other (cc)) ∙ ran_on;
}
