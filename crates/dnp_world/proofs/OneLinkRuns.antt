-- Lists of events of a link by itself.
use Rattle.std.proofs.Common.{◌≡◌, ℕ, ◌+◌, ◌<◌, ◌≤◌, true, List, [], ◌∷◌, ◌++◌, length, take, get_or, Some, Result, Ok, Err, refl, sym, ap, ◌∙◌, subst}
use Rattle.std.specs.Prelude.{OnErr}
use Rattle.std.proofs.lemmas.List.{take_all, take_more}
use Rattle.std.proofs.lemmas.Option.{slice_get-get_or}
use Rattle.dnp_objects.specs.declared.row.Row.{Row}
use Rattle.dnp_controls.specs.Latches.{no_panel}
use Rattle.dnp_world.specs.declared.link_event.LinkEvent.{LinkEvent}
use Rattle.dnp_world.specs.OneLinkEvents.{LinkState, HappensOn, RunsTo, CountsFor, StopsAt, StopsAfter, may_stop}

-- ---- one event

pub any_err : {A E : Type 0} (r : Result A E) (X : Type 0) → X → OnErr r X
any_err (Ok a) X x = tt
any_err (Err e) X x = x

-- the sink was not asked
pub stopped_at : {S : Type 0} (takes : S → List Row → List Row → List Row → S → Type 0) (keeps : S → S → Type 0) → ((s : S) → keeps s s)
    → (old new : LinkState S) (event its : LinkEvent) → event ≡ its → CountsFor takes old its new → StopsAt takes keeps old event new
stopped_at {S} takes keeps itself old new event its is counts =
    let old_is : LinkState S = old in
    record { sink = old.sink; kept = itself old.sink; counts = subst (λ (e : LinkEvent). CountsFor takes old_is e new) (sym is) counts }

-- ---- a list

runs_more : {S : Type 0} (takes : S → List Row → List Row → List Row → S → Type 0) (old mid new : LinkState S) (events : List LinkEvent) (event : LinkEvent)
    → RunsTo takes old events mid → HappensOn takes no_panel mid event new → RunsTo takes old (events ++ event ∷ []) new
runs_more takes old mid new [] event ran h =
    (new, subst (λ (x : LinkState _). HappensOn takes no_panel x event new) ran h, refl)
runs_more takes old mid new (first ∷ events) event ran h =
    (ran.0, ran.1, runs_more takes ran.0 mid new events event ran.2 h)

-- one event more was done
pub one_done : {S : Type 0} (takes : S → List Row → List Row → List Row → S → Type 0) (old mid new : LinkState S) (events : List LinkEvent) (k : ℕ)
    (event : LinkEvent) → k < length events → event ≡ get_or events k event → RunsTo takes old (take k events) mid → HappensOn takes no_panel mid event new
    → RunsTo takes old (take (k + 1) events) new
one_done takes old mid new events k event low is ran h =
    subst (λ (es : List LinkEvent). RunsTo takes old es new)
    (ap (λ (e : LinkEvent). take k events ++ e ∷ []) is ∙ sym (take_more events k event low))
    (runs_more takes old mid new (take k events) event ran h)

pub all_done : {S : Type 0} (takes : S → List Row → List Row → List Row → S → Type 0) (old new : LinkState S) (events : List LinkEvent) (k : ℕ)
    → length events ≤ k → RunsTo takes old (take k events) new → RunsTo takes old events new
all_done takes old new events k high ran =
    subst (λ (es : List LinkEvent). RunsTo takes old es new) (take_all k events high) ran

pub stops_after : {S : Type 0} (takes : S → List Row → List Row → List Row → S → Type 0) (keeps : S → S → Type 0) (old mid new : LinkState S)
    (events : List LinkEvent) (k : ℕ) (event : LinkEvent) → k < length events → event ≡ get_or events k event → RunsTo takes old (take k events) mid
    → may_stop mid event ≡ true → StopsAt takes keeps mid event new → StopsAfter takes keeps old events k new
stops_after takes keeps old mid new events k event low is ran may stops =
    record { before = mid; ran = ran; event = event; next = slice_get-get_or events k event low ∙ ap Some (sym is); may = may; stops = stops }
