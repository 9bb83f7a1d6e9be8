-- What lists of events issue.
use Rattle.std.proofs.Common.{◌≡◌, ℕ, Bool, true, false, Option, Some, None, arith, List, [], ◌∷◌, ◌++◌, append-nil, append_assoc, take, Result, is_some, if◌then◌else◌, inl, inr, refl, sym, ap, ◌∙◌}
use Rattle.std.specs.Prelude.{⊤, nat_lt}
use Rattle.std.specs.List.{All, flat_map}
use Rattle.std.proofs.lemmas.Bool.{ltb-true}
use Rattle.std.proofs.lemmas.List.Elements.{All-head, All-tail, All-take}
use Rattle.dnp_concentrator.specs.Mapped.{command_above}
use Rattle.dnp_concentrator.specs.declared.span.Spans.{Spans}
use Rattle.dnp_eventbuf.specs.Sides.{ForEach}
use Rattle.dnp_eventbuf.specs.declared.pair.TheConstants.{CENTRES}
use Rattle.dnp_objects.specs.declared.command.Command.{Command}
use Rattle.dnp_world.specs.Controls.{ControlEnds}
use Rattle.dnp_world.specs.Rounds.{IsRound, StopsInRound}
use Rattle.dnp_world.specs.BothSteady.{Issues, issued_by}
use Rattle.dnp_world.specs.Centres.{ChangesAll, HappensToAll, centre_at, centre_of, is_there, may_stop, seen_at}
use Rattle.dnp_world.specs.Steady as one
use Rattle.dnp_world.specs.SystemRuns.{CountsFor, Happens, IfThere, RunsTo, StopsAfter}
use Rattle.dnp_world.specs.Systems.{System}
use Rattle.dnp_world.specs.Wholes.{Whole, seen_by}
use Rattle.dnp_world.specs.declared.event.Event.{Event}
use Rattle.dnp_world.specs.declared.event.Event.TheVariants as event
use Rattle.dnp_world.specs.declared.event.Link.{Link}
use Rattle.dnp_world.specs.declared.round_fault.ControlFault.{ControlFault}
use Rattle.dnp_world.proofs.EachCentre.{by_place, to_each}
use Rattle.dnp_world.proofs.EventTouches.{Does, does}
use Rattle.dnp_world.proofs.Lasting.{control_leaves, ran_round}
use Rattle.dnp_world.proofs.Seen.{own_there}
use Rattle.dnp_world.proofs.SystemControls.{IsOfControl}
use Rattle.dnp_world.proofs.SystemRounds.{IsOfRound, Ran, StopsIn, stops_round}
use Rattle.dnp_world.proofs.SystemRuns.{at_a_stop}
use Rattle.dnp_world.proofs.Touches.{Ends, Issues as IssuesOne, Used, after_used, ends_of, issued_in}

-- ---- one event

used_issues : (e : Ends) (used : Used e) → (after_used e used).issued ≡ e.issued ++ issued_in used
used_issues e (IssuesOne substation command above is fits) = refl
used_issues e used = sym (append-nil e.issued)

same_map : (e : Ends) (used : Used e) → (after_used e used).centre_indices ≡ e.centre_indices
same_map e (IssuesOne substation command above is fits) = refl
same_map e used = refl

event_issues : (old new : System) (e : Event) → Happens old e new → new.history.issued ≡ old.history.issued ++ one.issued_by old e
event_issues old new e h =
    let d : Does _ _ (one.issued_by old e) (ends_of old) (ends_of new) = does old new e h in
    ap (λ (x : Ends). x.issued) d.touched.after
    ∙ used_issues (ends_of old) d.touched.used
    ∙ ap (λ (commands : List (ℕ × Command)). old.history.issued ++ commands) d.issued

-- ---- one event, of the whole

-- what it issues, by the centre at which it is
abbrev Issued : Option ℕ → Whole → Event → List (ℕ × Command)
Issued o w e = if is_there o then one.issued_by (seen_at o w) e else []

whole_issues : (old new : Whole) (e : Event) (o : Option ℕ) → IfThere (is_there o) (ChangesAll o (λ s t. Happens s e t)) old new
    → new.history.issued ≡ old.history.issued ++ Issued o old e
whole_issues old new e o h =
    by_place (new.history.issued ≡ old.history.issued ++ Issued o old e) (λ s t. Happens s e t) o old new
    (λ at happens. rw at (event_issues (seen_by 0 old) (seen_by 0 new) e (happens 0 (omega arith))))
    (λ n low at happens others. rw (at, own_there n low) (event_issues (seen_by n old) (seen_by n new) e happens))
    (λ n at high same. rw (at, high) (ap (λ (w : Whole). w.history.issued) same ∙ sym (append-nil old.history.issued))) h

-- no centre's index map changes
keeps_map : (old next : System) (e : Event) → Happens old e next → next.centre.indices ≡ old.centre.indices
keeps_map old next e h =
    let d : Does _ _ (one.issued_by old e) (ends_of old) (ends_of next) = does old next e h in
    ap (λ (x : Ends). x.centre_indices) d.touched.after ∙ same_map (ends_of old) d.touched.used

abbrev KeepMaps : Whole → Whole → Type 0
KeepMaps old next = ForEach (λ centre. (seen_by centre next).centre.indices ≡ (seen_by centre old).centre.indices)

maps_kept : (old next : Whole) (e : Event) → HappensToAll old e next → KeepMaps old next
maps_kept old next e h =
    to_each (λ centre. (seen_by centre next).centre.indices ≡ (seen_by centre old).centre.indices) (λ s t. Happens s e t) (centre_at e) old next
    (λ centre happens. keeps_map (seen_by centre old) (seen_by centre next) e happens)
    (λ centre elsewhere. ap (λ (s : System). s.centre.indices) elsewhere.after) h

-- ---- lists of events

by_map : (old next : System) → next.centre.indices ≡ old.centre.indices → (e : Event) → one.issued_by next e ≡ one.issued_by old e
by_map old next same (event.Issue centre substation command) =
    ap (λ (indices : List Spans). if is_some (command_above indices substation command) then (substation, command) ∷ [] else []) same
by_map old next same e = refl

issued_alike : (old next : Whole) → KeepMaps old next → (e : Event) (o : Option ℕ) → Issued o next e ≡ Issued o old e
issued_alike old next same e None = by_map (seen_by 0 old) (seen_by 0 next) (same 0 (omega arith)) e
issued_alike old next same e (Some n) = by (nat_lt n CENTRES) refl
  where
    by : (b : Bool) → nat_lt n CENTRES ≡ b
        → (if b then one.issued_by (seen_by n next) e else []) ≡ (if b then one.issued_by (seen_by n old) e else [])
    by true low = by_map (seen_by n old) (seen_by n next) (same n (ltb-true n CENTRES low)) e
    by false high = refl

all_by_map : (old next : Whole) → KeepMaps old next → (events : List Event)
    → flat_map (issued_by next) events ≡ flat_map (issued_by old) events
all_by_map old next same [] = refl
all_by_map old next same (e ∷ events) =
    ap (λ (commands : List (ℕ × Command)). commands ++ flat_map (issued_by next) events) (issued_alike old next same e (centre_at e))
    ∙ ap (λ (commands : List (ℕ × Command)). issued_by old e ++ commands) (all_by_map old next same events)

pub ran_issues : (events : List Event) (old new : Whole) → RunsTo HappensToAll old events new → Issues events old new
ran_issues [] old new same = ap (λ (w : Whole). w.history.issued) same ∙ sym (append-nil old.history.issued)
ran_issues (e ∷ events) old new (next, h, ran) =
    ran_issues events next new ran
    ∙ ap (λ (commands : List (ℕ × Command)). commands ++ flat_map (issued_by next) events) (whole_issues old next e (centre_at e) h)
    ∙ append_assoc old.history.issued (issued_by old e) (flat_map (issued_by next) events)
    ∙ ap (λ (commands : List (ℕ × Command)). old.history.issued ++ (issued_by old e ++ commands))
    (all_by_map old next (maps_kept old next e h) events)

-- no event but one that issues does
either_none : (b : Bool) → (if b then (let none : List (ℕ × Command) = [] in none) else []) ≡ []
either_none true = refl
either_none false = refl

-- an event at which a list stops issues nothing
stop_issues : (e : Event) (old new : Whole) → CountsFor HappensToAll old e new → new.history.issued ≡ old.history.issued
stop_issues =
    at_a_stop (λ was is. is.history.issued ≡ was.history.issued)
    (λ on way was is h.
    whole_issues was is (event.Lose on way) (centre_of on) h
    ∙ ap (λ (commands : List (ℕ × Command)). was.history.issued ++ commands) (either_none (is_there (centre_of on)))
    ∙ append-nil was.history.issued) (λ was is same. ap (λ (w : Whole). w.history.issued) same)

so_far_issues : (events : List Event) (old before new : Whole) (event : Event) → RunsTo HappensToAll old events before
    → CountsFor HappensToAll before event new
    → Issues events old new
so_far_issues events old before new event ran counts = stop_issues event before new counts ∙ ran_issues events old before ran

pub stopped_issues : (events : List Event) (done : ℕ) (old new : Whole) → StopsAfter HappensToAll may_stop old events done new
    → Issues (take done events) old new
stopped_issues events done old new stop = so_far_issues (take done events) old stop.before new stop.event stop.ran stop.counts

-- ---- rounds and controls issue nothing

none_issued : (P : Event → Type 0) → ((e : Event) → P e → (s : Whole) → issued_by s e ≡ []) → (events : List Event) → All P events → (s : Whole)
    → flat_map (issued_by s) events ≡ []
none_issued P none [] all s = refl
none_issued P none (e ∷ events) all s =
    ap (λ (commands : List (ℕ × Command)). commands ++ flat_map (issued_by s) events) (none e (All-head P e events all) s)
    ∙ none_issued P none events (All-tail P e events all) s

nothing_after : (P : Event → Type 0) → ((e : Event) → P e → (s : Whole) → issued_by s e ≡ []) → (events : List Event) → All P events → (old new : Whole)
    → Issues events old new → new.history.issued ≡ old.history.issued
nothing_after P none events all old new is =
    is ∙ ap (λ (commands : List (ℕ × Command)). old.history.issued ++ commands) (none_issued P none events all old) ∙ append-nil old.history.issued

ran_none : (P : Event → Type 0) → ((e : Event) → P e → (s : Whole) → issued_by s e ≡ []) → (old new : Whole) → Ran P old new
    → new.history.issued ≡ old.history.issued
ran_none P none old new r = nothing_after P none r.events r.all old new (ran_issues r.events old new r.ran)

stop_none : (P : Event → Type 0) → ((e : Event) → P e → (s : Whole) → issued_by s e ≡ []) → (old new : Whole) → StopsIn P old new
    → new.history.issued ≡ old.history.issued
stop_none P none old new r =
    nothing_after P none (take r.done r.events) (All-take P r.done r.events r.all) old new
    (so_far_issues (take r.done r.events) old r.stops.before new r.stops.event r.stops.ran r.stops.counts)

of_round : (on : Link) (e : Event) → IsOfRound on e → (s : Whole) → issued_by s e ≡ []
of_round on e (inl is) s = rw is (either_none (is_there (centre_of on)))
of_round on e (inr (w, is)) s = rw is (either_none (is_there (centre_of on)))

of_control : (e : Event) → IsOfControl e → (s : Whole) → issued_by s e ≡ []
of_control e (on, inl is) s = rw is (either_none (is_there (centre_of on)))
of_control e (on, inr (w, is)) s = rw is (either_none (is_there (centre_of on)))

pub round_issues_none : (see : Whole → System) (on : Link) (old new : Whole) → IsRound HappensToAll see on old new
    → new.history.issued ≡ old.history.issued
round_issues_none see on old new round = ran_none (IsOfRound on) (of_round on) old new (ran_round see on old new round)

pub stopped_round_issues_none : (see : Whole → System) (on : Link) (old new : Whole) → StopsInRound HappensToAll see may_stop on old new
    → new.history.issued ≡ old.history.issued
stopped_round_issues_none see on old new stop = stop_none (IsOfRound on) (of_round on) old new (stops_round see on old new stop)

pub control_issues_none : (see : Whole → System) (centre id : ℕ) (old new : Whole) (result : Result ⊤ ControlFault)
    → ControlEnds HappensToAll see may_stop centre id old result new → new.history.issued ≡ old.history.issued
control_issues_none see centre id old new result ends =
    control_leaves (λ was is. is.history.issued ≡ was.history.issued) (λ was is same. ap (λ (w : Whole). w.history.issued) same)
    (λ was is ran. ran_none IsOfControl of_control was is ran) (λ was is stop. stop_none IsOfControl of_control was is stop) see centre id old new result ends
