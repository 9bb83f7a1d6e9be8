-- Lists of events over a whole system that is steady to both centres.
use Rattle.std.proofs.Common.{◌≡◌, ℕ, List, [], ◌∷◌, ◌++◌, take, Option, Some, None, Result, Ok, Err, inl, inr, refl, sym, subst, arith, append-nil, append_assoc, ap, ◌∙◌}
use Rattle.std.specs.Prelude.{◌≢◌, All, IfErr, OnOk, ⊤}
use Rattle.std.proofs.Math.Logic.{∥∥₁_elim, ∥∥₁_map}
use Rattle.std.proofs.Props.{props}
use Rattle.std.proofs.lemmas.List.Elements.{All-head, All-tail, All-take}
use Rattle.dnp_objects.specs.declared.row.Row.{Row}
use Rattle.dnp_world.specs.BothSteady.{AreSteady, GoesOn, IsFateOfAll, Lasts}
use Rattle.dnp_world.specs.Centres.{HappensToAll, may_stop}
use Rattle.dnp_world.specs.Controls.{ControlEnds, IsControlFor, IsRefusedFor, AtCentre, AtConcentrator, IsRefusedOn, First, Second, Third, IsTold, next_below, substation_in}
use Rattle.dnp_world.specs.Kept.{report_of}
use Rattle.dnp_world.specs.Reports.{IsFate, Report, happened}
use Rattle.dnp_world.specs.Rounds.{IsRound, StopsInRound}
use Rattle.dnp_world.specs.Stations.{HasSameCounts, of_substation}
use Rattle.dnp_world.specs.Steady.{points_at, rows_made_at}
use Rattle.dnp_world.specs.SystemRuns.{CountsFor, RunsTo, StopsAfter}
use Rattle.dnp_world.specs.Systems.{System}
use Rattle.dnp_world.specs.Wholes.{Whole, seen_by}
use Rattle.dnp_world.specs.declared.event.Event.{Event}
use Rattle.dnp_world.specs.declared.event.Event.TheVariants as event
use Rattle.dnp_world.specs.declared.event.Link.{Link}
use Rattle.dnp_world.specs.declared.event.Link.TheVariants.{Below, Above}
use Rattle.dnp_world.specs.declared.link_event.Way.TheVariants.{Down, Up}
use Rattle.dnp_world.specs.declared.round_fault.ControlFault.{ControlFault}
use Rattle.dnp_world.specs.declared.round_fault.RoundFault.{RoundFault}
use Rattle.dnp_world.specs.declared.round_fault.RoundFault.TheVariants as round
use Rattle.dnp_world.specs.declared.stopped.Stopped.{Stopped}
use Rattle.dnp_world.specs.declared.round_fault.ControlFault.TheVariants as fault
use Rattle.dnp_world.proofs.Counting.{count_by-append}
use Rattle.dnp_world.proofs.EventPoints.{none_made}
use Rattle.dnp_world.proofs.SystemControls.{IsOfControl, ran_accepted, ran_back, ran_twice, stops_for}
use Rattle.dnp_world.proofs.SystemRounds.{IsOfRound, Ran, StopsIn, ran_both, ran_flush, ran_one, ran_poll}
use Rattle.dnp_world.proofs.SystemRuns.{at_a_stop}

-- the rows that events make, by the substations, which both centres see alike
abbrev pub made_by : Whole → List Event → ℕ → List Row
made_by w events i = rows_made_at (seen_by 0 w) events i

-- what the laws of one event and of lists promise
pub record LastingLaws : Type 0 where
  pub goes : (old new : Whole) (event : Event) → AreSteady old → HappensToAll old event new → GoesOn (made_by old (event ∷ [])) old new
  pub rows : (old next : Whole) (event : Event) (events : List Event) → HappensToAll old event next → (i : ℕ)
      → made_by old (event ∷ events) i ≡ made_by old (event ∷ []) i ++ made_by next events i
  pub joined : (first second : ℕ → List Row) (a b c : Report) → IsFate first a b → IsFate second b c → IsFate (λ i. first i ++ second i) a c

pub nothing_more : (r : Report) → IsFate (λ i. []) r r
nothing_more r i = record { same = λ test. omega (arith, count_by-append test (of_substation i (happened r)) []) }

pub rests : (old new : Whole) → AreSteady old → new ≡ old → GoesOn (λ i. []) old new
rests old new s same = subst (GoesOn (λ i. []) old) (sym same) (record { steady = s; fate = λ centre low. nothing_more (report_of (seen_by centre old)) })

-- with the same rows, said otherwise
pub fate_as : (made rows : ℕ → List Row) (old new : Report) → ((i : ℕ) → made i ≡ rows i) → IsFate made old new → IsFate rows old new
fate_as made rows old new same fate i =
    subst (λ (xs : List Row). HasSameCounts (of_substation i (happened new)) (of_substation i (happened old) ++ xs)) (same i) (fate i)

pub goes_as : (made rows : ℕ → List Row) (old new : Whole) → ((i : ℕ) → made i ≡ rows i) → GoesOn made old new → GoesOn rows old new
goes_as made rows old new same g = record {
  steady = g.steady;
  fate = λ centre low. fate_as made rows (report_of (seen_by centre old)) (report_of (seen_by centre new)) same (g.fate centre low);
}

-- one list after another
pub goes_on : LastingLaws → (first second : ℕ → List Row) (old mid new : Whole) → GoesOn first old mid → GoesOn second mid new
    → GoesOn (λ i. first i ++ second i) old new
goes_on laws first second old mid new f s = record {
  steady = s.steady;
  fate = λ centre low.
      laws.joined first second (report_of (seen_by centre old)) (report_of (seen_by centre mid)) (report_of (seen_by centre new)) (f.fate centre low)
      (s.fate centre low);
}

pub goes_by : LastingLaws → (events : List Event) (old new : Whole) → AreSteady old → RunsTo HappensToAll old events new
    → GoesOn (made_by old events) old new
goes_by laws [] old new s same = goes_as (λ i. []) (made_by old []) old new (λ i. sym (none_made (points_at (seen_by 0 old) i))) (rests old new s same)
goes_by laws (e ∷ events) old new s (next, h, ran) =
    let first : GoesOn (made_by old (e ∷ [])) old next = laws.goes old next e s h in
    goes_as (λ i. made_by old (e ∷ []) i ++ made_by next events i) (made_by old (e ∷ events)) old new
    (λ i. sym (laws.rows old next e events h i))
    (goes_on laws (made_by old (e ∷ [])) (made_by next events) old next new first (goes_by laws events next new first.steady ran))

-- what counts for an event at which a list stops makes no row
pub stops : LastingLaws → (e : Event) (old new : Whole) → AreSteady old → CountsFor HappensToAll old e new → GoesOn (λ i. []) old new
stops laws e old new s counts =
    at_a_stop (λ was is. AreSteady was → GoesOn (λ i. []) was is)
    (λ on way was is h steady. goes_as (made_by was (event.Lose on way ∷ [])) (λ i. []) was is (λ i. none_made (points_at (seen_by 0 was) i))
    (laws.goes was is (event.Lose on way) steady h)) (λ was is same steady. rests was is steady same) e old new counts s

-- what a list made, and nothing after it
goes_then : LastingLaws → (made : ℕ → List Row) (old mid new : Whole) → GoesOn made old mid → GoesOn (λ i. []) mid new
    → GoesOn made old new
goes_then laws made old mid new f g =
    goes_as (λ i. made i ++ []) made old new (λ i. append-nil (made i)) (goes_on laws made (λ i. []) old mid new f g)

pub goes_stopped : LastingLaws → (events : List Event) (done : ℕ) (old new : Whole) → AreSteady old
    → (stop : StopsAfter HappensToAll may_stop old events done new) → GoesOn (made_by old (take done events)) old new
goes_stopped laws events done old new s stop =
    let made : ℕ → List Row = made_by old (take done events) in
    let first : GoesOn made old stop.before = goes_by laws (take done events) old stop.before s stop.ran in
    goes_then laws made old stop.before new first (stops laws stop.event stop.before new first.steady stop.counts)

-- ---- what is had where a system is only known to be steady in some way

fate_once : (made : ℕ → List Row) (old new : Whole) → IsProp (IsFateOfAll made old new)
fate_once made old new = hlevel props

pub fate_of : (made : ℕ → List Row) (old new : Whole) → ∥ AreSteady old ∥₁ → (AreSteady old → GoesOn made old new)
    → IsFateOfAll made old new
fate_of made old new some goes = ∥∥₁_elim some (fate_once made old new) (λ s. (goes s).fate)

pub steady_of : (made : ℕ → List Row) (old new : Whole) → ∥ AreSteady old ∥₁ → (AreSteady old → GoesOn made old new)
    → ∥ AreSteady new ∥₁
steady_of made old new some goes = ∥∥₁_map some (λ s. (goes s).steady)

pub lasts : LastingLaws → (events : List Event) (old new : Whole) → ∥ AreSteady old ∥₁ → RunsTo HappensToAll old events new → Lasts events old new
lasts laws events old new some ran = fate_of (made_by old events) old new some (λ s. goes_by laws events old new s ran)

pub lasts_stopped : LastingLaws → (events : List Event) (done : ℕ) (old new : Whole) → ∥ AreSteady old ∥₁
    → StopsAfter HappensToAll may_stop old events done new → Lasts (take done events) old new
lasts_stopped laws events done old new some stop =
    fate_of (made_by old (take done events)) old new some (λ s. goes_stopped laws events done old new s stop)

-- the rows of a list, and then those of the list after it
made_after : LastingLaws → (old mid : Whole) (first second : List Event) → RunsTo HappensToAll old first mid → (i : ℕ)
    → made_by old (first ++ second) i ≡ made_by old first i ++ made_by mid second i
made_after laws old mid [] second same i =
    ap (λ (w : Whole). made_by w second i) (sym same)
    ∙ ap (λ (rows : List Row). rows ++ made_by mid second i) (sym (none_made (points_at (seen_by 0 old) i)))
made_after laws old mid (e ∷ first) second (next, h, ran) i =
    laws.rows old next e (first ++ second) h i
    ∙ ap (λ (rows : List Row). made_by old (e ∷ []) i ++ rows) (made_after laws next mid first second ran i)
    ∙ sym (append_assoc (made_by old (e ∷ []) i) (made_by next first i) (made_by mid second i))
    ∙ ap (λ (rows : List Row). rows ++ made_by mid second i) (sym (laws.rows old next e first h i))

-- two runs, one after the other, are one
pub lasts_on : LastingLaws → (old mid new : Whole) (first second : List Event) → RunsTo HappensToAll old first mid → Lasts first old mid
    → Lasts second mid new → Lasts (first ++ second) old new
lasts_on laws old mid new first second ran one two centre low =
    fate_as (λ i. made_by old first i ++ made_by mid second i) (made_by old (first ++ second)) (report_of (seen_by centre old))
    (report_of (seen_by centre new)) (λ i. sym (made_after laws old mid first second ran i))
    (laws.joined (made_by old first) (made_by mid second) (report_of (seen_by centre old)) (report_of (seen_by centre mid))
    (report_of (seen_by centre new)) (one centre low) (two centre low))

-- ---- events that make no row

-- such events make none, in whatever system
abbrev MakeNone : (Event → Type 0) → Type 0
MakeNone P = (e : Event) → P e → (s : Whole) (i : ℕ) → made_by s (e ∷ []) i ≡ []

pub calm : LastingLaws → (P : Event → Type 0) → MakeNone P → (events : List Event) → All P events → (old new : Whole) → AreSteady old
    → RunsTo HappensToAll old events new → GoesOn (λ i. []) old new
calm laws P none [] all old new s same = rests old new s same
calm laws P none (e ∷ events) all old new s (next, h, ran) =
    let first : GoesOn (λ i. []) old next =
    goes_as (made_by old (e ∷ [])) (λ i. []) old next (none e (All-head P e events all) old) (laws.goes old next e s h) in
    goes_on laws (λ i. []) (λ i. []) old next new first
    (calm laws P none events (All-tail P e events all) next new first.steady ran)

pub calm_run : LastingLaws → (P : Event → Type 0) → MakeNone P → (old new : Whole) → AreSteady old → Ran P old new
    → GoesOn (λ i. []) old new
calm_run laws P none old new s r = calm laws P none r.events r.all old new s r.ran

pub calm_stop : LastingLaws → (P : Event → Type 0) → MakeNone P → (old new : Whole) → AreSteady old → StopsIn P old new
    → GoesOn (λ i. []) old new
calm_stop laws P none old new s r =
    let first : GoesOn (λ i. []) old r.stops.before =
    calm laws P none (take r.done r.events) (All-take P r.done r.events r.all) old r.stops.before s r.stops.ran in
    goes_on laws (λ i. []) (λ i. []) old r.stops.before new first (stops laws r.stops.event r.stops.before new first.steady r.stops.counts)

-- ---- rounds and controls

pub round_makes_none : (on : Link) → MakeNone (IsOfRound on)
round_makes_none on e (inl is) s i = rw is (none_made (points_at (seen_by 0 s) i))
round_makes_none on e (inr (w, is)) s i = rw is (none_made (points_at (seen_by 0 s) i))

pub control_makes_none : MakeNone IsOfControl
control_makes_none e (on, inl is) s i = rw is (none_made (points_at (seen_by 0 s) i))
control_makes_none e (on, inr (w, is)) s i = rw is (none_made (points_at (seen_by 0 s) i))

pub ran_round : (see : Whole → System) (on : Link) (old new : Whole) → IsRound HappensToAll see on old new → Ran (IsOfRound on) old new
ran_round see on old new r =
    ran_both (IsOfRound on) old r.taken new
    (ran_both (IsOfRound on) old r.answered r.taken
    (ran_both (IsOfRound on) old r.asked r.answered (ran_poll on old r.asked r.asks)
    (ran_flush see (IsOfRound on) on Down r.asked r.answered (inr (Down, refl)) r.down))
    (ran_flush see (IsOfRound on) on Up r.answered r.taken (inr (Up, refl)) r.up))
    (ran_flush see (IsOfRound on) on Down r.taken new (inr (Down, refl)) r.confirms)

ran_told : (see : Whole → System) (on : Link) (id : Option ℕ) (status : ℕ) (old new : Whole) → IsTold HappensToAll see on id status old new
    → Ran IsOfControl old new
ran_told see on id status old new t = ran_one IsOfControl old new (event.Relay on) (on, inl refl) t.relays

ran_refused : (see : Whole → System) (on : Link) (id : Option ℕ) (status : ℕ) (old new : Whole) → IsRefusedOn HappensToAll see on id status old new
    → Ran IsOfControl old new
ran_refused see on id status old new (First t) = ran_told see on id status old new t
ran_refused see on id status old new (Second selected back t) =
    ran_both IsOfControl old selected new (ran_back see on id old selected back) (ran_told see on id status selected new t)
ran_refused see on id status old new (Third selected operated first second t) =
    ran_both IsOfControl old operated new (ran_twice see on id old selected operated first second) (ran_told see on id status operated new t)

ran_refused_for : (see : Whole → System) (centre : ℕ) (substation : Option ℕ) (id status : ℕ) (old new : Whole)
    → IsRefusedFor HappensToAll see centre substation id status old new → Ran IsOfControl old new
ran_refused_for see centre substation id status old new (AtCentre r) = ran_refused see (Above centre) (Some id) status old new r
ran_refused_for see centre substation id status old new (AtConcentrator its above is accepted r) =
    ran_both IsOfControl old above new (ran_accepted see (Above centre) (Some id) old above accepted)
    (ran_refused see (Below its) (next_below (see above) its) status above new r)

ran_control : (see : Whole → System) (centre : ℕ) (substation : Option ℕ) (id : ℕ) (old new : Whole)
    → IsControlFor HappensToAll see centre substation id old new
    → Ran IsOfControl old new
ran_control see centre None id old new accepted = ran_accepted see (Above centre) (Some id) old new accepted
ran_control see centre (Some substation) id old new (above, first, second) =
    ran_both IsOfControl old above new (ran_accepted see (Above centre) (Some id) old above first)
    (ran_accepted see (Below substation) (next_below (see above) substation) above new second)

-- what a control leaves, by what is so where nothing happened, where its events happened, and where they stopped
pub control_leaves : (Leaves : Whole → Whole → Type 0) → ((old new : Whole) → new ≡ old → Leaves old new)
    → ((old new : Whole) → Ran IsOfControl old new → Leaves old new) → ((old new : Whole) → StopsIn IsOfControl old new → Leaves old new)
    → (see : Whole → System) (centre id : ℕ) (old new : Whole) (result : Result ⊤ ControlFault)
    → ControlEnds HappensToAll see may_stop centre id old result new → Leaves old new
control_leaves Leaves rest ran stop see centre id old new (Ok done) (can, control) = ran old new
    (ran_control see centre (substation_in (see old) id) id old new control)
control_leaves Leaves rest ran stop see centre id old new (Err fault.NotQuiet) (loud, same) = rest old new same
control_leaves Leaves rest ran stop see centre id old new (Err fault.NotNext) (quiet, waits, same) = rest old new same
control_leaves Leaves rest ran stop see centre id old new (Err (fault.Refused status)) (can, refused) =
    ran old new (ran_refused_for see centre (substation_in (see old) id) id status old new refused)
control_leaves Leaves rest ran stop see centre id old new (Err (fault.Fault cause)) (inl same) = rest old new same
control_leaves Leaves rest ran stop see centre id old new (Err (fault.Fault cause)) (inr (can, stops)) =
    stop old new (stops_for see centre (substation_in (see old) id) id old new stops)

pub calm_control : LastingLaws → (see : Whole → System) (centre id : ℕ) (old new : Whole) (result : Result ⊤ ControlFault) → AreSteady old
    → ControlEnds HappensToAll see may_stop centre id old result new → GoesOn (λ i. []) old new
calm_control laws see centre id old new result s ends =
    control_leaves (λ was is. AreSteady was → GoesOn (λ i. []) was is) (λ was is same steady. rests was is steady same)
    (λ was is ran steady. calm_run laws IsOfControl control_makes_none was is steady ran)
    (λ was is stop steady. calm_stop laws IsOfControl control_makes_none was is steady stop) see centre id old new result ends s

-- ---- calls

-- a list of events leaves a steady system, where it was done and where it stopped
pub steady_after : (events : List Event) (old new : Whole) (r : Result ⊤ Stopped)
    → (AreSteady old → RunsTo HappensToAll old events new → AreSteady new)
    → ((done : ℕ) → AreSteady old → StopsAfter HappensToAll may_stop old events done new → AreSteady new) → ∥ AreSteady old ∥₁
    → OnOk r (RunsTo HappensToAll old events new) → IfErr r (λ stopped. StopsAfter HappensToAll may_stop old events stopped.done new) → ∥ AreSteady new ∥₁
steady_after events old new (Ok done) ran stopped some all stop = ∥∥₁_map some (λ s. ran s all)
steady_after events old new (Err stopped_by) ran stopped some all stop = ∥∥₁_map some (λ s. stopped stopped_by.done s stop)

-- what a clean round leaves, by what is so where it was done, where it stopped, and where nothing happened
pub round_leaves : (Left : Type 0) (see : Whole → System) (on : Link) (old new : Whole) (r : Result ⊤ RoundFault)
    → (IsRound HappensToAll see on old new → Left) → (StopsInRound HappensToAll see may_stop on old new → Left) → (new ≡ old → Left)
    → OnOk r (IsRound HappensToAll see on old new)
    → IfErr r (λ fault. fault ≢ round.NotQuiet → StopsInRound HappensToAll see may_stop on old new) → (r ≡ Err round.NotQuiet → new ≡ old) → Left
round_leaves Left see on old new (Ok done) whole stop same all some none = whole all
round_leaves Left see on old new (Err round.NotQuiet) whole stop same all some none = same (none refl)
round_leaves Left see on old new (Err (round.Fault cause)) whole stop same all some none = stop (some (λ e. cc))
