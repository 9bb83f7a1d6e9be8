-- What the calls of a concentrator and of a centre promise, as the master's end of a link promises it.
use Rattle.std.proofs.Common.{◌≡◌, ◌≢◌, ℕ, suc, ◌≤◌, Bool, false, List, [], ◌∷◌, length, ◌⊎◌, inl, inr, Option, Some, None, Result, Ok, Err, IfOk, IfErr, OnOk, ap, ◌∙◌, subst, arith, refl, length-append}
use Rattle.std.specs.Prelude.{OnErr}
use Rattle.std.specs.List.{cons_option, filter_map}
use Rattle.std.proofs.lemmas.Bool.{or_parts}
use Rattle.dnp_objects.specs.declared.lane.LaneRow.{LaneRow}
use Rattle.dnp_objects.specs.declared.row.Row.{Row}
use Rattle.dnp_objects.specs.Lanes.{lane_number}
use Rattle.dnp_controls.specs.Book.{Ledger}
use Rattle.dnp_eventbuf.specs.Archive.{Archive, with_events}
use Rattle.dnp_eventbuf.specs.Sides.{AreSame, BothHave, ForEach, either_exhausts}
use Rattle.dnp_eventbuf.specs.EventBuffer.{EventBuffer, dropped_by, exhausts, dropped_from, LaneState, is_full, lane_at, with_row, with_rows}
use Rattle.dnp_master.specs.declared.actions.MasterActions.{MasterActions}
use Rattle.dnp_master.specs.declared.fault.MasterFault.{MasterFault}
use Rattle.dnp_master.specs.Calls.{Taking, actions_of}
use Rattle.dnp_master.specs.Sinks.{IsSinkFault}
use Rattle.dnp_outstation.specs.State.{Core}
use Rattle.dnp_pointdb.specs.Plan as points
use Rattle.dnp_concentrator.specs.BookOutputs.{IsWell}
use Rattle.dnp_concentrator.specs.Centre as centre
use Rattle.dnp_concentrator.specs.Centre.{LeavesJournal}
use Rattle.dnp_concentrator.specs.Concentrator.{IsBookWell, LeavesQueue, SetsLink, core_of, link_at, links_of, outputs_of, plan_above, queue_of, queued_at, with_readings}
use Rattle.dnp_concentrator.specs.Mapped.{queued_row}
use Rattle.dnp_concentrator.specs.Relaying.{Relaying, received}
use Rattle.dnp_concentrator.specs.declared.book_outputs.BookOutputs.{BookOutputs}
use Rattle.dnp_concentrator.specs.declared.centre.Centre.{Centre}
use Rattle.dnp_concentrator.specs.declared.concentrator.Concentrator.{Concentrator}
use Rattle.dnp_concentrator.specs.PerCentre.{at, of_each}
use Rattle.dnp_world.specs.MasterEnds.{AreFew, TakesIn, none_dropped}
use Rattle.dnp_world.specs.SystemEvents.{centre_taken}
use Rattle.dnp_world.specs.SystemParts.{centre_of, concentrator_of}
use Rattle.dnp_world.specs.Wholes.{WholeConcentrator}
use Rattle.dnp_world.specs.steps.WholeSteps.{HaveNumbers, concentrator_taken, dropped_for, queued_for, with_readings_of}
use Rattle.dnp_world.proofs.PerCentre.{at_every, made_alike}
use Rattle.dnp_world.proofs.OneLinkSteps.{dropped_length}

-- ---- what both say

any_ok : {A E : Type 0} (r : Result A E) (P : A → Type 0) → ((x : A) → P x) → IfOk r P
any_ok (Ok x) P all = all x
any_ok (Err e) P all = tt

-- the fault is named without its rows
named_by : {Answer : Type 0} (answer : Result Answer MasterFault) (r : Result Taking MasterFault) (P : Type 0)
    → IfErr answer (λ fault. (r ≡ Err fault) ⊎ (IsSinkFault fault × P)) → IfErr answer (λ fault. (r ≡ Err fault) ⊎ IsSinkFault fault)
named_by (Ok a) r P h = tt
named_by (Err fault) r P h = elim h [ inl is ↦ inl is | inr k ↦ inr k.0 ]

-- what the master refuses for itself is asked of no store
unasked_by : {Answer : Type 0} (answer : Result Answer MasterFault) (r : Result Taking MasterFault) (keeps : Type 0)
    → IfErr r (λ fault. answer ≡ Err fault) → OnErr answer keeps → IfErr r (λ _. keeps)
unasked_by answer (Ok t) keeps refused kept = tt
unasked_by {Answer} answer (Err fault) keeps refused kept = subst (λ (x : Result Answer MasterFault). OnErr x keeps) refused kept

-- stores that stay are what they were
pub well_before : {A : Type 0} (honest : A → Type 0) (is_stopped : A → Bool) (old new : BookOutputs A) → new ≡ old → IsWell honest is_stopped new
    → IsWell honest is_stopped old
well_before {A} honest is_stopped old new same well = subst (λ (o : BookOutputs A). IsWell honest is_stopped o) same well

book_before : {B : Type 0} (honest : B → Type 0) (is_stopped : B → Bool) (old new : B) → new ≡ old → honest new × (is_stopped new ≡ false)
    → honest old × (is_stopped old ≡ false)
book_before {B} honest is_stopped old new same well = subst (λ (b : B). honest b × (is_stopped b ≡ false)) same well

-- a concentrator by its parts
concentrator_by : {Q A : Type 0} (buffer : Q → ℕ → EventBuffer) (ledger : A → Ledger) (old new : Concentrator Q A) (next : Core → Core)
    (fill : EventBuffer → EventBuffer) (links : List Relaying) → ForEach (λ n. core_of n new ≡ next (core_of n old))
    → ForEach (λ n. buffer (queue_of new) n ≡ fill (buffer (queue_of old) n)) → outputs_of new ≡ outputs_of old → links_of new ≡ links
    → plan_above new ≡ plan_above old
    → concentrator_of buffer ledger new ≡ (let was = concentrator_of buffer ledger old in
    record was { cores = of_each next was.cores; queues = of_each fill was.queues; links = links })
concentrator_by buffer ledger old new next fill links cores queues outputs links_is plan =
    cc (
      made_alike (λ n. core_of n new) (λ n. next (core_of n old)) cores,
      made_alike (buffer (queue_of new)) (λ n. fill (buffer (queue_of old) n)) queues,
      outputs,
      links_is,
      plan,
    )

-- what a concentrator took on a link
taken_below : {Q A : Type 0} (buffer : Q → ℕ → EventBuffer) (ledger : A → Ledger) (old new : Concentrator Q A) (link : ℕ) (r : Result Taking MasterFault)
    (answer : Result (MasterActions × List Row) MasterFault)
    → IfOk answer (λ a. IfOk r (λ t. a.0 ≡ actions_of t a.0.dropped))
    → IfOk answer (λ a. IfOk r (λ t. a.0.dropped ≡ dropped_by (buffer (queue_of old) 0) (queued_at old link t.events)))
    → IfOk answer (λ a. IfOk r (λ t. a.1 ≡ dropped_by (buffer (queue_of old) 1) (queued_at old link t.events)))
    → OnOk answer (IfOk r (λ t. SetsLink old link (received (link_at old link) t) new))
    → OnOk answer (IfOk r (λ t. BothHave (buffer (queue_of old)) (queued_at old link t.events) (buffer (queue_of new))))
    → OnOk answer (IfOk r (λ t. ForEach (λ centre. core_of centre new ≡ with_readings centre old link t.events t.statics))) → outputs_of new ≡ outputs_of old
    → plan_above new ≡ plan_above old
    → OnOk answer (IfOk r (λ t. t.events ≢ [] → either_exhausts (buffer (queue_of old)) (queued_at old link t.events) ≡ false))
    → IfOk answer (λ a. IfOk r (λ t. (a.0 ≡ actions_of t (dropped_for (concentrator_of buffer ledger old) link t).first)
    × (a.1 ≡ (dropped_for (concentrator_of buffer ledger old) link t).second) × (HaveNumbers (concentrator_of buffer ledger old) link t
    × (concentrator_of buffer ledger new ≡ concentrator_taken (concentrator_of buffer ledger old) link t))))
taken_below buffer ledger old new link r (Err fault) actions dropped dropped_too links queued core outputs plan room = tt
taken_below buffer ledger old new link (Err fault) (Ok a) actions dropped dropped_too links queued core outputs plan room = tt
taken_below buffer ledger old new link (Ok t) (Ok a) actions dropped dropped_too links queued core outputs plan room =
    let was : WholeConcentrator = concentrator_of buffer ledger old in
    let exhausted : ℕ → Bool = λ centre. exhausts (buffer (queue_of old) centre) (queued_at old link t.events) in (
      actions ∙ ap (λ (rows : List Row). actions_of t rows) dropped,
      dropped_too,
      (
        λ some. let none = or_parts (exhausted 0) (exhausted 1) (room some) in
            at_every (λ centre. exhausts (at centre was.queues) (queued_at old link t.events) ≡ false) none.0 none.1,
        concentrator_by buffer ledger old new (with_readings_of was link t) (λ (s : EventBuffer). with_rows s (queued_for was link t)) _
            core queued outputs links plan,
      ),
    )

-- what a concentrator refused
kept_below : {Q A Answer : Type 0} (buffer : Q → ℕ → EventBuffer) (ledger : A → Ledger) (old new : Concentrator Q A) (answer : Result Answer MasterFault)
    → OnErr answer (links_of new ≡ links_of old) → OnErr answer (ForEach (λ centre. core_of centre new ≡ core_of centre old))
    → IfErr answer (λ _. AreSame buffer (queue_of old) (queue_of new)) → outputs_of new ≡ outputs_of old → plan_above new ≡ plan_above old
    → OnErr answer (concentrator_of buffer ledger new ≡ concentrator_of buffer ledger old)
kept_below buffer ledger old new (Ok a) links core queue outputs plan = tt
kept_below buffer ledger old new (Err fault) links core queue outputs plan =
    concentrator_by buffer ledger old new (λ core. core) (λ queue. queue) (links_of old) core queue outputs links plan

all_dropped : (s : EventBuffer) (rows : List LaneRow) → length (dropped_by s rows) ≤ length rows
all_dropped s [] = omega arith
all_dropped s (x ∷ xs) =
    let lane : LaneState = lane_at s (lane_number x.lane) in
    omega (arith, length-append (dropped_from lane) (dropped_by (with_row s x) xs), dropped_length (is_full lane) lane.rows, all_dropped (with_row s x) xs)

one_queued : (o : Option LaneRow) (rows : List LaneRow) → length (cons_option o rows) ≤ suc (length rows)
one_queued None rows = omega arith
one_queued (Some x) rows = omega arith

all_queued : (f : Row → Option LaneRow) (rows : List Row) → length (filter_map f rows) ≤ length rows
all_queued f [] = omega arith
all_queued f (x ∷ xs) = omega (arith, one_queued (f x) (filter_map f xs), all_queued f xs)

-- no more rows are dropped than come
few_from : (s : EventBuffer) (c : WholeConcentrator) (link : ℕ) (t : Taking) → length (dropped_by s (queued_for c link t)) ≤ length t.events
few_from s c link t = omega (arith, all_dropped s (queued_for c link t), all_queued (queued_row c.indices c.points link) t.events)

few_below : (c : WholeConcentrator) (link : ℕ) (t : Taking)
    → AreFew (length t.events) (dropped_for c link t)
few_below c link t = at_every _ (few_from c.queues.first c link t) (few_from c.queues.second c link t)

-- where none are dropped
pub none_few : (most : ℕ) → AreFew most none_dropped
none_few most = at_every _ (omega arith) (omega arith)

-- what a concentrator's call promises, as the master's end of a link promises it
module _ {Q B : Type 0} (queue : Q → Type 0) (queue_stopped : Q → Bool) (buffer : Q → ℕ → EventBuffer) (book : B → Type 0) (book_stopped : B → Bool)
    (ledger : B → Ledger) where
  abbrev AreHonest : Concentrator Q B → Type 0
  AreHonest c = queue (queue_of c) × IsBookWell book book_stopped c

  pub concentrator_takes : (old new : Concentrator Q B) (link : ℕ) (r : Result Taking MasterFault) (answer : Result (MasterActions × List Row) MasterFault)
      (P : Type 0) → IfErr r (λ fault. answer ≡ Err fault) → IfErr answer (λ fault. (r ≡ Err fault) ⊎ (IsSinkFault fault × P))
      → OnErr answer (links_of new ≡ links_of old) → OnErr answer (ForEach (λ centre. core_of centre new ≡ core_of centre old))
      → OnOk answer (IfOk r (λ t. SetsLink old link (received (link_at old link) t) new))
      → IfOk answer (λ a. IfOk r (λ t. a.0 ≡ actions_of t a.0.dropped))
      → (queue (queue_of new)
      → OnOk answer (IfOk r (λ t. BothHave (buffer (queue_of old)) (queued_at old link t.events) (buffer (queue_of new)))))
      → (queue (queue_of new)
      → IfOk answer (λ a. IfOk r (λ t. a.0.dropped ≡ dropped_by (buffer (queue_of old) 0) (queued_at old link t.events))))
      → (queue (queue_of new)
      → IfOk answer (λ a. IfOk r (λ t. a.1 ≡ dropped_by (buffer (queue_of old) 1) (queued_at old link t.events))))
      → OnOk answer (IfOk r (λ t. ForEach (λ centre. core_of centre new ≡ with_readings centre old link t.events t.statics)))
      → plan_above new ≡ plan_above old → outputs_of new ≡ outputs_of old
      → LeavesQueue queue queue_stopped buffer (queue_of old) (queue_of new) answer
      → (queue (queue_of new)
      → OnOk answer (IfOk r (λ t. t.events ≢ [] → either_exhausts (buffer (queue_of old)) (queued_at old link t.events) ≡ false)))
      → TakesIn AreHonest
      (λ t. HaveNumbers (concentrator_of buffer ledger old) link t
      × (concentrator_of buffer ledger new ≡ concentrator_taken (concentrator_of buffer ledger old) link t))
      (λ t. dropped_for (concentrator_of buffer ledger old) link t) (concentrator_of buffer ledger new ≡ concentrator_of buffer ledger old)
      (concentrator_of buffer ledger new ≡ concentrator_of buffer ledger old) r old new answer
  concentrator_takes old new link r answer P refused named links unchanged sets actions queued dropped dropped_too readings plan outputs kept room =
      let same : AreHonest new → OnErr answer (concentrator_of buffer ledger new ≡ concentrator_of buffer ledger old) = λ well.
      kept_below buffer ledger old new answer links unchanged (kept.unchanged well.0) outputs plan in
      record {
        held = λ well. (kept.held well.0, well_before book book_stopped _ _ outputs well.1);
        taken = λ well. taken_below buffer ledger old new link r answer actions (dropped well.0) (dropped_too well.0) sets (queued well.0) readings outputs
            plan (room well.0);
        few = any_ok r _ (few_below (concentrator_of buffer ledger old) link);
        kept = same;
        refused = refused;
        unasked = λ well. unasked_by answer r _ refused (same well);
        named = named_by answer r P named;
      }

-- a centre by its parts
centre_by : {J B : Type 0} (archive : J → Archive) (ledger : B → Ledger) (old new : Centre J B) (link : Relaying) (journal : Archive)
    → centre.link_of new ≡ link → archive (centre.journal_of new) ≡ journal → centre.book_of new ≡ centre.book_of old
    → centre.indices_of new ≡ centre.indices_of old → centre_of archive ledger new ≡ record (centre_of archive ledger old) { link = link; journal = journal }
centre_by archive ledger old new link journal link_is journal_is book indices = cc

-- its answer as an end's, which drops no rows
abbrev pub beside_none : Result MasterActions MasterFault → Result (MasterActions × List Row) MasterFault
beside_none (Ok a) = Ok (a, [])
beside_none (Err fault) = Err fault

refused_beside : (answer : Result MasterActions MasterFault) (r : Result Taking MasterFault) → IfErr r (λ fault. answer ≡ Err fault)
    → IfErr r (λ fault. beside_none answer ≡ Err fault)
refused_beside answer (Ok t) refused = tt
refused_beside answer (Err fault) refused = ap beside_none refused

named_beside : (answer : Result MasterActions MasterFault) (P : MasterFault → Type 0) → IfErr answer P → IfErr (beside_none answer) P
named_beside (Ok a) P named = tt
named_beside (Err fault) P named = named

-- what a centre took
taken_above : {J B : Type 0} (archive : J → Archive) (ledger : B → Ledger) (old new : Centre J B) (r : Result Taking MasterFault)
    (answer : Result MasterActions MasterFault)
    → IfOk answer (λ a. IfOk r (λ t. a ≡ actions_of t [])) → OnOk answer (IfOk r (λ t. centre.link_of new ≡ received (centre.link_of old) t))
    → OnOk answer (IfOk r (λ t. archive (centre.journal_of new) ≡ with_events (archive (centre.journal_of old)) t.events))
    → centre.book_of new ≡ centre.book_of old → centre.indices_of new ≡ centre.indices_of old
    → IfOk (beside_none answer) (λ a. IfOk r (λ t. (a.0 ≡ actions_of t []) × (a.1 ≡ [])
    × (centre_of archive ledger new ≡ centre_taken (centre_of archive ledger old) t)))
taken_above archive ledger old new r (Err fault) actions link stored book indices = tt
taken_above archive ledger old new (Err fault) (Ok a) actions link stored book indices = tt
taken_above archive ledger old new (Ok t) (Ok a) actions link stored book indices = (
  actions,
  refl,
  centre_by archive ledger old new (received (centre.link_of old) t) (with_events (archive (centre.journal_of old)) t.events) link stored book indices,
)

-- what a centre refused
kept_above : {J B : Type 0} (archive : J → Archive) (ledger : B → Ledger) (old new : Centre J B) (answer : Result MasterActions MasterFault)
    → OnErr answer (centre.link_of new ≡ centre.link_of old) → OnErr answer (archive (centre.journal_of new) ≡ archive (centre.journal_of old))
    → centre.book_of new ≡ centre.book_of old → centre.indices_of new ≡ centre.indices_of old
    → OnErr (beside_none answer) (centre_of archive ledger new ≡ centre_of archive ledger old)
kept_above archive ledger old new (Ok a) link journal book indices = tt
kept_above archive ledger old new (Err fault) link journal book indices = centre_by archive ledger old new _ _ link journal book indices

-- what a centre's call promises, as the master's end of a link promises it
module _ {J B : Type 0} (journal : J → Type 0) (journal_stopped : J → Bool) (archive : J → Archive) (order : B → Type 0) (order_stopped : B → Bool)
    (ledger : B → Ledger) where
  abbrev IsHonest : Centre J B → Type 0
  IsHonest c = journal (centre.journal_of c) × order (centre.book_of c) × (order_stopped (centre.book_of c) ≡ false)

  pub centre_takes : (old new : Centre J B) (r : Result Taking MasterFault) (answer : Result MasterActions MasterFault) (P : Type 0)
      → IfErr r (λ fault. answer ≡ Err fault) → IfErr answer (λ fault. (r ≡ Err fault) ⊎ (IsSinkFault fault × P))
      → OnErr answer (centre.link_of new ≡ centre.link_of old) → OnOk answer (IfOk r (λ t. centre.link_of new ≡ received (centre.link_of old) t))
      → (journal (centre.journal_of new) → IfOk answer (λ a. IfOk r (λ t. a ≡ actions_of t [])))
      → (journal (centre.journal_of new)
      → OnOk answer (IfOk r (λ t. archive (centre.journal_of new) ≡ with_events (archive (centre.journal_of old)) t.events)))
      → LeavesJournal journal journal_stopped archive (centre.journal_of old) (centre.journal_of new) answer
      → centre.book_of new ≡ centre.book_of old → centre.indices_of new ≡ centre.indices_of old
      → TakesIn IsHonest (λ t. centre_of archive ledger new ≡ centre_taken (centre_of archive ledger old) t) (λ t. none_dropped)
      (centre_of archive ledger new ≡ centre_of archive ledger old) (centre_of archive ledger new ≡ centre_of archive ledger old) r old new
      (beside_none answer)
  centre_takes old new r answer P refused named unchanged link actions stored kept book indices =
      let same : IsHonest new → OnErr (beside_none answer) (centre_of archive ledger new ≡ centre_of archive ledger old) = λ well.
      kept_above archive ledger old new answer unchanged (kept.unchanged well.0) book indices in
      let refused_is : IfErr r (λ fault. beside_none answer ≡ Err fault) = refused_beside answer r refused in
      record {
        held = λ well.
            let orders = book_before order order_stopped _ _ book (well.1, well.2) in
            (kept.held well.0, orders.0, orders.1);
        taken = λ well. taken_above archive ledger old new r answer (actions well.0) link (stored well.0) book indices;
        few = any_ok r _ (λ t. none_few (length t.events));
        kept = same;
        refused = refused_is;
        unasked = λ well. unasked_by (beside_none answer) r _ refused_is (same well);
        named = named_beside answer _ (named_by answer r P named);
      }
