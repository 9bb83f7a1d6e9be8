-- Steps of relaying, as what is answered tells them.
use Rattle.std.proofs.Common.{◌≡◌, ℕ, ◌&&◌, if◌then◌else◌, Bool, true, false, not, List, map, get_or, slice_set, ◌⊎◌, inl, inr, Option, Some, None, Result, Ok, Err, refl, ap, ◌∙◌, subst, arith}
use Rattle.std.proofs.lemmas.Bool.{both_ways}
use Rattle.std.proofs.lemmas.Result.{on_err_weaker}
use Rattle.std.specs.Option.{IsSomeAnd}
use Rattle.std.specs.Result.{IfErr, IfOk, IsErr, IsOk, OnErr, OnOk}
use Rattle.arrayvec.specs.ArrayVec.{ArrayVec}
use Rattle.dnp_concentrator.specs.Relayed.{IsPast, Tells, asks_book, asks_progress, asks_stage, moves_of, with_request}
use Rattle.dnp_concentrator.specs.Relaying.{Step, Waits, Selects, Operates, Finishes}
use Rattle.dnp_concentrator.specs.declared.cause.Cause.{Cause}
use Rattle.dnp_concentrator.specs.declared.relayed.Relayed.{Relayed}
use Rattle.dnp_concentrator.specs.declared.relayed.Relayed.TheVariants as relayed
use Rattle.dnp_concentrator.specs.declared.relayed.RelayedStep.{RelayedStep}
use Rattle.dnp_controls.specs.Book.{Ledger, Has, is_finished, is_pending}
use Rattle.dnp_controls.specs.Moves.{AreGranted}
use Rattle.dnp_controls.specs.declared.book.BookFault.{BookFault}
use Rattle.dnp_controls.specs.declared.book.BookFault.TheVariants.{NoControl, NotPending}
use Rattle.dnp_controls.specs.declared.book.Entry.{Entry}
use Rattle.dnp_eventbuf.specs.Archive.{Archive}
use Rattle.dnp_eventbuf.specs.EventBuffer.{EventBuffer}
use Rattle.dnp_concentrator.specs.Centre as centre
use Rattle.dnp_concentrator.specs.Concentrator.{SetsLink, book_of, core_of, indices_of, link_at, links_of, plan_above, queue_of}
use Rattle.dnp_concentrator.specs.Relaying.{Relaying, ledger_after, relaying_after, step_by, step_of, step_of_progress}
use Rattle.dnp_concentrator.specs.declared.progress.Stage.{Stage}
use Rattle.dnp_concentrator.specs.declared.progress.Stage.TheVariants.{Selecting, Selected, Operating, Known}
use Rattle.dnp_master.specs.Calls.{is_selected}
use Rattle.dnp_master.specs.State.{is_idle}
use Rattle.dnp_objects.specs.declared.command.Command.{Command}
use Rattle.dnp_concentrator.specs.declared.progress.Progress.{Progress}
use Rattle.dnp_concentrator.specs.declared.centre.Centre.{Centre}
use Rattle.dnp_concentrator.specs.declared.concentrator.Concentrator.{Concentrator}
use Rattle.dnp_eventbuf.specs.Sides.{ForEach}
use Rattle.dnp_world.specs.Centres.{ChangesAll, has_link}
use Rattle.dnp_world.specs.Channels.{ChannelState, GoDown, state_of}
use Rattle.dnp_world.specs.SystemEvents.{IsGranted, IsMissing, IsRefused, Refuses, RelaysOn, SendsDown, Steps, entries_on, relaying_at, requests_of, step_on, told, with_relaying}
use Rattle.dnp_world.specs.SystemParts.{centre_of, concentrator_of, substation_of}
use Rattle.dnp_world.specs.Systems.{CentreState, System}
use Rattle.dnp_world.specs.Wholes.{Whole, WholeConcentrator, seen_by}
use Rattle.dnp_world.specs.declared.channel.Channel.{Channel}
use Rattle.dnp_world.specs.declared.event.Link.{Link}
use Rattle.dnp_world.specs.declared.event.Link.TheVariants.{Above, Below}
use Rattle.dnp_world.specs.declared.substation.Substation.{Substation}
use Rattle.dnp_world.proofs.SystemPlaces.{down_from, is_there, sends_at, unchanged_at}

-- what the book grants of an answer, it grants of the step that the answer tells
granted : (step : Step) (seq : ℕ) (answer : Relayed) (book : Ledger) → Tells seq step answer → AreGranted book (moves_of answer)
    → IsGranted book.entries step
granted Waits seq answer book told moves = tt
granted (Selects own command) seq answer book told moves = tt
granted (Operates own command) seq relayed.Nothing book told moves = absurd told
granted (Operates own command) seq (relayed.Selecting id request) book told moves = absurd told
granted (Operates own command) seq (relayed.Finished id status) book told moves = absurd told
granted (Operates own command) seq (relayed.Sent id request) book told moves = subst (λ (n : ℕ). Has book.entries n is_pending) told.0 moves.0
granted (Finishes own status) seq relayed.Nothing book told moves = absurd told
granted (Finishes own status) seq (relayed.Selecting id request) book told moves = absurd told
granted (Finishes own status) seq (relayed.Sent id request) book told moves = absurd told
granted (Finishes own status) seq (relayed.Finished id known) book told moves =
    subst (λ (n : ℕ). Has book.entries n (λ state. not (is_finished state))) told.0 moves.0

-- an entry that is past the step refuses it
past_refuses : (entries : List Entry) (step : Step) → IsPast entries step → IsRefused entries step
past_refuses entries Waits past = past
past_refuses entries (Selects id command) past = past
past_refuses entries (Operates id command) past = inr past
past_refuses entries (Finishes id status) past = inr past

-- so does one that is missing, where the book was asked
missing_refuses : (idle : Bool) (progress : Option Progress) (selected : Option Command) (entries : List Entry) (target : ℕ)
    → ((idle && asks_progress progress selected) ≡ false → ⊥) → IsSomeAnd progress (λ p. IsMissing entries p.id)
    → IsRefused entries (if idle then step_by progress selected entries target else Waits)
missing_refuses false progress selected entries target asked missing = absurd (asked refl)
missing_refuses true None selected entries target asked missing = absurd missing
missing_refuses true (Some p) selected entries target asked missing = by p.stage asked
  where
    by_selected : (b : Bool) → (b ≡ false → ⊥) → IsRefused entries (if b then Operates p.id p.command else Selects p.id p.command)
    by_selected true asked = inl missing
    by_selected false asked = absurd (asked refl)

    by : (stage : Stage) → (asks_stage selected p stage ≡ false → ⊥) → IsRefused entries (step_of_progress selected p stage)
    by (Known status) asked = inl missing
    by Selected asked = by_selected (is_selected selected p.command) asked
    by Selecting asked = absurd (asked refl)
    by Operating asked = absurd (asked refl)

-- the book refused for its entry
pub refused_step : (r : Relaying) (entries : List Entry) (target : ℕ) (fault : BookFault) → (asks_book r ≡ false → ⊥)
    → (fault ≡ NoControl) ⊎ (fault ≡ NotPending) → (fault ≡ NoControl → IsSomeAnd r.progress (λ p. IsMissing entries p.id))
    → (fault ≡ NotPending → IsPast entries (step_of r entries target)) → IsRefused entries (step_of r entries target)
refused_step r entries target fault asked which missing past =
    elim which [
      | inl is ↦ missing_refuses (is_idle r.master) r.progress r.master.selected entries target asked (missing is)
      | inr is ↦ past_refuses entries (step_of r entries target) (past is)
    ]

-- the book refused, and it was no reason to stop
pub refused_by : {A : Type 0} (answer : Result A BookFault) (result : Result (Unit {0}) Cause) (r : Relaying) (entries : List Entry) (target : ℕ)
    (X : Type 0) → OnOk result (IfErr answer (λ fault. (fault ≡ NoControl) ⊎ (fault ≡ NotPending))) → (asks_book r ≡ false → X × IsOk answer)
    → (answer ≡ Err NoControl → IsSomeAnd r.progress (λ p. IsMissing entries p.id)) → (answer ≡ Err NotPending → IsPast entries (step_of r entries target))
    → OnOk result (OnErr answer (IsRefused entries (step_of r entries target)))
refused_by answer (Err cause) r entries target X passed unasked missing past = tt
refused_by (Ok told) (Ok done) r entries target X passed unasked missing past = tt
refused_by (Err fault) (Ok done) r entries target X passed unasked missing past =
    refused_step r entries target fault (λ none. absurd (both_ways false refl (unasked none).1)) passed (λ is. missing (ap (λ (f : BookFault). Err f) is))
    (λ is. past (ap (λ (f : BookFault). Err f) is))

-- ---- what was answered

-- the book granted the step
pub granted_by : (answer : Result RelayedStep BookFault) (request : ArrayVec ℕ) (step : Step) (seq : ℕ) (book : Ledger)
    → IfOk answer (λ told. Tells seq step (with_request told request)) → IfOk answer (λ told. AreGranted book (moves_of (with_request told request)))
    → OnOk answer (IsGranted book.entries step)
granted_by (Ok told) request step seq book tells moves = granted step seq (with_request told request) book tells moves
granted_by (Err fault) request step seq book tells moves = tt

-- the step's request went down
pub down_by : (answer : Result RelayedStep BookFault) (request : ArrayVec ℕ) (step : Step) (seq : ℕ) (old mid new : ChannelState) → mid ≡ old
    → IfOk answer (λ told. Tells seq step (with_request told request))
    → IfOk answer (λ told. (s : Step) (n : ℕ) → Tells n s (with_request told request) → GoDown (requests_of s n) mid new)
    → OnOk answer (GoDown (requests_of step seq) old new)
down_by (Ok told) request step seq old mid new same tells sent = down_from (requests_of step seq) old mid new same (sent step seq tells)
down_by (Err fault) request step seq old mid new same tells sent = tt

-- what a step of relaying sends
abbrev pub Sends : Link → System → System → Type 0
Sends on old new =
    SendsDown on (requests_of (step_on old on) (relaying_at old on).master.seq) (relaying_after (relaying_at old on) old.now (step_on old on))
    (told old on (step_on old on)) new

-- a step of relaying, by what was answered
pub relays_by : {A : Type 0} (on : Link) (old new : System) (answer : Result A BookFault) (result : Result (Unit {0}) Cause)
    → OnOk answer (IsGranted (entries_on old on) (step_on old on)) → OnOk answer (Sends on old new)
    → OnErr answer (new ≡ old) → OnOk result (OnErr answer (IsRefused (entries_on old on) (step_on old on))) → OnOk result (RelaysOn on old new)
relays_by on old new answer (Err cause) granted sends unmoved refused = tt
relays_by on old new (Ok told) (Ok done) granted sends unmoved refused = Steps granted sends
relays_by on old new (Err fault) (Ok done) granted sends unmoved refused = Refuses refused unmoved

-- what stopped it changed nothing
pub stops_by : {A : Type 0} (answer : Result A BookFault) (result : Result (Unit {0}) Cause) (X : Type 0) → OnErr result (IsErr answer) → OnErr answer X
    → OnErr result X
stops_by answer (Ok done) X failed unmoved = tt
stops_by (Ok told) (Err cause) X failed unmoved = absurd (both_ways false refl failed)
stops_by (Err fault) (Err cause) X failed unmoved = unmoved

-- ---- the stations

-- the centre's link and its book become others
pub centre_with : {J B : Type 0} (archive : J → Archive) (ledger : B → Ledger) (old new : Centre J B) (link : Relaying) (orders : Ledger)
    → centre.link_of new ≡ link → ledger (centre.book_of new) ≡ orders → centre.journal_of new ≡ centre.journal_of old
    → centre.indices_of new ≡ centre.indices_of old → centre_of archive ledger new ≡ record (centre_of archive ledger old) { link = link; orders = orders }
centre_with archive ledger old new link orders link_is orders_is journal indices = cc

-- the concentrator's links and its book become others
pub concentrator_told : {Q A : Type 0} (buffer : Q → ℕ → EventBuffer) (ledger : A → Ledger) (old new : Concentrator Q A) (links : List Relaying)
    (controls : Ledger) → links_of new ≡ links → ledger (book_of new) ≡ controls → ForEach (λ centre. core_of centre new ≡ core_of centre old)
    → queue_of new ≡ queue_of old → indices_of new ≡ indices_of old → plan_above new ≡ plan_above old
    → concentrator_of buffer ledger new ≡ record (concentrator_of buffer ledger old) { links = links; controls = controls }
concentrator_told buffer ledger old new links controls links_is controls_is cores queue indices plan = cc (cores 0 (omega arith), cores 1 (omega arith))

-- the system with this concentrator and these substations
abbrev pub below : {Q A : Type 0} → (Q → ℕ → EventBuffer) → (A → Ledger) → Whole → Concentrator Q A → List Substation → Whole
below buffer ledger rest k xs = record rest { concentrator = concentrator_of buffer ledger k; substations = map substation_of xs }

-- what a step of relaying to a substation makes of the system, by what went down, as a centre sees it
pub sends_below : {Q A R : Type 0} (buffer : Q → ℕ → EventBuffer) (ledger : A → Ledger) (rest : Whole) (k d : Concentrator Q A) (substation i : ℕ)
    (xs : List Substation) (was : Substation) (lines : Channel) (answer : Result R BookFault) (number : ℕ) → i ≡ substation
    → has_link (below buffer ledger rest k xs) (Below substation) ≡ true → was ≡ get_or xs i was
    → OnOk answer (SetsLink k substation (relaying_after (link_at k substation) rest.now
    (step_of (link_at k substation) (ledger (book_of k)).entries substation)) d)
    → OnOk answer (ledger (book_of d) ≡ ledger_after (ledger (book_of k)) (step_of (link_at k substation) (ledger (book_of k)).entries substation))
    → ForEach (λ centre. core_of centre d ≡ core_of centre k) → queue_of d ≡ queue_of k → indices_of d ≡ indices_of k → plan_above d ≡ plan_above k
    → OnOk answer (GoDown (requests_of (step_of (link_at k substation) (ledger (book_of k)).entries substation) (link_at k substation).master.seq)
    (state_of was.channel) (state_of lines))
    → OnOk answer (Sends (Below substation) (seen_by number (below buffer ledger rest k xs))
    (seen_by number (below buffer ledger rest d (slice_set xs i (record was { channel = lines })))))
sends_below buffer ledger rest k d substation i xs was lines (Err fault) number same has at link book cores queue indices plan down = tt
sends_below buffer ledger rest k d substation i xs was lines (Ok answer) number same has at link book cores queue indices plan down =
    let old : System = seen_by number (below buffer ledger rest k xs) in
    let step : Step = step_on old (Below substation) in
    let first : System = with_relaying (told old (Below substation) step) (Below substation)
    (relaying_after (relaying_at old (Below substation)) old.now step) in
    sends_at substation i (requests_of step (relaying_at old (Below substation)).master.seq) first (seen_by number (below buffer ledger rest d xs)).concentrator
    xs was lines refl
    (ap (λ (m : WholeConcentrator). (seen_by number (record rest { concentrator = m })).concentrator)
    (concentrator_told buffer ledger k d first.concentrator.links first.concentrator.controls link book cores queue indices plan)) same
    (rw same (is_there old xs substation refl has)) at down

-- nothing was relayed, and nothing went down
pub unmoved_below : {Q A R : Type 0} (buffer : Q → ℕ → EventBuffer) (ledger : A → Ledger) (rest : Whole) (k d : Concentrator Q A) (substation i : ℕ)
    (xs : List Substation) (was : Substation) (lines : Channel) (answer : Result R BookFault) → i ≡ substation
    → has_link (below buffer ledger rest k xs) (Below substation) ≡ true → was ≡ get_or xs i was → OnErr answer (links_of d ≡ links_of k)
    → OnErr answer (ledger (book_of d) ≡ ledger (book_of k)) → ForEach (λ centre. core_of centre d ≡ core_of centre k) → queue_of d ≡ queue_of k
    → indices_of d ≡ indices_of k → plan_above d ≡ plan_above k → OnErr answer (state_of lines ≡ state_of was.channel)
    → OnErr answer (below buffer ledger rest d (slice_set xs i (record was { channel = lines })) ≡ below buffer ledger rest k xs)
unmoved_below buffer ledger rest k d substation i xs was lines (Ok answer) same has at links book cores queue indices plan lines_same = tt
unmoved_below buffer ledger rest k d substation i xs was lines (Err fault) same has at links book cores queue indices plan lines_same =
    let is : Substation = record was { channel = lines } in
    ap (λ (m : WholeConcentrator). record rest { concentrator = m; substations = map substation_of (slice_set xs i is) })
    (concentrator_told buffer ledger k d (links_of k) (ledger (book_of k)) links book cores queue indices plan)
    ∙ unchanged_at (below buffer ledger rest k xs) xs substation i was is refl same has at
    (ap (λ (c : ChannelState). record (substation_of was) { channel = c }) lines_same)

-- a step of relaying to a substation, as all see it, by what was answered
pub relays_below : {A : Type 0} (substation : ℕ) (old new : Whole) (answer : Result A BookFault) (result : Result (Unit {0}) Cause)
    → OnOk answer (IsGranted (entries_on (seen_by 0 old) (Below substation)) (step_on (seen_by 0 old) (Below substation)))
    → ((number : ℕ) → OnOk answer (Sends (Below substation) (seen_by number old) (seen_by number new))) → OnErr answer (new ≡ old)
    → OnOk result (OnErr answer (IsRefused (entries_on (seen_by 0 old) (Below substation)) (step_on (seen_by 0 old) (Below substation))))
    → OnOk result (ChangesAll None (RelaysOn (Below substation)) old new)
relays_below substation old new answer (Err cause) granted sends unmoved refused = tt
relays_below substation old new answer (Ok done) granted sends unmoved refused = λ number low.
    relays_by (Below substation) (seen_by number old) (seen_by number new) answer (Ok done) granted (sends number)
    (on_err_weaker answer (λ same. ap (seen_by number) same) unmoved) refused

-- what follows of a call's answer does where it is Ok
pub on_ok : {Answer Fault : Type 0} (result : Result Answer Fault) (X Y : Type 0) → (X → Y) → OnOk result X → OnOk result Y
on_ok (Ok done) X Y f x = f x
on_ok (Err fault) X Y f x = tt

-- what a step of relaying to the concentrator makes of the system
pub sends_above : {J B R : Type 0} (archive : J → Archive) (ledger : B → Ledger) (number : ℕ) (rest : System) (k d : Centre J B) (lines : ChannelState)
    (answer : Result R BookFault)
    → OnOk answer (centre.link_of d ≡ relaying_after (centre.link_of k) rest.now (step_of (centre.link_of k) (ledger (centre.book_of k)).entries 0))
    → OnOk answer (ledger (centre.book_of d) ≡ ledger_after (ledger (centre.book_of k)) (step_of (centre.link_of k) (ledger (centre.book_of k)).entries 0))
    → centre.journal_of d ≡ centre.journal_of k → centre.indices_of d ≡ centre.indices_of k
    → OnOk answer (GoDown (requests_of (step_of (centre.link_of k) (ledger (centre.book_of k)).entries 0) (centre.link_of k).master.seq) rest.above lines)
    → OnOk answer (Sends (Above number) (record rest { centre = centre_of archive ledger k })
    (record rest { centre = centre_of archive ledger d; above = lines }))
sends_above archive ledger number rest k d lines (Err fault) link book journal indices down = tt
sends_above archive ledger number rest k d lines (Ok answer) link book journal indices down =
    let step : Step = step_of (centre.link_of k) (ledger (centre.book_of k)).entries 0 in (
      down,
      ap (λ (m : CentreState). record rest { centre = m; above = lines })
          (centre_with archive ledger k d (relaying_after (centre.link_of k) rest.now step) (ledger_after (ledger (centre.book_of k)) step) link
          book journal indices),
    )

pub unmoved_above : {J B R : Type 0} (archive : J → Archive) (ledger : B → Ledger) (rest : System) (k d : Centre J B) (lines : ChannelState)
    (answer : Result R BookFault) → OnErr answer (centre.link_of d ≡ centre.link_of k)
    → OnErr answer (ledger (centre.book_of d) ≡ ledger (centre.book_of k)) → centre.journal_of d ≡ centre.journal_of k
    → centre.indices_of d ≡ centre.indices_of k → OnErr answer (lines ≡ rest.above)
    → OnErr answer (record rest { centre = centre_of archive ledger d; above = lines } ≡ record rest { centre = centre_of archive ledger k })
unmoved_above archive ledger rest k d lines (Ok answer) link book journal indices same = tt
unmoved_above archive ledger rest k d lines (Err fault) link book journal indices same =
    ap (λ (c : ChannelState). record rest { centre = centre_of archive ledger d; above = c }) same
    ∙ ap (λ (m : CentreState). record rest { centre = m })
    (centre_with archive ledger k d (centre.link_of k) (ledger (centre.book_of k)) link book journal indices)
