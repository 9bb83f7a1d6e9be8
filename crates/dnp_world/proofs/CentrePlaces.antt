-- One centre of a whole system, where its things stand: what was written there, as each centre sees it.
use Rattle.std.proofs.Common.{◌≡◌, ◌==◌, ℕ, ◌<◌, true, false, List, [], ◌++◌, Some, refl, ap, ap₂, append-nil}
use Rattle.std.proofs.lemmas.Bool.{and_parts, ltb-true}
use Rattle.std.specs.Prelude.{nat_lt}
use Rattle.dnp_concentrator.specs.BookOutputs.{all_added}
use Rattle.dnp_concentrator.specs.Concentrator.{book_of, core_of, indices_of, links_of, plan_above, queue_of, reserved_above}
use Rattle.dnp_concentrator.specs.PerCentre.{at, of_each, with_at}
use Rattle.dnp_concentrator.specs.declared.centre.Centre.{Centre}
use Rattle.dnp_concentrator.specs.declared.concentrator.Concentrator.{Concentrator}
use Rattle.dnp_concentrator.specs.declared.per_centre.PerCentre.{PerCentre}
use Rattle.dnp_controls.specs.Book.{Ledger}
use Rattle.dnp_eventbuf.specs.Archive.{Archive}
use Rattle.dnp_eventbuf.specs.Sides.{ForEach}
use Rattle.dnp_eventbuf.specs.EventBuffer.{EventBuffer}
use Rattle.dnp_eventbuf.specs.declared.pair.TheConstants.{CENTRES}
use Rattle.dnp_objects.specs.declared.command.Command.{Command}
use Rattle.dnp_pointdb.specs.Plan as points
use Rattle.dnp_world.specs.Centres.{ChangesAll, SeesElsewhere, has_link}
use Rattle.dnp_world.specs.Channels.{ChannelState, state_of}
use Rattle.dnp_world.specs.SystemEvents.{LinesChange}
use Rattle.dnp_world.specs.SystemParts.{centre_of, concentrator_of}
use Rattle.dnp_world.specs.Systems.{CentreState, ConcentratorState, System}
use Rattle.dnp_world.specs.Wholes.{Whole, seen_by}
use Rattle.dnp_world.specs.declared.channel.Channel.{Channel}
use Rattle.dnp_world.specs.declared.event.Link.TheVariants.{Above}
use Rattle.dnp_world.proofs.EachCentre.{done_at}
use Rattle.dnp_world.proofs.PerCentre.{at_every, seen_elsewhere, seen_here, seen_was}
use Rattle.dnp_world.proofs.Seen.{sees_same}

-- ---- what is seen there

-- the concentrator as a centre sees it
abbrev pub middle_view : {Q A : Type 0} → (Q → ℕ → EventBuffer) → (A → Ledger) → ℕ → Concentrator Q A → ConcentratorState
middle_view buffer ledger n c = record {
  core = core_of n c;
  queue = buffer (queue_of c) n;
  indices = indices_of c;
  points = plan_above c;
  controls = ledger (book_of c);
  reserved = reserved_above n c;
  links = links_of c;
}

abbrev pub centre_view : {J B : Type 0} → (J → Archive) → (B → Ledger) → ℕ → Whole → Centre J B → Channel → System
centre_view archive orders n rest k lines = record (seen_by n rest) { centre = centre_of archive orders k; above = state_of lines }

abbrev pub middle_seen : {Q A : Type 0} → (Q → ℕ → EventBuffer) → (A → Ledger) → ℕ → Whole → Concentrator Q A → Channel → System
middle_seen buffer controls n rest c lines =
    record (seen_by n rest) { concentrator = middle_view buffer controls n c; above = state_of lines }

abbrev pub both_seen : {Q J A B : Type 0} → (Q → ℕ → EventBuffer) → (J → Archive) → (A → Ledger) → (B → Ledger) → ℕ → Whole → Concentrator Q A
    → Centre J B → Channel → System
both_seen buffer archive controls orders n rest c k lines =
    record (seen_by n rest) { concentrator = middle_view buffer controls n c; centre = centre_of archive orders k; above = state_of lines }

-- what a whole with this concentrator is to a centre
pub middle_there_seen : {Q A : Type 0} (buffer : Q → ℕ → EventBuffer) (ledger : A → Ledger) (rest : Whole) (c : Concentrator Q A)
    → ForEach (λ n. seen_by n (record rest { concentrator = concentrator_of buffer ledger c })
    ≡ record (seen_by n rest) { concentrator = middle_view buffer ledger n c })
middle_there_seen buffer ledger rest c = at_every _ refl refl

-- ---- what stands at other centres

-- What a call for one centre leaves of the concentrator, as another sees it: the book has these commands more.
pub record StaysApart {Q A : Type 0} (buffer : Q → ℕ → EventBuffer) (ledger : A → Ledger) (n : ℕ) (commands : List Command) (c d : Concentrator Q A) : Type 0
  where
    pub cores : ForEach (λ m. (n == m) ≡ false → core_of m d ≡ core_of m c)
    pub queues : ForEach (λ m. (n == m) ≡ false → buffer (queue_of d) m ≡ buffer (queue_of c) m)
    pub indices : indices_of d ≡ indices_of c
    pub points : plan_above d ≡ plan_above c
    pub controls : ledger (book_of d) ≡ all_added (indices_of c) (ledger (book_of c)) commands
    pub links : links_of d ≡ links_of c

-- so another one sees it
apart_seen : {Q A : Type 0} (buffer : Q → ℕ → EventBuffer) (ledger : A → Ledger) (n : ℕ) (commands : List Command) (c d : Concentrator Q A) (rest : System)
    → StaysApart buffer ledger n commands c d → (m : ℕ) → m < CENTRES → (n == m) ≡ false
    → (let see = middle_view buffer ledger m in SeesElsewhere (record rest { concentrator = see c }) (record rest { concentrator = see d }))
apart_seen buffer ledger n commands c d rest stays m few apart = record {
  commands = commands;
  issues = [];
  after = rw append-nil (cc (stays.cores m few apart, stays.queues m few apart, stays.indices, stays.points, stays.controls, stays.links));
}

-- ---- nothing was written

pub rests_there : (n : ℕ) → n < CENTRES → (Change : System → System → Type 0) (w : Whole) → Change (seen_by n w) (seen_by n w)
    → ChangesAll (Some n) Change w w
rests_there n low Change w rests = done_at n Change w w rests (λ m few apart. sees_same _ _ refl)

-- the centre of a link that there is
pub low_of : (n : ℕ) (w : Whole) → has_link w (Above n) ≡ true → n < CENTRES
low_of n w has = ltb-true n CENTRES (and_parts (nat_lt n CENTRES) true has).0

-- ---- what was written at one centre

-- the lines
pub lines_change_above : (n : ℕ) → n < CENTRES → (Change : ChannelState → ChannelState → Type 0) (rest : Whole) (above : PerCentre Channel)
    (was lines : Channel) → was ≡ at n above → Change (state_of was) (state_of lines)
    → ChangesAll (Some n) (LinesChange (Above n) Change) (record rest { above = of_each state_of above })
    (record rest { above = of_each state_of (with_at n above lines) })
lines_change_above n low Change rest above was lines there changed =
    done_at n (LinesChange (Above n) Change) _ _ (rw (seen_was state_of n above was there, seen_here state_of n low above lines) (changed, refl))
    (λ m few apart. sees_same _ _
    (ap (λ (l : ChannelState). record (seen_by m rest) { above = l }) (seen_elsewhere state_of n low above lines m few apart)))

-- the centre
pub centre_there : {J B : Type 0} (archive : J → Archive) (orders : B → Ledger) (n : ℕ) → n < CENTRES → (Change : System → System → Type 0) (rest : Whole)
    (centres : PerCentre (Centre J B)) (was k : Centre J B) → was ≡ at n centres
    → Change (record (seen_by n rest) { centre = centre_of archive orders was }) (record (seen_by n rest) { centre = centre_of archive orders k })
    → ChangesAll (Some n) Change (record rest { centres = of_each (centre_of archive orders) centres })
    (record rest { centres = of_each (centre_of archive orders) (with_at n centres k) })
centre_there archive orders n low Change rest centres was k there changed =
    let see = centre_of archive orders in
    done_at n Change _ _ (rw (seen_was see n centres was there, seen_here see n low centres k) changed)
    (λ m few apart. sees_same _ _
    (ap (λ (c : CentreState). record (seen_by m rest) { centre = c }) (seen_elsewhere see n low centres k m few apart)))

-- the centre and its lines
pub own_there : {J B : Type 0} (archive : J → Archive) (orders : B → Ledger) (n : ℕ) → n < CENTRES → (Change : System → System → Type 0) (rest : Whole)
    (centres : PerCentre (Centre J B)) (above : PerCentre Channel) (was k : Centre J B) (before lines : Channel) → was ≡ at n centres → before ≡ at n above
    → Change (centre_view archive orders n rest was before) (centre_view archive orders n rest k lines)
    → ChangesAll (Some n) Change (record rest { centres = of_each (centre_of archive orders) centres; above = of_each state_of above })
    (record rest { centres = of_each (centre_of archive orders) (with_at n centres k); above = of_each state_of (with_at n above lines) })
own_there archive orders n low Change rest centres above was k before lines there lines_there changed =
    let see = centre_of archive orders in
    done_at n Change _ _
    (rw (seen_was see n centres was there, seen_here see n low centres k, seen_was state_of n above before lines_there, seen_here state_of n low above lines)
    changed)
    (λ m few apart. sees_same _ _
    (ap₂ (λ (c : CentreState) (l : ChannelState). record (seen_by m rest) { centre = c; above = l })
    (seen_elsewhere see n low centres k m few apart) (seen_elsewhere state_of n low above lines m few apart)))

-- the centre, which has issued commands
pub issued_there : {J B : Type 0} (archive : J → Archive) (orders : B → Ledger) (n : ℕ) → n < CENTRES → (Change : System → System → Type 0) (rest : Whole)
    (centres : PerCentre (Centre J B)) (was k : Centre J B) (issues : List (ℕ × Command)) → was ≡ at n centres
    → Change (record (seen_by n rest) { centre = centre_of archive orders was })
    (let s = seen_by n rest in record s { centre = centre_of archive orders k; history = record s.history { issued = s.history.issued ++ issues } })
    → ChangesAll (Some n) Change (record rest { centres = of_each (centre_of archive orders) centres }) (record rest {
      centres = of_each (centre_of archive orders) (with_at n centres k);
      history = record rest.history { issued = rest.history.issued ++ issues };
    })
issued_there archive orders n low Change rest centres was k issues there changed =
    let see = centre_of archive orders in
    done_at n Change _ _ (rw (seen_was see n centres was there, seen_here see n low centres k) changed)
    (λ m few apart. record {
      commands = [];
      issues = issues;
      after = ap (λ (c : CentreState). let s = seen_by m rest in record s {
        centre = c;
        history = record s.history { issued = s.history.issued ++ issues };
      }) (seen_elsewhere see n low centres k m few apart);
    })

-- the concentrator where it serves the centre, and the lines between them
pub middle_there : {Q A : Type 0} (buffer : Q → ℕ → EventBuffer) (controls : A → Ledger) (n : ℕ) → n < CENTRES
    → (Change : System → System → Type 0) (rest : Whole)
    (c d : Concentrator Q A) (commands : List Command) → StaysApart buffer controls n commands c d → (above : PerCentre Channel) (before lines : Channel)
    → before ≡ at n above → Change (middle_seen buffer controls n rest c before) (middle_seen buffer controls n rest d lines)
    → ChangesAll (Some n) Change (record rest { concentrator = concentrator_of buffer controls c; above = of_each state_of above })
    (record rest { concentrator = concentrator_of buffer controls d; above = of_each state_of (with_at n above lines) })
middle_there buffer controls n low Change rest c d commands stays above before lines there changed =
    let was : Whole = record rest { above = of_each state_of above } in
    let is : Whole = record rest { above = of_each state_of (with_at n above lines) } in
    done_at n Change _ _
    (rw (
      middle_there_seen buffer controls was c n low,
      middle_there_seen buffer controls is d n low,
      seen_was state_of n above before there,
      seen_here state_of n low above lines,
    ) changed)
    (λ m few apart.
    rw (middle_there_seen buffer controls was c m few, middle_there_seen buffer controls is d m few, seen_elsewhere state_of n low above lines m few apart)
    (apart_seen buffer controls n commands c d (seen_by m was) stays m few apart))

-- all three
pub link_there : {Q J A B : Type 0} (buffer : Q → ℕ → EventBuffer) (archive : J → Archive) (controls : A → Ledger) (orders : B → Ledger) (n : ℕ) → n < CENTRES
    → (Change : System → System → Type 0) (rest : Whole) (c d : Concentrator Q A) (commands : List Command) → StaysApart buffer controls n commands c d
    → (centres : PerCentre (Centre J B)) (above : PerCentre Channel) (was k : Centre J B) (before lines : Channel) → was ≡ at n centres → before ≡ at n above
    → Change (both_seen buffer archive controls orders n rest c was before) (both_seen buffer archive controls orders n rest d k lines)
    → ChangesAll (Some n) Change
    (record rest {
      concentrator = concentrator_of buffer controls c;
      centres = of_each (centre_of archive orders) centres;
      above = of_each state_of above;
    })
    (record rest {
      concentrator = concentrator_of buffer controls d;
      centres = of_each (centre_of archive orders) (with_at n centres k);
      above = of_each state_of (with_at n above lines);
    })
link_there buffer archive controls orders n low Change rest c d commands stays centres above was k before lines there lines_there changed =
    let see = centre_of archive orders in
    let old : Whole = record rest { centres = of_each see centres; above = of_each state_of above } in
    let new : Whole = record rest { centres = of_each see (with_at n centres k); above = of_each state_of (with_at n above lines) } in
    done_at n Change _ _
    (rw (
      middle_there_seen buffer controls old c n low,
      middle_there_seen buffer controls new d n low,
      seen_was see n centres was there,
      seen_here see n low centres k,
      seen_was state_of n above before lines_there,
      seen_here state_of n low above lines,
    ) changed)
    (λ m few apart.
    rw (
      middle_there_seen buffer controls old c m few,
      middle_there_seen buffer controls new d m few,
      seen_elsewhere see n low centres k m few apart,
      seen_elsewhere state_of n low above lines m few apart,
    )
    (apart_seen buffer controls n commands c d (seen_by m old) stays m few apart))
