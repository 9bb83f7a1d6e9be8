-- Calls of a system's stations, as each centre sees what they make of it.
use Rattle.std.proofs.Common.{◌≡◌, ℕ, ◌<◌, Bool, true, false, List, [], None, Some, refl, sym, ap, ◌∙◌, subst, map, slice_set}
use Rattle.std.specs.Prelude.{if◌then◌else◌}
use Rattle.dnp_concentrator.specs.Below.{link_in}
use Rattle.dnp_concentrator.specs.BookOutputs.{book_in, map_in}
use Rattle.dnp_concentrator.specs.Centre as centre
use Rattle.dnp_concentrator.specs.Concentrator.{above_of, core_of, links_of, outputs_of, plan_above, queue_of, without_link}
use Rattle.dnp_concentrator.specs.Relaying as relaying
use Rattle.dnp_concentrator.specs.PerCentre.{at, of_each, with_at}
use Rattle.dnp_concentrator.specs.declared.book_outputs.BookOutputs.{BookOutputs}
use Rattle.dnp_concentrator.specs.declared.centre.Centre.{Centre}
use Rattle.dnp_concentrator.specs.declared.concentrator.Concentrator.{Concentrator}
use Rattle.dnp_concentrator.specs.declared.per_centre.PerCentre.{PerCentre}
use Rattle.dnp_controls.specs.Book.{Ledger}
use Rattle.dnp_eventbuf.specs.Archive.{Archive}
use Rattle.dnp_eventbuf.specs.Sides.{ForEach, other_than}
use Rattle.dnp_eventbuf.specs.EventBuffer.{EventBuffer}
use Rattle.dnp_eventbuf.specs.declared.pair.TheConstants.{CENTRES}
use Rattle.dnp_master.specs.State as master
use Rattle.dnp_outstation.specs.Calls.{opened_of, restarted_core, tick_of}
use Rattle.dnp_outstation.specs.Connection.{closed}
use Rattle.dnp_outstation.specs.State.{Actions, Step}
use Rattle.dnp_pointdb.specs.Plan as points
use Rattle.dnp_world.specs.Centres.{ChangesAll}
use Rattle.dnp_world.specs.Channels.{ChannelState, GoUp, cleared, hung_up_at, state_of}
use Rattle.dnp_world.specs.SystemEvents.{HangsUpOn, MasterTicks, MiddleSteps, OpensOn, OutstationTicks, concentrator_restarted, master_gone, with_centre_link, with_link, with_lost}
use Rattle.dnp_world.specs.SystemParts.{centre_of, concentrator_of}
use Rattle.dnp_world.specs.Systems.{CentreState, ConcentratorState, SubstationState, System, link_at}
use Rattle.dnp_world.specs.Wholes.{Whole, WholeConcentrator, seen_by}
use Rattle.dnp_world.specs.declared.channel.Channel.{Channel}
use Rattle.dnp_world.specs.declared.event.Link.TheVariants.{Above, Below}
use Rattle.dnp_world.specs.declared.link_event.End.TheVariants.{Master, Outstation}
use Rattle.dnp_world.proofs.CentrePlaces.{StaysApart, both_seen, centre_there, link_there, middle_seen, middle_there, middle_view, own_there}
use Rattle.dnp_world.proofs.PerCentre.{at_every, for_others, seen_alike, seen_there}
use Rattle.dnp_world.proofs.SystemPlaces.{concentrator_with}
use Rattle.dnp_world.proofs.SystemComing.{Follows, stays_apart, stepped}

-- ---- of a centre

-- the centre with its link so, and nothing else
abbrev pub Relinked : {J B : Type 0} → (J → Archive) → (B → Ledger) → Centre J B → relaying.Relaying → Centre J B → Type 0
Relinked archive orders was link k = centre_of archive orders k ≡ record (centre_of archive orders was) { link = link }

pub ticks_at_centre : {J B : Type 0} (archive : J → Archive) (orders : B → Ledger) (n : ℕ) → n < CENTRES → (rest : Whole) (centres : PerCentre (Centre J B))
    (was k : Centre J B) → was ≡ at n centres → Relinked archive orders was (relaying.ticked (centre.link_of was) rest.now) k
    → ChangesAll (Some n) (MasterTicks (Above n)) (record rest { centres = of_each (centre_of archive orders) centres })
    (record rest { centres = of_each (centre_of archive orders) (with_at n centres k) })
ticks_at_centre archive orders n low rest centres was k there ticked =
    centre_there archive orders n low (MasterTicks (Above n)) rest centres was k there
    (ap (λ (m : CentreState). record (seen_by n rest) { centre = m }) ticked)

pub hangs_up_at_centre : {J B : Type 0} (archive : J → Archive) (orders : B → Ledger) (n : ℕ) → n < CENTRES → (rest : Whole) (centres : PerCentre (Centre J B))
    (above : PerCentre Channel) (was k : Centre J B) (before lines : Channel) → was ≡ at n centres → before ≡ at n above
    → Relinked archive orders was (relaying.hung_up (centre.link_of was)) k → state_of lines ≡ hung_up_at Master (state_of before)
    → ChangesAll (Some n) (HangsUpOn (Above n) Master) (record rest { centres = of_each (centre_of archive orders) centres; above = of_each state_of above })
    (record rest { centres = of_each (centre_of archive orders) (with_at n centres k); above = of_each state_of (with_at n above lines) })
hangs_up_at_centre archive orders n low rest centres above was k before lines there lines_there gone hung =
    own_there archive orders n low (HangsUpOn (Above n) Master) rest centres above was k before lines there lines_there
    (cc)

-- ---- of the concentrator, where it serves a centre

pub hangs_up_at_middle : {Q A : Type 0} (buffer : Q → ℕ → EventBuffer) (ledger : A → Ledger) (n : ℕ) → n < CENTRES → (rest : Whole) (c d : Concentrator Q A)
    (above : PerCentre Channel) (before lines : Channel) → before ≡ at n above → core_of n d ≡ closed (core_of n c)
    → core_of (other_than n) d ≡ core_of (other_than n) c → queue_of d ≡ queue_of c → outputs_of d ≡ outputs_of c → links_of d ≡ links_of c
    → plan_above d ≡ plan_above c → state_of lines ≡ hung_up_at Outstation (state_of before)
    → ChangesAll (Some n) (HangsUpOn (Above n) Outstation) (record rest { concentrator = concentrator_of buffer ledger c; above = of_each state_of above })
    (record rest { concentrator = concentrator_of buffer ledger d; above = of_each state_of (with_at n above lines) })
hangs_up_at_middle {Q} {A} buffer ledger n low rest c d above before lines there core other queue outputs links plan hung =
    let is : ConcentratorState = middle_view buffer ledger n d in
    let was : ConcentratorState = record (middle_view buffer ledger n c) { core = closed (core_of n c) } in
    let closes : is ≡ was = cc in
    let stays : StaysApart buffer ledger n [] c d = record {
      cores = for_others (λ m. core_of m d ≡ core_of m c) n low other;
      queues = λ m few apart. ap (λ (q : Q). buffer q m) queue;
      indices = ap (λ (o : BookOutputs A). map_in o) outputs;
      points = plan;
      controls = ap (λ (o : BookOutputs A). ledger (book_in o)) outputs;
      links = links;
    } in
    middle_there buffer ledger n low (HangsUpOn (Above n) Outstation) rest c d [] stays above before lines there
    (cc closes)

pub ticks_at_middle : {Q A : Type 0} (honest : Q → Type 0) (buffer : Q → ℕ → EventBuffer) (ledger : A → Ledger) (n : ℕ) → n < CENTRES → (rest : Whole)
    (c d : Concentrator Q A) → honest (queue_of d) → Follows honest buffer ledger n c d [] → (does : Actions)
    → tick_of (above_of buffer ledger n c) rest.now ≡ record { state = above_of buffer ledger n d; does = does } → (above : PerCentre Channel)
    (before lines : Channel) → before ≡ at n above → GoUp does.send (state_of before) (state_of lines)
    → ChangesAll (Some n) (OutstationTicks (Above n)) (record rest { concentrator = concentrator_of buffer ledger c; above = of_each state_of above })
    (record rest { concentrator = concentrator_of buffer ledger d; above = of_each state_of (with_at n above lines) })
ticks_at_middle honest buffer ledger n low rest c d is follows does step_is above before lines there up =
    middle_there buffer ledger n low (OutstationTicks (Above n)) rest c d [] (stays_apart honest buffer ledger n low c d [] is follows) above before lines there
    (subst (λ (step : Step). MiddleSteps step [] (state_of before) (middle_seen buffer ledger n rest c before) (middle_seen buffer ledger n rest d lines))
    (sym step_is)
    (record {
      sent = up;
      after = ap (λ (k : ConcentratorState). record (seen_by n rest) { concentrator = k; above = state_of lines })
          (stepped buffer ledger n c d (above_of buffer ledger n d) [] refl follows.0 follows.1.core follows.1.links follows.1.plan);
    }))

pub opens_above : {Q J A B : Type 0} (honest : Q → Type 0) (buffer : Q → ℕ → EventBuffer) (archive : J → Archive) (ledger : A → Ledger) (orders : B → Ledger)
    (n : ℕ) → n < CENTRES → (rest : Whole) (c d : Concentrator Q A) → honest (queue_of d) → Follows honest buffer ledger n c d [] → (does : Actions)
    → opened_of (above_of buffer ledger n c) rest.now ≡ record { state = above_of buffer ledger n d; does = does } → (centres : PerCentre (Centre J B))
    (above : PerCentre Channel) (was k : Centre J B) (before lines : Channel) → was ≡ at n centres → before ≡ at n above
    → GoUp does.send (cleared (state_of before)) (state_of lines) → Relinked archive orders was (relaying.opened (centre.link_of was)) k
    → ChangesAll (Some n) (OpensOn (Above n))
    (record rest {
      concentrator = concentrator_of buffer ledger c;
      centres = of_each (centre_of archive orders) centres;
      above = of_each state_of above;
    })
    (record rest {
      concentrator = concentrator_of buffer ledger d;
      centres = of_each (centre_of archive orders) (with_at n centres k);
      above = of_each state_of (with_at n above lines);
    })
opens_above honest buffer archive ledger orders n low rest c d is follows does step_is centres above was k before lines there lines_there up opened =
    let first : System = with_centre_link (both_seen buffer archive ledger orders n rest c was before) (relaying.opened (centre.link_of was)) in
    let new : System = both_seen buffer archive ledger orders n rest d k lines in
    link_there buffer archive ledger orders n low (OpensOn (Above n)) rest c d [] (stays_apart honest buffer ledger n low c d [] is follows) centres above was k
    before lines there lines_there
    (subst (λ (step : Step). MiddleSteps step [] (cleared (state_of before)) first new) (sym step_is)
    (record {
      sent = up;
      after = ap (λ (m : ConcentratorState). record new { concentrator = m })
          (stepped buffer ledger n c d (above_of buffer ledger n d) [] refl follows.0 follows.1.core follows.1.links follows.1.plan)
          ∙ ap (λ (m : CentreState). record new {
            concentrator = record (middle_view buffer ledger n c) {
              core = (above_of buffer ledger n d).core;
              queue = (above_of buffer ledger n d).lanes;
            };
            centre = m;
          }) opened;
    }))

-- ---- of the concentrator, for all

pub restarts_all : {Q A : Type 0} (buffer : Q → ℕ → EventBuffer) (ledger : A → Ledger) (rest : Whole) (c d : Concentrator Q A)
    (substations : List SubstationState) (above last : PerCentre Channel) → ForEach (λ n. core_of n d ≡ restarted_core (core_of n c))
    → queue_of d ≡ queue_of c → outputs_of d ≡ outputs_of c → links_of d ≡ map relaying.hung_up (links_of c)
    → plan_above d ≡ plan_above c → substations ≡ map master_gone rest.substations
    → ForEach (λ n. state_of (at n last) ≡ hung_up_at Outstation (state_of (at n above)))
    → ChangesAll None (λ s t. t ≡ concentrator_restarted s) (record rest { concentrator = concentrator_of buffer ledger c; above = of_each state_of above })
    (record rest { substations = substations; concentrator = concentrator_of buffer ledger d; above = of_each state_of last })
restarts_all {Q} {A} buffer ledger rest c d substations above last cores queue outputs links plan gone hung =
    let was : WholeConcentrator = concentrator_of buffer ledger c in
    let is : WholeConcentrator = concentrator_of buffer ledger d in
    let to : WholeConcentrator = record was { cores = of_each restarted_core was.cores; links = map relaying.hung_up was.links } in
    let same : is ≡ to =
    concentrator_with buffer ledger c d restarted_core (map relaying.hung_up (links_of c)) cores links
    (record { queue = queue; outputs = outputs; plan = plan }) in
    let lines : of_each state_of last ≡ of_each (hung_up_at Outstation) (of_each state_of above) =
    seen_alike (of_each state_of above) (of_each state_of last) (hung_up_at Outstation)
    (λ n low. seen_there state_of n last ∙ hung n low ∙ ap (hung_up_at Outstation) (sym (seen_there state_of n above))) in
    let new : List SubstationState → WholeConcentrator → PerCentre ChannelState → Whole = λ ys k l. record rest {
      substations = ys;
      concentrator = k;
      above = l;
    } in
    let all : new substations is (of_each state_of last)
    ≡ new (map master_gone rest.substations) to (of_each (hung_up_at Outstation) (of_each state_of above)) = cc (gone, same, lines) in
    at_every _ (ap (seen_by 0) all) (ap (seen_by 1) all)

-- its master of a substation looks at its timer
abbrev ticked_below : ℕ → Whole → Bool → WholeConcentrator
ticked_below substation old timed_out = record old.concentrator {
  cores = of_each (λ core. if timed_out then without_link core substation else core) old.concentrator.cores;
  links = slice_set old.concentrator.links substation (relaying.ticked (link_in old.concentrator.links substation) old.now);
}

abbrev ticked_seen : ℕ → ℕ → Whole → Bool → System
ticked_seen n substation old timed_out =
    let s = seen_by n old in
    let ticked = with_link s substation (relaying.ticked (link_at s.concentrator substation) s.now) in
    if timed_out then with_lost ticked substation else ticked

pub ticks_below : (substation : ℕ) (old : Whole) (middle : WholeConcentrator) (timed_out : Bool)
    → timed_out ≡ master.is_timed_out (link_in old.concentrator.links substation).master old.now → middle ≡ ticked_below substation old timed_out
    → ChangesAll None (MasterTicks (Below substation)) old (record old { concentrator = middle })
ticks_below substation old middle timed_out closes is = λ n low.
    subst (λ (b : Bool). seen_by n (record old { concentrator = middle }) ≡ ticked_seen n substation old b) closes
    (ap (λ (k : WholeConcentrator). seen_by n (record old { concentrator = k })) is ∙ as_seen timed_out n low)
  where
    as_seen : (b : Bool) → ForEach (λ n. seen_by n (record old { concentrator = ticked_below substation old b }) ≡ ticked_seen n substation old b)
    as_seen true = at_every _ refl refl
    as_seen false = at_every _ refl refl
