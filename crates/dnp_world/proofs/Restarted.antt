-- A concentrator and a centre over what their stores hold after a stop are those that a restart leaves.
use Rattle.std.proofs.Common.{◌≡◌, ◌<◌, ◌⊎◌, ℕ, List, [], ◌∷◌, map, refl, sym, ap₂, ◌∙◌, subst, inl, inr, arith}
use Rattle.dnp_concentrator.specs.Relaying.{hung_up}
use Rattle.dnp_concentrator.specs.PerCentre.{at, for_each, of_each, with_at}
use Rattle.dnp_concentrator.specs.declared.plan.Plan.{Plan}
use Rattle.dnp_concentrator.specs.declared.per_centre.PerCentre.{PerCentre}
use Rattle.dnp_controls.specs.Book.{Ledger}
use Rattle.dnp_eventbuf.specs.Archive.{Archive}
use Rattle.dnp_eventbuf.specs.Sides.{ForEach}
use Rattle.dnp_eventbuf.specs.EventBuffer.{EventBuffer}
use Rattle.dnp_eventbuf.specs.declared.pair.TheConstants.{CENTRES}
use Rattle.dnp_outstation.specs.Calls.{restarted_core}
use Rattle.dnp_world.specs.Centres.{HappensToAll, SeesElsewhere, centre_at}
use Rattle.dnp_world.specs.Channels.{ChannelState, hung_up_at}
use Rattle.dnp_world.specs.FreshSystems.{fresh_core}
use Rattle.dnp_world.specs.Reopened.{AllRestartAsNew, AllWriteOne, CentreWritesOne, HoldsEither, RestartAsNew, StandsRestarted, WriteOne, WritesOne, new_centre, new_concentrator}
use Rattle.dnp_world.specs.SystemEvents.{master_gone}
use Rattle.dnp_world.specs.SystemRuns.{Happens, RunsTo}
use Rattle.dnp_world.specs.Systems.{CentreState, ConcentratorState, System}
use Rattle.dnp_world.specs.Wholes.{Whole, seen_by}
use Rattle.dnp_world.specs.declared.event.Event.{Event}
use Rattle.dnp_world.specs.declared.event.Event.TheVariants as event
use Rattle.dnp_world.specs.declared.event.Place.{Place}
use Rattle.dnp_world.specs.declared.event.Place.TheVariants as place
use Rattle.dnp_world.specs.declared.link_event.End.TheVariants as end
use Rattle.dnp_world.proofs.EachCentre.{done_at, to_each}
use Rattle.dnp_world.proofs.PerCentre.{any_or_each, at_every, made_there, same_each, seen_there, written_elsewhere, written_here}
use Rattle.dnp_world.proofs.Seen.{own_there, sees_same}
use Rattle.dnp_world.proofs.SystemRounds.{runs_joined}

-- ---- an event, of the whole

-- places as they were
pub same_middle : (c : ConcentratorState) → WritesOne c c
same_middle c = record { above = refl; below = refl; indices = refl; points = refl; one = inl refl }

pub same_centre : (c : CentreState) → CentreWritesOne c c
same_centre c = record { link = refl; indices = refl; one = inl refl }

pub nothing_written : (s : System) → WriteOne s s
nothing_written s = record { concentrator = same_middle s.concentrator; centre = same_centre s.centre }

-- what is elsewhere writes the concentrator's book at most
elsewhere_writes : (old new : System) → SeesElsewhere old new → WriteOne old new
elsewhere_writes old new x = record {
  concentrator = subst (λ (s : System). WritesOne old.concentrator s.concentrator) (sym x.after)
      (record { above = refl; below = refl; indices = refl; points = refl; one = inl refl });
  centre = subst (λ (s : System). CentreWritesOne old.centre s.centre) (sym x.after) (same_centre old.centre);
}

-- the queue for each centre is the same, or the book is
queues_or_book : {A B : Type 0} (old new : PerCentre A) (was is : B) → ForEach (λ n. (at n new ≡ at n old) ⊎ (is ≡ was)) → (new ≡ old) ⊎ (is ≡ was)
queues_or_book {A} {B} old new was is one = by (any_or_each (λ n. at n new ≡ at n old) (is ≡ was) one)
  where
    by : ForEach (λ n. at n new ≡ at n old) ⊎ (is ≡ was) → (new ≡ old) ⊎ (is ≡ was)
    by (inl same) = inl (same_each new old same)
    by (inr same) = inr same

abbrev pub WritesLaw : Type 0
WritesLaw = (old new : System) (event : Event) → Happens old event new → WriteOne old new

pub all_write : WritesLaw → (old new : Whole) (event : Event) → HappensToAll old event new → AllWriteOne old new
all_write law old new e h =
    let seen : ForEach (λ n. WriteOne (seen_by n old) (seen_by n new)) =
    to_each (λ n. WriteOne (seen_by n old) (seen_by n new)) (λ s t. Happens s e t) (centre_at e) old new
    (λ n happens. law (seen_by n old) (seen_by n new) e happens) (λ n x. elsewhere_writes (seen_by n old) (seen_by n new) x) h in
    record {
      seen = seen;
      one = queues_or_book old.concentrator.queues new.concentrator.queues old.concentrator.controls new.concentrator.controls
          (λ n low. (seen n low).concentrator.one);
    }

-- ---- runs

-- what an event leaves
pub record Steps : Type 0 where
  pub writes : (old new : Whole) (event : Event) → HappensToAll old event new → AllWriteOne old new
  pub keeps : (plan : Plan) (old new : Whole) (event : Event) → AllRestartAsNew plan old → HappensToAll old event new → AllRestartAsNew plan new

run_keeps : Steps → (plan : Plan) (events : List Event) (old new : Whole) → AllRestartAsNew plan old → RunsTo HappensToAll old events new
    → AllRestartAsNew plan new
run_keeps steps plan [] old new h same = subst (λ (w : Whole). AllRestartAsNew plan w) (sym same) h
run_keeps steps plan (e ∷ events) old new h ran = run_keeps steps plan events ran.0 new (steps.keeps plan old ran.0 e h ran.1) ran.2

-- ---- which of two stores

-- One store at most was changed, so both hold what they held before the event, or both what the event made of them.
module _ {A B : Type 0} (P : Type 0) (was is a : A) (wasnt isnt b : B) where
  both : (a ≡ was → b ≡ wasnt → P) → (a ≡ is → b ≡ isnt → P) → (is ≡ was) ⊎ (isnt ≡ wasnt) → HoldsEither was is a → HoldsEither wasnt isnt b → P
  both old new one (inl x) (inl y) = old x y
  both old new one (inr x) (inr y) = new x y
  both old new (inl same) (inl x) (inr y) = new (x ∙ sym same) y
  both old new (inr same) (inl x) (inr y) = old x (y ∙ same)
  both old new (inl same) (inr x) (inl y) = old (x ∙ same) y
  both old new (inr same) (inr x) (inl y) = new x (y ∙ sym same)

-- ---- the concentrator

abbrev middle_restarted : Whole → Whole
middle_restarted w = record w {
  substations = map master_gone w.substations;
  concentrator = record w.concentrator {
    cores = of_each restarted_core w.concentrator.cores;
    links = map hung_up w.concentrator.links;
  };
  above = of_each (hung_up_at end.Outstation) w.above;
}

middle_restarts : (w : Whole) → HappensToAll w (event.Restart place.Concentrator) (middle_restarted w)
middle_restarts w = at_every _ refl refl

middle_as_new : (plan : Plan) (w : Whole) (queues : PerCentre EventBuffer) (controls : Ledger) → AllRestartAsNew plan w → queues ≡ w.concentrator.queues
    → controls ≡ w.concentrator.controls → (middle_restarted w).concentrator ≡ new_concentrator plan queues controls
middle_as_new plan w queues controls h queued ordered =
    let seen : RestartAsNew plan (seen_by 0 w) = h 0 (omega arith) in
    let cores : of_each restarted_core w.concentrator.cores ≡ for_each (λ n. fresh_core plan) =
    same_each _ _ (λ n low. seen_there restarted_core n w.concentrator.cores ∙ (h n low).concentrator.above ∙ sym (made_there (λ n. fresh_core plan) n low)) in
    rw (queued, ordered, cores, seen.indices, seen.points, seen.concentrator.below)

-- it stands restarted over what it held before the event, or over what the event made of it
stands_at : (at : Place) (Stands : Whole → Type 0) (restarted : Whole → Whole) → ((w : Whole) → HappensToAll w (event.Restart at) (restarted w))
    → (old before after : Whole) (events : List Event) (last : Event) → RunsTo HappensToAll old events before → HappensToAll before last after
    → Stands (restarted before) ⊎ Stands (restarted after) → StandsRestarted at Stands old events last
stands_at at Stands restarted restarts old before after events last ran happens (inl stands) = record {
  new = restarted before;
  stands = stands;
  ran = inl (runs_joined old before (restarted before) events (event.Restart at ∷ []) ran (restarted before, restarts before, refl));
}
stands_at at Stands restarted restarts old before after events last ran happens (inr stands) = record {
  new = restarted after;
  stands = stands;
  ran = inr (runs_joined old before (restarted after) events (last ∷ event.Restart at ∷ []) ran
      (after, happens, (restarted after, restarts after, refl)));
}

pub middle_stands : Steps → (plan : Plan) (old before after : Whole) (events : List Event) (last : Event) (queues : PerCentre EventBuffer) (controls : Ledger)
    → AllRestartAsNew plan old → RunsTo HappensToAll old events before → HappensToAll before last after
    → HoldsEither before.concentrator.queues after.concentrator.queues queues → HoldsEither before.concentrator.controls after.concentrator.controls controls
    → StandsRestarted place.Concentrator (λ w. w.concentrator ≡ new_concentrator plan queues controls) old events last
middle_stands steps plan old before after events last queues controls h ran happens queued ordered =
    let first : AllRestartAsNew plan before = run_keeps steps plan events old before h ran in
    let second : AllRestartAsNew plan after = steps.keeps plan before after last first happens in
    stands_at place.Concentrator (λ w. w.concentrator ≡ new_concentrator plan queues controls) middle_restarted middle_restarts old before after events
    last ran happens
    (both _ before.concentrator.queues after.concentrator.queues queues before.concentrator.controls after.concentrator.controls controls
    (λ x y. inl (middle_as_new plan before queues controls first x y)) (λ x y. inr (middle_as_new plan after queues controls second x y))
    (steps.writes before after last happens).one queued ordered)

-- ---- a centre

abbrev hung_up_centre : CentreState → CentreState
hung_up_centre c = record c { link = hung_up c.link }

-- the whole after the restart of a centre
abbrev centre_restarted : ℕ → Whole → Whole
centre_restarted n w = record w {
  centres = with_at n w.centres (hung_up_centre (at n w.centres));
  above = with_at n w.above (hung_up_at end.Master (at n w.above));
}

centre_restarts : (centre : ℕ) → centre < CENTRES → (w : Whole) → HappensToAll w (event.Restart (place.Centre centre)) (centre_restarted centre w)
centre_restarts n low w =
    let is : Whole = centre_restarted n w in
    let seen : ℕ → CentreState → ChannelState → System = λ m k l. record (seen_by m w) { centre = k; above = l } in
    rw (own_there n low)
    (done_at n (λ s t. Happens s (event.Restart (place.Centre n)) t) w is
    (ap₂ (seen n) (written_here w.centres (hung_up_centre (at n w.centres)) n low) (written_here w.above (hung_up_at end.Master (at n w.above)) n low))
    (λ m few apart. sees_same (seen_by m w) (seen_by m is)
    (ap₂ (seen m) (written_elsewhere w.centres (hung_up_centre (at n w.centres)) n low m few apart)
    (written_elsewhere w.above (hung_up_at end.Master (at n w.above)) n low m few apart))))

centre_hung_up : (centre : ℕ) → centre < CENTRES → (w : Whole) → at centre (centre_restarted centre w).centres ≡ hung_up_centre (at centre w.centres)
centre_hung_up n low w = written_here w.centres (hung_up_centre (at n w.centres)) n low

centre_as_new : (plan : Plan) (s : System) (journal : Archive) (orders : Ledger) → RestartAsNew plan s → journal ≡ s.centre.journal
    → orders ≡ s.centre.orders → hung_up_centre s.centre ≡ new_centre plan journal orders
centre_as_new plan s journal orders h kept ordered = rw (kept, ordered, h.centre_indices, h.centre)

pub centre_stands : Steps → (plan : Plan) (centre : ℕ) (old before after : Whole) (events : List Event) (last : Event) (journal : Archive) (orders : Ledger)
    → centre < CENTRES → AllRestartAsNew plan old → RunsTo HappensToAll old events before → HappensToAll before last after
    → HoldsEither (at centre before.centres).journal (at centre after.centres).journal journal
    → HoldsEither (at centre before.centres).orders (at centre after.centres).orders orders
    → StandsRestarted (place.Centre centre) (λ w. at centre w.centres ≡ new_centre plan journal orders) old events last
centre_stands steps plan centre old before after events last journal orders low h ran happens kept ordered =
    let first : AllRestartAsNew plan before = run_keeps steps plan events old before h ran in
    let second : AllRestartAsNew plan after = steps.keeps plan before after last first happens in
    stands_at (place.Centre centre) (λ w. at centre w.centres ≡ new_centre plan journal orders) (centre_restarted centre)
    (centre_restarts centre low) old before after events last ran happens
    (both _ (at centre before.centres).journal (at centre after.centres).journal journal (at centre before.centres).orders (at centre after.centres).orders
    orders (λ x y. inl (centre_hung_up centre low before ∙ centre_as_new plan (seen_by centre before) journal orders (first centre low) x y))
    (λ x y. inr (centre_hung_up centre low after ∙ centre_as_new plan (seen_by centre after) journal orders (second centre low) x y))
    ((steps.writes before after last happens).seen centre low).centre.one kept ordered)
