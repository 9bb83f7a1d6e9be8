-- Calls of a substation's master, an opening and damage, which keep what stands behind the system.
use Rattle.std.proofs.Common.{◌≡◌, ℕ, zero, suc, ◌<◌, if◌then◌else◌, Bool, true, false, List, [], ◌∷◌, length, Some, Result, Ok, Err, refl, sym, ap, ◌∙◌, subst, append-nil, arith}
use Rattle.std.specs.Prelude.{nat_lt, slice_get, slice_set}
use Rattle.std.proofs.lemmas.Bool.{and_parts, ltb-true}
use Rattle.std.proofs.lemmas.List.{set-get_or}
use Rattle.std.proofs.lemmas.Option.{get_or_from_slice_get}
use Rattle.dnp_concentrator.specs.Below.{link_in}
use Rattle.dnp_concentrator.specs.Relaying as relaying
use Rattle.dnp_concentrator.specs.Relaying.{Relaying}
use Rattle.dnp_master.specs.Calls.{ask_answer, asked_by}
use Rattle.dnp_master.specs.State as master
use Rattle.dnp_master.specs.declared.fault.AskFault.{AskFault}
use Rattle.dnp_master.specs.declared.task.Task.{Task}
use Rattle.dnp_outstation.specs.Calls.{opened_of}
use Rattle.dnp_outstation.specs.Links.{ReleasesNone}
use Rattle.dnp_outstation.specs.State.{State, Step}
use Rattle.dnp_pointdb.specs.Database.{Database, lost_of}
use Rattle.dnp_pointdb.specs.Sound as points
use Rattle.dnp_world.specs.declared.event.Link.TheVariants.{Below}
use Rattle.dnp_world.specs.declared.link_event.End.TheVariants as end
use Rattle.dnp_world.specs.declared.link_event.LinkEvent.TheVariants as event
use Rattle.dnp_world.specs.declared.link_event.Way.{Way}
use Rattle.dnp_world.specs.Behind.{Elsewhere, rows_of}
use Rattle.dnp_world.specs.Channels.{ChannelState, DamagesAt, GoDown, cleared}
use Rattle.dnp_world.specs.LawLink.{LawLink}
use Rattle.dnp_world.specs.OneLinkEvents.{AsksBy, AsksIfOwn, Steps, is_own, opening}
use Rattle.dnp_world.specs.Systems.{SubstationState, System, has_substation, station_of}
use Rattle.dnp_world.specs.SystemEvents.{AsksOn, HangsUpOn, LinesChange, MasterTicks, OpensOn, master_gone, request_of, with_link, with_lost, with_substation}
use Rattle.dnp_world.specs.SystemStanding.{RowLists, lists_of, points_asked, seen_below, IsStanding, Keeps}
use Rattle.dnp_world.proofs.BelowEvents.{few_outputs, no_performs, none_behind, quiet, quiet_with, shown_with, stepped_on, with_both, with_released}
use Rattle.dnp_world.proofs.BelowKeeps.{Gone, Grounds, KeepsMiddle, Middle, below_keeps}
use Rattle.dnp_world.proofs.Issuing.{same_keeps}
use Rattle.dnp_world.proofs.SystemPlans.{asked_still, link_here, link_there}

-- what the crates below promise of an opening, and of points that can't be reached any more
pub record CallLaws : Type 0 where
  pub open_none : (s : State) (now : ℕ) → ReleasesNone s (opened_of s now)
  pub open_performs : (s : State) (now : ℕ) → (opened_of s now).state.performed ≡ s.performed
  pub lost_sound : (database : Database) (number : ℕ) → points.IsSoundDatabase database → points.IsSoundDatabase (lost_of database number)

-- ---- what the concentrator has of the substation

pub has_link_to : (s : System) (substation : ℕ) → has_substation s substation ≡ true → substation < length s.concentrator.links
has_link_to s substation has =
    ltb-true substation (length s.concentrator.links)
    ((and_parts (nat_lt substation (length s.substations)) (nat_lt substation (length s.concentrator.links)) has).1)

-- another link to it
abbrev pub with_link_to : System → ℕ → Relaying → Middle
with_link_to s substation r = record { links = slice_set s.concentrator.links substation r; points = s.concentrator.core.points }

pub link_keeps : (s : System) (substation : ℕ) (r : Relaying) → points_asked r ≡ points_asked (link_in s.concentrator.links substation)
    → KeepsMiddle substation (with_link_to s substation r) s
link_keeps s substation r same = record {
  others = λ i other. link_there s.concentrator.links substation i r other;
  masters = asked_still s.concentrator.links substation r same;
  sound = λ h. h;
}

-- and the substation can't be reached any more
abbrev without_link_to : System → ℕ → Relaying → Middle
without_link_to s substation r =
    record { links = slice_set s.concentrator.links substation r; points = lost_of s.concentrator.core.points substation }

lost_keeps : CallLaws → (s : System) (substation : ℕ) (r : Relaying) → points_asked r ≡ points_asked (link_in s.concentrator.links substation)
    → KeepsMiddle substation (without_link_to s substation r) s
lost_keeps laws s substation r same = record {
  others = λ i other. link_there s.concentrator.links substation i r other;
  masters = asked_still s.concentrator.links substation r same;
  sound = laws.lost_sound s.concentrator.core.points substation;
}

-- ---- damage

pub damages : Grounds → (old new : System) {el : Elsewhere} (substation : ℕ) (w : Way) (octets : List ℕ) → IsStanding el old
    → LinesChange (Below substation) (DamagesAt w octets) old new → Keeps el substation [] old new
damages grounds old new substation w octets h e =
    quiet grounds old new h substation e.was (record e.was { channel = e.is.channel }) (event.Damage w (record { items = octets })) e.there refl
    (record { damages = e.changed.0; after = refl }) (e.after ∙ ap (λ (s : SubstationState). with_substation old substation s) e.changed.1)

-- ---- an opening

pub opens : Grounds → CallLaws → (old new : System) {el : Elsewhere} (substation : ℕ) → has_substation old substation ≡ true → IsStanding el old
    → OpensOn (Below substation) old new → Keeps el substation [] old new
opens grounds laws old new substation has h e =
    let was : SubstationState = e.was in
    let is : SubstationState = e.is in
    let r : Relaying = link_in old.concentrator.links substation in
    let middle : Middle = with_link_to old substation (relaying.opened r) in
    let step : Step = opened_of (station_of was) old.now in
    let l : LawLink = h.links.below substation in
    let gone : Gone = record { confirmed = step.does.discarded; overwritten = []; emptied = [] } in
    let lists : RowLists = with_released (lists_of l) step.does.discarded in
    below_keeps grounds old new h substation was is middle gone lists event.Open e.there (link_keeps old substation (relaying.opened r) refl)
    (shown_with was is (few_outputs old h substation was e.there) (ap (λ (s : SubstationState). s.outputs.outputs) e.changed.after))
    (record { taken = refl; released = refl; left = none_behind (rows_of l.left) })
    (subst (λ (x : Relaying). Steps step (opening (seen_below old.now r was (lists_of l))) (seen_below old.now x is lists))
    (sym (link_here old.concentrator.links substation (relaying.opened r) (has_link_to old substation has)))
    (stepped_on old.now (relaying.opened r) step (cleared was.channel) was is (lists_of l) e.changed))
    (e.after
    ∙ rw (
      (laws.open_none (station_of was) old.now).discarded,
      no_performs was is (ap (λ (s : SubstationState). s.outputs.performed) e.changed.after ∙ laws.open_performs (station_of was) old.now),
    )
    (simp append-nil))

-- ---- a task is asked

-- nothing goes down
pub none_goes : (old new : ChannelState) → GoDown [] old new → new ≡ old
none_goes old new g = g.after ∙ rw (g.sent.0, g.sent.1)

asked_points_stay : (s : master.State) (now : ℕ) (task : Task) (answer : Result (List ℕ) AskFault) → (asked_by s now task answer).plan ≡ s.plan
asked_points_stay s now task (Ok octets) = refl
asked_points_stay s now task (Err fault) = refl

asked_so : (old : System) (substation : ℕ) (was is : SubstationState) (task : Task) (lists : RowLists) (answer : Result (List ℕ) AskFault)
    → (let r : Relaying = link_in old.concentrator.links substation in ask_answer r.master task ≡ answer
    → GoDown (request_of answer) was.channel is.channel
    → AsksBy answer task (seen_below old.now r was lists)
    (seen_below old.now (relaying.asking r old.now task) (record was { channel = is.channel }) lists))
asked_so old substation was is task lists (Ok octets) answer down = record { goes = down; after = refl }
asked_so old substation was is task lists (Err fault) answer down =
    let r : Relaying = link_in old.concentrator.links substation in
    ap (λ (c : ChannelState). seen_below old.now (relaying.asking r old.now task) (record was { channel = c }) lists)
    (none_goes was.channel is.channel down)
    ∙ ap (λ (a : Result (List ℕ) AskFault). seen_below old.now (record r { master = asked_by r.master old.now task a }) was lists) answer

asks_if : Grounds → (old new : System) {el : Elsewhere} (substation : ℕ) (task : Task) (own : Bool) → is_own task ≡ own → has_substation old substation ≡ true
    → IsStanding el old → AsksOn own (Below substation) task old new → Keeps el substation [] old new
asks_if grounds old new substation task true own has h e =
    let was : SubstationState = e.was in
    let r : Relaying = link_in old.concentrator.links substation in
    let next : Relaying = relaying.asking r old.now task in
    let is : SubstationState = record was { channel = e.is.channel } in
    let lists : RowLists = lists_of (h.links.below substation) in
    quiet_with grounds old new h substation was is (with_link_to old substation next) (event.Ask task) e.there
    (link_keeps old substation next (asked_points_stay r.master old.now task (ask_answer r.master task))) refl
    (subst (λ (x : Relaying). AsksIfOwn (is_own task) task (seen_below old.now r was lists) (seen_below old.now x is lists))
    (sym (link_here old.concentrator.links substation next (has_link_to old substation has)))
    (subst (λ (b : Bool). AsksIfOwn b task (seen_below old.now r was lists) (seen_below old.now next is lists)) (sym own)
    (asked_so old substation was e.is task lists (ask_answer r.master task) refl e.changed.0)))
    (e.after ∙ ap (λ (s : SubstationState). with_both old substation s (with_link_to old substation next)) e.changed.1)
asks_if grounds old new substation task false own has h e = same_keeps substation old new h e

pub asks : Grounds → (old new : System) {el : Elsewhere} (substation : ℕ) (task : Task) → has_substation old substation ≡ true → IsStanding el old
    → AsksOn (is_own task) (Below substation) task old new → Keeps el substation [] old new
asks grounds old new substation task has h e = asks_if grounds old new substation task (is_own task) refl has h e

-- ---- the master hangs up

pub hangs_up_below : Grounds → CallLaws → (old new : System) {el : Elsewhere} (substation : ℕ) → has_substation old substation ≡ true → IsStanding el old
    → HangsUpOn (Below substation) end.Master old new → Keeps el substation [] old new
hangs_up_below grounds laws old new substation has h e =
    let was : SubstationState = e.was in
    let r : Relaying = link_in old.concentrator.links substation in
    let middle : Middle = without_link_to old substation (relaying.hung_up r) in
    let lists : RowLists = lists_of (h.links.below substation) in
    quiet_with grounds old new h substation was (master_gone was) middle (event.HangUp end.Master) e.there
    (lost_keeps laws old substation (relaying.hung_up r) refl) refl
    (ap (λ (x : Relaying). seen_below old.now x (master_gone was) lists)
    (link_here old.concentrator.links substation (relaying.hung_up r) (has_link_to old substation has)))
    (e.after ∙ ap (λ (s : SubstationState). with_both old substation s middle) e.changed)

-- ---- its timer

pub same_set : {S : Type 0} (xs : List S) (i : ℕ) (x : S) → slice_get xs i ≡ Some x → slice_set xs i x ≡ xs
same_set xs i x e = ap (slice_set xs i) (sym (get_or_from_slice_get xs i x x e)) ∙ set-get_or xs i x

-- a substation of that number is there
is_some_there : {S : Type 0} (xs : List S) (i : ℕ) → i < length xs → (x : S) × (slice_get xs i ≡ Some x)
is_some_there [] i low = absurd (omega (arith, low))
is_some_there (x ∷ xs) zero low = (x, refl)
is_some_there (x ∷ xs) (suc i) low = is_some_there xs i (omega (arith, low))

ticked_points_stay : (s : master.State) (b : Bool) → (if b then master.closed s else s).plan ≡ s.plan
ticked_points_stay s true = refl
ticked_points_stay s false = refl

pub ticks_below : Grounds → CallLaws → (old new : System) {el : Elsewhere} (substation : ℕ) → has_substation old substation ≡ true → IsStanding el old
    → MasterTicks (Below substation) old new → Keeps el substation [] old new
ticks_below grounds laws old new {el = el} substation has h e =
    let low : substation < length old.substations =
    ltb-true substation (length old.substations)
    ((and_parts (nat_lt substation (length old.substations)) (nat_lt substation (length old.concentrator.links)) has).0) in
    let (was, there) = is_some_there old.substations substation low in
    by was there (master.is_timed_out r.master old.now) e
  where
    r : Relaying
    r = link_in old.concentrator.links substation

    next : Relaying
    next = relaying.ticked r old.now

    same_plan : points_asked next ≡ points_asked r
    same_plan = ticked_points_stay r.master (master.is_timed_out r.master old.now)

    here : link_in (slice_set old.concentrator.links substation next) substation ≡ next
    here = link_here old.concentrator.links substation next (has_link_to old substation has)

    by : (was : SubstationState) → slice_get old.substations substation ≡ Some was → (b : Bool)
        → new ≡ (if b then with_lost (with_link old substation next) substation else with_link old substation next) → Keeps el substation [] old new
    by was there true is =
        let middle : Middle = without_link_to old substation next in
        quiet_with grounds old new h substation was was middle (event.Tick end.Master) there (lost_keeps laws old substation next same_plan) refl
        (ap (λ (x : Relaying). seen_below old.now x was (lists_of (h.links.below substation))) here)
        (is ∙ ap (λ (xs : List SubstationState). record (with_both old substation was middle) { substations = xs })
        (sym (same_set old.substations substation was there)))
    by was there false is =
        let middle : Middle = with_link_to old substation next in
        quiet_with grounds old new h substation was was middle (event.Tick end.Master) there (link_keeps old substation next same_plan) refl
        (ap (λ (x : Relaying). seen_below old.now x was (lists_of (h.links.below substation))) here)
        (is ∙ ap (λ (xs : List SubstationState). record (with_both old substation was middle) { substations = xs })
        (sym (same_set old.substations substation was there)))
