-- A clean control: above, and then below for the entry that the concentrator added.
use Rattle.std.proofs.Common.{◌≡◌, ℕ, ◌+◌, ◌<◌, true, false, Bool, ◌&&◌, ◌==◌, cond, List, [], ◌∷◌, length, Option, Some, None, refl, sym, ap, ◌∙◌, subst, arith, eqb-true, eq-eqb}
use Rattle.std.specs.Prelude.{is_none, nat_lt, slice_get, if◌then◌else◌}
use Rattle.std.specs.Option.{option_map, option_or}
use Rattle.std.proofs.lemmas.Bool.{and_parts}
use Rattle.std.proofs.lemmas.List.Folds.{find-append}
use Rattle.dnp_appfragment.specs.Fragments.{request_octets}
use Rattle.dnp_concentrator.specs.BookOutputs.{can_relay, relay_check}
use Rattle.dnp_concentrator.specs.Reserving.{Reserved, is_reserved}
use Rattle.dnp_concentrator.specs.Mapped.{command_below}
use Rattle.dnp_concentrator.specs.Relaying.{Relaying, step_of}
use Rattle.dnp_concentrator.specs.declared.span.Spans.{Spans}
use Rattle.dnp_controls.specs.Book.{Ledger, IsSoundLedger, added, is_pending, next_of}
use Rattle.dnp_controls.specs.Latches.{can_perform, plain_check}
use Rattle.dnp_controls.specs.declared.book.Entry.{Entry}
use Rattle.dnp_controls.specs.declared.book.State.TheVariants.{Pending}
use Rattle.dnp_master.specs.Requests.{request_for}
use Rattle.dnp_master.specs.State.{is_idle}
use Rattle.dnp_master.specs.declared.task.Task.TheVariants as task
use Rattle.dnp_objects.specs.Counts.{IsEqualityTest}
use Rattle.dnp_objects.specs.Equality.{command_eq}
use Rattle.dnp_objects.specs.Status.{success}
use Rattle.dnp_objects.specs.declared.command.Command.{Command}
use Rattle.dnp_outstation.specs.Connection.{is_last_request}
use Rattle.dnp_outstation.specs.State.{is_free, is_quiet}
use Rattle.dnp_world.specs.Arriving.{channel_at, channel_on}
use Rattle.dnp_world.specs.Behind.{Elsewhere}
use Rattle.dnp_world.specs.Channels.{ChannelState, are_quiet}
use Rattle.dnp_world.specs.CommandWidths.{HasWidths}
use Rattle.dnp_world.specs.ControlExchanges.{CanBegin}
use Rattle.dnp_world.specs.Controls.{is_entry, is_free_below, is_free_for, is_next, substation_in}
use Rattle.dnp_world.specs.Rounds.{is_quiet_at, is_quiet_on}
use Rattle.dnp_world.specs.SystemStanding.{IsJoinedBelow, IsStanding, lists_of, seen_below}
use Rattle.dnp_world.specs.Systems.{SubstationState, System, has_substation, link_at}
use Rattle.dnp_world.specs.declared.event.Link.TheVariants.{Below}
use Rattle.dnp_world.proofs.BelowKeeps.{some_of}
use Rattle.dnp_world.proofs.ControlArrivals.{ControlLaws}
use Rattle.dnp_world.proofs.ControlBooks.{next_found}
use Rattle.dnp_world.proofs.ControlsBelow.{PerformsLaw}
use Rattle.dnp_world.proofs.ControlsOther.{other_select}
use Rattle.dnp_world.proofs.ControlsToSubstations.{ends_below}
use Rattle.dnp_world.proofs.RoundBelow.{LineLaws}
use Rattle.dnp_world.proofs.StepBooks.{SoundLaw}

-- what laws promise of a control that goes all the way
pub record CleanLaws : Type 0 where
  pub controls : ControlLaws
  pub decides : IsEqualityTest command_eq
  pub lines : LineLaws
  pub performs : PerformsLaw
  pub sound : SoundLaw

-- ---- statuses

pub relay_low : (spans : List Spans) (reserved : Reserved) (command : Command) → relay_check spans reserved command < 128
relay_low spans reserved command = by (can_relay spans command) (is_reserved reserved command)
  where
    by : (b taken : Bool) → (if b then (if taken then 5 else 0) else 4) < 128
    by true true = omega arith
    by true false = omega arith
    by false taken = omega arith

pub plain_low : (outputs setpoints : ℕ) (command : Command) → plain_check outputs setpoints command < 128
plain_low outputs setpoints command = by (can_perform outputs setpoints command)
  where
    by : (b : Bool) → (if b then 0 else 4) < 128
    by true = omega arith
    by false = omega arith

-- what is relayed with SUCCESS is for a substation
pub relayed_some : (spans : List Spans) (reserved : Reserved) (command : Command) → relay_check spans reserved command ≡ success
    → command_below spans command ≡ None → ⊥
relayed_some spans reserved command good none =
    let never : 4 ≡ 0 = sym (rw none refl) ∙ good in
    omega (arith, never)

-- ---- the control that comes next

pub record NextAbove (s : System) (id : ℕ) : Type 0 where
  pub entry : Entry
  pub next : next_of s.centre.orders.entries 0 ≡ Some entry
  pub id_is : entry.id ≡ id

next_entry : (o : Option Entry) (id : ℕ) → is_entry id o ≡ true → (e : Entry) × (o ≡ Some e) × (e.id ≡ id)
next_entry None id is = absurd (cc)
next_entry (Some e) id is = (e, refl, eqb-true e.id id is)

pub next_above : (s : System) (id : ℕ) → is_next s id ≡ true → NextAbove s id
next_above s id is =
    let parts = and_parts (is_entry id (next_of s.centre.orders.entries 0))
    (is_free_for id s.centre.link.progress && is_free_below s (substation_in s id)) is in
    let (e, next, same) = next_entry (next_of s.centre.orders.entries 0) id parts.0 in
    record { entry = e; next = next; id_is = same }

-- none is in progress above, or this one
pub free_above : (s : System) (id : ℕ) → is_next s id ≡ true → is_free_for id s.centre.link.progress ≡ true
free_above s id is =
    let parts = and_parts (is_entry id (next_of s.centre.orders.entries 0))
    (is_free_for id s.centre.link.progress && is_free_below s (substation_in s id)) is in
    (and_parts (is_free_for id s.centre.link.progress) (is_free_below s (substation_in s id)) parts.1).0

-- the concentrator is free for it
pub free_below : (s : System) (id : ℕ) → is_next s id ≡ true → is_free_below s (substation_in s id) ≡ true
free_below s id is =
    let parts = and_parts (is_entry id (next_of s.centre.orders.entries 0))
    (is_free_for id s.centre.link.progress && is_free_below s (substation_in s id)) is in
    (and_parts (is_free_for id s.centre.link.progress) (is_free_below s (substation_in s id)) parts.1).1

pub none_is : {A : Type 0} (o : Option A) → is_none o ≡ true → o ≡ None
none_is None e = refl
none_is (Some x) e = absurd (cc)

pub none_mapped : {A B : Type 0} (f : A → B) (o : Option A) → is_none (option_map f o) ≡ true → o ≡ None
none_mapped f None e = refl
none_mapped f (Some x) e = absurd (cc)

-- ---- below

-- the entry that was added comes next, where none was pending for its target
pub added_next : (book : Ledger) (substation : ℕ) (command : Command) → next_of book.entries substation ≡ None
    → next_of (added book substation command).entries substation
    ≡ Some (record { id = book.last_id + 1; target = substation; command = command; state = Pending })
added_next book substation command none =
    let e : Entry = record { id = book.last_id + 1; target = substation; command = command; state = Pending } in
    find-append (λ (x : Entry). is_pending x.state && x.target == substation) book.entries (e ∷ [])
    ∙ ap (λ (o : Option Entry). option_or o (next_of (e ∷ []) substation)) none
    ∙ ap (λ (b : Bool). cond b (Some e) None) (eq-eqb substation substation refl)

pub below_begins : (old s : System) {el : Elsewhere} (substation : ℕ) (was : SubstationState) (entry : Entry) → IsStanding el old
    → is_quiet_on old (Below substation) ≡ true → slice_get old.substations substation ≡ Some was → (link_at old.concentrator substation).progress ≡ None
    → s.concentrator.links ≡ old.concentrator.links → next_of s.concentrator.controls.entries substation ≡ Some entry → IsSoundLedger s.concentrator.controls
    → HasWidths entry.command → CanBegin substation entry (ends_below substation s was [])
below_begins old s substation was entry h quiet there free links next sound widths =
    let link : link_at s.concentrator substation ≡ link_at old.concentrator substation =
    ap (λ (xs : List Relaying). link_at (record s.concentrator { links = xs }) substation) links in
    let parts = and_parts (has_substation old substation)
    (is_idle (link_at old.concentrator substation).master && is_quiet_at (slice_get old.substations substation)) quiet in
    let ends = and_parts (is_idle (link_at old.concentrator substation).master) (is_quiet_at (slice_get old.substations substation)) parts.1 in
    let rests : is_quiet_at (Some was) ≡ true = subst (λ (o : Option SubstationState). is_quiet_at o ≡ true) there ends.1 in
    let core = and_parts (is_quiet was.core) (are_quiet was.channel) rests in
    let opens : was.core.is_open ≡ true = (and_parts was.core.is_open (is_free was.core) core.0).0 in
    let j : IsJoinedBelow old.now (link_at old.concentrator substation) (h.links.below substation) was =
    some_of (IsJoinedBelow old.now (link_at old.concentrator substation) (h.links.below substation)) (slice_get old.substations substation) was there
    (h.below substation) in
    record {
      idle = rw link ends.0;
      number = rw link j.joined.number;
      selects = ap (λ (r : Relaying). step_of r s.concentrator.controls.entries substation) link ∙ rw (ends.0, free, next) refl;
      found = next_found s.concentrator.controls.entries substation entry sound.rising sound.from_1 next;
      widths = widths;
      is_open = opens;
      reports = j.joined.outstation.well.order.number;
      other = ap (λ (r : Relaying). is_last_request was.core.session (request_octets (request_for r.master.seq (task.Select entry.command)))) link
          ∙ other_select [] (seen_below old.now (link_at old.concentrator substation) was (lists_of (h.links.below substation))) (h.links.below substation)
          entry.command j.joined (h.behind.below_stands substation) ends.0 opens;
      clear = refl;
    }

-- the lines of a link to a substation are those of the substation
abbrev lines_by : List SubstationState → List Relaying → ℕ → Option ChannelState
lines_by substations links substation =
    if nat_lt substation (length substations) && nat_lt substation (length links) then channel_at (slice_get substations substation) else None

pub same_lines : (old s : System) (substation : ℕ) → s.substations ≡ old.substations → s.concentrator.links ≡ old.concentrator.links
    → channel_on s (Below substation) ≡ channel_on old (Below substation)
same_lines old s substation substations links =
    ap (λ (xs : List SubstationState). lines_by xs s.concentrator.links substation) substations
    ∙ ap (λ (xs : List Relaying). lines_by old.substations xs substation) links

pub there_of : (s : System) (substation : ℕ) (o : Option SubstationState) → slice_get s.substations substation ≡ o → is_quiet_at o ≡ true
    → (was : SubstationState) × (slice_get s.substations substation ≡ Some was)
there_of s substation None found quiet = absurd (cc)
there_of s substation (Some was) found quiet = (was, found)
