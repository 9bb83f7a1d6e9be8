-- One substation of a system, where it stands in the list.
use Rattle.std.proofs.Common.{◌≡◌, ℕ, ◌<◌, true, List, length, map, None, Some, refl, sym, ap, ◌∙◌, subst, arith, get_or, slice_set}
use Rattle.std.specs.Prelude.{slice_get, nat_lt}
use Rattle.std.proofs.lemmas.Bool.{and_parts}
use Rattle.std.proofs.lemmas.Bool.Decides.{nat_tests}
use Rattle.std.proofs.lemmas.List.{map-set, length-map, set-get_or, get_or-map}
use Rattle.std.proofs.lemmas.Option.{slice_get-get_or, slice_get-map}
use Rattle.std.specs.Option.{option_map}
use Rattle.dnp_controls.specs.Book.{Ledger}
use Rattle.dnp_eventbuf.specs.Sides.{ForEach}
use Rattle.dnp_eventbuf.specs.EventBuffer.{EventBuffer}
use Rattle.dnp_outstation.specs.State.{Core}
use Rattle.dnp_concentrator.specs.Concentrator.{core_of, links_of, KeepsStores}
use Rattle.dnp_concentrator.specs.Below.{link_in}
use Rattle.dnp_concentrator.specs.Relaying.{Relaying, hung_up}
use Rattle.dnp_concentrator.specs.declared.concentrator.Concentrator.{Concentrator}
use Rattle.dnp_world.specs.Centres.{ChangesAll, has_link}
use Rattle.dnp_world.specs.Channels.{ChannelState, GoDown, state_of}
use Rattle.dnp_concentrator.specs.Concentrator.{without_link}
use Rattle.dnp_world.specs.SystemEvents.{ChangesAt, HangsUpOn, LinesChange, master_gone, same_rest, with_link, with_lost}
use Rattle.dnp_world.specs.SystemParts.{substation_of, concentrator_of}
use Rattle.dnp_world.specs.Systems.{SubstationState, ConcentratorState, System, has_substation, link_at}
use Rattle.dnp_world.specs.Wholes.{Whole, WholeConcentrator, seen_by}
use Rattle.dnp_world.specs.declared.channel.Channel.{Channel}
use Rattle.dnp_world.specs.declared.event.Link.TheVariants.{Below}
use Rattle.dnp_world.specs.declared.link_event.End.TheVariants.{Master}
use Rattle.dnp_world.specs.declared.substation.Substation.{Substation}
use Rattle.dnp_concentrator.specs.PerCentre.{of_each}
use Rattle.dnp_world.proofs.PerCentre.{at_every, made_alike}

pub there : {A B : Type 0} (f : A → B) (xs : List A) (i : ℕ) (x d : A) → i < length xs → x ≡ get_or xs i d → slice_get (map f xs) i ≡ Some (f x)
there f xs i x d low is = slice_get-map f xs i ∙ ap (option_map f) (slice_get-get_or xs i d low ∙ ap Some (sym is))

-- what a view of fields is, by the equation that it is a value
abbrev pub viewed : {V : Type 0} {view value : V} → view ≡ value → V
viewed {view = view} is = view

-- one substation was written, and the rest of the system is as `rest` says
pub changes_at : (substation i : ℕ) (Change : SubstationState → SubstationState → Type 0) (rest : SubstationState → SubstationState → System → System)
    (old new : System) (xs : List Substation) (was is : Substation) → old.substations ≡ map substation_of xs → i ≡ substation → i < length xs
    → was ≡ get_or xs i was → Change (substation_of was) (substation_of is)
    → new ≡ rest (substation_of was) (substation_of is) (record old { substations = map substation_of (slice_set xs i is) })
    → ChangesAt substation Change rest old new
changes_at substation i Change rest old new xs was is list same low at changed after = record {
  was = substation_of was;
  is = substation_of is;
  there = subst (λ (ys : List SubstationState). slice_get ys substation ≡ Some (substation_of was)) (sym list)
      (subst (λ (n : ℕ). slice_get (map substation_of xs) n ≡ Some (substation_of was)) same (there substation_of xs i was was low at));
  changed = changed;
  after = after ∙ ap (λ (ys : List SubstationState). rest (substation_of was) (substation_of is) (record old { substations = ys }))
      (map-set substation_of xs i is ∙ ap (λ (ys : List SubstationState). slice_set ys i (substation_of is)) (sym list)
      ∙ ap (λ (n : ℕ). slice_set old.substations n (substation_of is)) same);
}

-- there is such a substation
pub is_there : (s : System) (xs : List Substation) (substation : ℕ) → s.substations ≡ map substation_of xs → has_substation s substation ≡ true
    → substation < length xs
is_there s xs substation list has =
    let low : nat_lt substation (length s.substations) ≡ true =
    (and_parts (nat_lt substation (length s.substations)) (nat_lt substation (length s.concentrator.links)) has).0 in
    let same : length s.substations ≡ length xs = ap (λ (ys : List SubstationState). length ys) list ∙ length-map xs substation_of in
    let under : substation < length s.substations = grind (arith, nat_tests, low) in
    omega (arith, under, same)

-- ---- the concentrator

-- its outstations above and its links become others
pub concentrator_with : {Q A : Type 0} (buffer : Q → ℕ → EventBuffer) (ledger : A → Ledger) (old new : Concentrator Q A) (next : Core → Core)
    (links : List Relaying) → ForEach (λ n. core_of n new ≡ next (core_of n old)) → links_of new ≡ links → KeepsStores old new
    → concentrator_of buffer ledger new ≡ (let was = concentrator_of buffer ledger old in record was { cores = of_each next was.cores; links = links })
concentrator_with buffer ledger old new next links cores links_is stores =
    cc (made_alike (λ n. core_of n new) (λ n. next (core_of n old)) cores, links_is, stores.queue, stores.outputs, stores.plan)

-- ---- lines

-- the lines of a substation's link were written
pub lines_change_at : (substation i : ℕ) (Change : ChannelState → ChannelState → Type 0) (old : System) (xs : List Substation)
    (was : Substation) (lines : Channel)
    → old.substations ≡ map substation_of xs → i ≡ substation → has_substation old substation ≡ true → was ≡ get_or xs i was
    → Change (state_of was.channel) (state_of lines)
    → LinesChange (Below substation) Change old (record old { substations = map substation_of (slice_set xs i (record was { channel = lines })) })
lines_change_at substation i Change old xs was lines list same has at changed =
    changes_at substation i (λ was is. Change was.channel is.channel × (is ≡ record was { channel = is.channel })) same_rest old _ xs was
    (record was { channel = lines }) list same (rw same (is_there old xs substation list has)) at (changed, refl) refl

pub read_there : {A B : Type 0} (f : A → B) (xs : List A) (i : ℕ) (x d : A) → i < length xs → x ≡ get_or xs i d → f x ≡ get_or (map f xs) i (f x)
read_there f xs i x d low is = ap f is ∙ sym (get_or-map f xs i d (f x) low)

-- a substation that is what it was
pub unchanged_at : (old : Whole) (xs : List Substation) (substation i : ℕ) (was is : Substation) → old.substations ≡ map substation_of xs
    → i ≡ substation → has_link old (Below substation) ≡ true → was ≡ get_or xs i was → substation_of is ≡ substation_of was
    → record old { substations = map substation_of (slice_set xs i is) } ≡ old
unchanged_at old xs substation i was is list at has read same =
    let low : i < length xs = rw at (is_there (seen_by 0 old) xs substation list has) in
    ap (λ (ys : List SubstationState). record old { substations = ys })
    (map-set substation_of xs i is ∙ ap (λ (s : SubstationState). slice_set (map substation_of xs) i s) (same ∙ read_there substation_of xs i was was low read)
    ∙ set-get_or (map substation_of xs) i (substation_of was) ∙ sym list)

-- fragments went down to a substation, and the concentrator is this
pub sends_at : (substation i : ℕ) (fragments : List (List ℕ)) (first : System) (middle : ConcentratorState) (xs : List Substation) (was : Substation)
    (lines : Channel) → first.substations ≡ map substation_of xs → middle ≡ first.concentrator → i ≡ substation → i < length xs → was ≡ get_or xs i was
    → GoDown fragments (state_of was.channel) (state_of lines)
    → LinesChange (Below substation) (GoDown fragments) first
    (record first { substations = map substation_of (slice_set xs i (record was { channel = lines })); concentrator = middle })
sends_at substation i fragments first middle xs was lines list same_middle same low at changed =
    changes_at substation i (λ was is. GoDown fragments was.channel is.channel × (is ≡ record was { channel = is.channel })) same_rest first _ xs was
    (record was { channel = lines }) list same low at (changed, refl)
    (ap (λ (k : ConcentratorState). record first {
      substations = map substation_of (slice_set xs i (record was { channel = lines }));
      concentrator = k;
    }) same_middle)

-- what went down from lines that were the same went down from these
pub down_from : (fragments : List (List ℕ)) (old mid new : ChannelState) → mid ≡ old → GoDown fragments mid new → GoDown fragments old new
down_from fragments old mid new same down = subst (λ (c : ChannelState). GoDown fragments c new) same down

-- the concentrator once its master of a substation hung up
abbrev pub without_below : Whole → ℕ → WholeConcentrator
without_below old substation = record old.concentrator {
  cores = of_each (λ core. without_link core substation) old.concentrator.cores;
  links = slice_set old.concentrator.links substation (hung_up (link_in old.concentrator.links substation));
}

-- the master's end of a substation's link hung up
pub hangs_up_below : (old : Whole) (substation i : ℕ) (xs : List Substation) (was is : Substation) (middle : WholeConcentrator)
    → old.substations ≡ map substation_of xs → i ≡ substation → has_link old (Below substation) ≡ true → was ≡ get_or xs i was
    → substation_of is ≡ master_gone (substation_of was)
    → middle ≡ without_below old substation
    → ChangesAll None (HangsUpOn (Below substation) Master) old (record old { substations = map substation_of (slice_set xs i is); concentrator = middle })
hangs_up_below old substation i xs was is middle list same has at gone middle_is =
    let low : i < length xs = rw same (is_there (seen_by 0 old) xs substation list has) in
    let hung : ℕ → System = λ n. let s = seen_by n old in with_lost (with_link s substation (hung_up (link_at s.concentrator substation))) substation in
    let new : ℕ → WholeConcentrator → System = λ n c. seen_by n (record old { substations = map substation_of (slice_set xs i is); concentrator = c }) in
    let Gone : SubstationState → SubstationState → Type 0 = λ before after. after ≡ master_gone before in
    λ n few.
    changes_at substation i Gone same_rest (hung n) (new n middle) xs was is list same low at gone (ap (new n) middle_is ∙ as_hung n few)
  where
    as_hung : ForEach (λ n. seen_by n (record old {
      substations = map substation_of (slice_set xs i is);
      concentrator = without_below old substation;
    }) ≡ (let s = seen_by n old in record (with_lost (with_link s substation (hung_up (link_at s.concentrator substation))) substation) {
      substations = map substation_of (slice_set xs i is);
    }))
    as_hung = at_every _ refl refl
