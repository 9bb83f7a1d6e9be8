-- What comes up the lines of a system.
use Rattle.std.proofs.Common.{◌≡◌, ℕ, ◌<◌, true, length, List, [], ◌∷◌, ◌++◌, map, get_or, slice_set, None, Some, Result, Ok, Err, refl, sym, ap, ◌∙◌, subst, append-nil}
use Rattle.std.specs.Prelude.{slice_get}
use Rattle.std.proofs.lemmas.List.{map-set, set-set}
use Rattle.dnp_objects.specs.declared.row.Row.{Row}
use Rattle.dnp_line.specs.Lines.{LineState}
use Rattle.dnp_master.specs.declared.fault.MasterFault.{MasterFault}
use Rattle.dnp_master.specs.Calls.{Taking, receive_of}
use Rattle.dnp_master.specs.State.{State as MasterState}
use Rattle.dnp_concentrator.specs.Below.{link_in}
use Rattle.dnp_concentrator.specs.PerCentre.{at, of_each, with_at}
use Rattle.dnp_concentrator.specs.declared.centre.Centre.{Centre}
use Rattle.dnp_concentrator.specs.declared.per_centre.PerCentre.{PerCentre}
use Rattle.dnp_controls.specs.Book.{Ledger}
use Rattle.dnp_eventbuf.specs.Archive.{Archive}
use Rattle.dnp_eventbuf.specs.EventBuffer.{EventBuffer, dropped_by}
use Rattle.dnp_eventbuf.specs.Sides.{ForEach}
use Rattle.dnp_eventbuf.specs.declared.pair.TheConstants.{CENTRES}
use Rattle.dnp_world.specs.Centres.{ChangesAll, has_link}
use Rattle.dnp_world.specs.Channels.{ChannelState, state_of}
use Rattle.dnp_world.specs.MasterEnds.{ComesToMaster, ListsDropped, TakesBy, TakesGiven, none_dropped}
use Rattle.dnp_world.specs.SystemEvents.{ComesUp, HasNumbers, MasterReceives, MasterTakes, centre_taken, concentrator_taken, dropped_for, taken_below, with_substation}
use Rattle.dnp_world.specs.SystemParts.{centre_of, substation_of}
use Rattle.dnp_world.specs.Systems.{CentreState, ConcentratorState, SubstationState, System, has_substation, link_at}
use Rattle.dnp_world.specs.Wholes.{Whole, WholeConcentrator, seen_by}
use Rattle.dnp_world.specs.declared.channel.Channel.{Channel}
use Rattle.dnp_world.specs.declared.event.Link.TheVariants.{Above, Below}
use Rattle.dnp_world.specs.declared.substation.Substation.{Substation}
use Rattle.dnp_world.specs.steps.WholeSteps as all
use Rattle.dnp_world.specs.steps.WholeSteps.{HaveNumbers, queued_for}
use Rattle.dnp_world.proofs.CentrePlaces.{centre_view, own_there}
use Rattle.dnp_world.proofs.ListedAt.{set_here}
use Rattle.dnp_world.proofs.MasterTakes.{still_listed}
use Rattle.dnp_world.proofs.PerCentre.{at_every, seen_there}
use Rattle.dnp_world.proofs.SystemPlaces.{is_there, there}

-- ---- to a centre

-- what stands beside what was taken, whatever was
beside_by : (r : Result Taking MasterFault) (Takes : Taking → Type 0) (Same Beside : Type 0) (old new : ChannelState)
    → TakesBy r (λ t. Takes t × Beside) (Same × Beside) old new → Beside
beside_by (Ok t) Takes Same Beside old new took = took.1.1
beside_by (Err fault) Takes Same Beside old new same = same.1.1

beside_given : (given : List (List ℕ)) (master : MasterState) (now : ℕ) (Takes : Taking → Type 0) (Same Beside : Type 0) (old new : ChannelState)
    → TakesGiven given master now (λ t. Takes t × Beside) (Same × Beside) old new → Beside
beside_given [] master now Takes Same Beside old new same = same.1.1
beside_given (fragment ∷ others) master now Takes Same Beside old new came =
    beside_by (receive_of master now fragment) Takes Same Beside old new came

-- the system with the link above and what the centre holds
abbrev with_above : System → CentreState → ChannelState → System
with_above s centre lines = record s { centre = centre; above = lines }

above_same : (old : System) (centre : CentreState) (between lines : ChannelState) → lines ≡ between → centre ≡ old.centre
    → with_above old centre lines ≡ record old { above = between }
above_same old centre between lines is same = cc

above_by : (number : ℕ) (Beside : Type 0) (old : System) (centre : CentreState) (between lines : ChannelState) (r : Result Taking MasterFault)
    → TakesBy r (λ t. (centre ≡ centre_taken old.centre t) × Beside) ((centre ≡ old.centre) × Beside) between lines
    → MasterReceives (Above number) r (record old { above = between }) (with_above old centre lines)
above_by number Beside old centre between lines (Err fault) (is, same) = above_same old centre between lines is same.0
above_by number Beside old centre between lines (Ok t) (down, took) =
    (tt, (down, ap (λ (k : CentreState). with_above old k lines) took.0))

above_given : (number : ℕ) (Beside : Type 0) (old : System) (centre : CentreState) (between lines : ChannelState) (given : List (List ℕ))
    → TakesGiven given old.centre.link.master old.now (λ t. (centre ≡ centre_taken old.centre t) × Beside) ((centre ≡ old.centre) × Beside) between lines
    → MasterTakes (Above number) given (record old { above = between }) (with_above old centre lines)
above_given number Beside old centre between lines [] (is, same) = above_same old centre between lines is same.0
above_given number Beside old centre between lines (fragment ∷ others) came =
    above_by number Beside old centre between lines (receive_of old.centre.link.master old.now fragment) came

-- what comes to the master's end of the lines above is what comes to the centre
comes_above : (number : ℕ) (Beside : Type 0) (left : LineState → LineState) (old : System) (centre : CentreState) (lines : ChannelState)
    → ComesToMaster left old.centre.link.master old.now (λ t. (centre ≡ centre_taken old.centre t) × Beside) ((centre ≡ old.centre) × Beside) old.above lines
    → ComesUp left (Above number) old (with_above old centre lines)
comes_above number Beside left old centre lines came =
    let between : ChannelState = record old.above { up = left old.above.up; master_port = came.port } in
    record {
      given = came.given;
      between = record old { above = between };
      heard = (record { heard = came.heard; after = refl }, refl);
      came = above_given number Beside old centre between lines came.given came.came;
    }

-- as all see it: no rows are dropped
pub comes_to_centre : {J B : Type 0} (archive : J → Archive) (orders : B → Ledger) (n : ℕ) → n < CENTRES → (left : LineState → LineState) (rest : Whole)
    (centres : PerCentre (Centre J B)) (above : PerCentre Channel) (before k : Centre J B) (lines_before lines : Channel) (last : PerCentre (List Row))
    → before ≡ at n centres → lines_before ≡ at n above
    → (let was = centre_of archive orders before in let is = centre_of archive orders k in
    let none = ListsDropped none_dropped rest.history.dropped last in
    ComesToMaster left was.link.master rest.now (λ t. (is ≡ centre_taken was t) × none) ((is ≡ was) × none) (state_of lines_before) (state_of lines))
    → ChangesAll (Some n) (ComesUp left (Above n)) (record rest { centres = of_each (centre_of archive orders) centres; above = of_each state_of above })
    (record rest {
      centres = of_each (centre_of archive orders) (with_at n centres k);
      above = of_each state_of (with_at n above lines);
      history = record rest.history { dropped = last };
    })
comes_to_centre archive orders n low left rest centres above before k lines_before lines last there lines_there came =
    let base : System = centre_view archive orders n rest before lines_before in
    let Dropped : Type 0 = ListsDropped none_dropped rest.history.dropped last in
    let none : Dropped = beside_given came.given base.centre.link.master rest.now _ _ Dropped _ (state_of lines) came.came in
    rw (still_listed rest.history.dropped last none)
    (own_there archive orders n low (ComesUp left (Above n)) rest centres above before k lines_before lines there lines_there
    (comes_above n Dropped left base (centre_of archive orders k) (state_of lines) came))

-- ---- to the concentrator

-- one substation's lines and what the concentrator holds
abbrev with_below : System → ℕ → SubstationState → ConcentratorState → List Row → System
with_below s substation is middle dropped = record s {
  substations = slice_set s.substations substation is;
  concentrator = middle;
  history = record s.history { dropped = dropped };
}

abbrev MiddleTakes : System → ℕ → ConcentratorState → List Row → Taking → Type 0
MiddleTakes old substation middle dropped t =
    (HasNumbers old.concentrator substation t × (middle ≡ concentrator_taken old.concentrator substation t))
    × (dropped ≡ old.history.dropped ++ dropped_for old.concentrator substation t)

abbrev MiddleSame : System → ConcentratorState → List Row → Type 0
MiddleSame old middle dropped = (middle ≡ old.concentrator) × (dropped ≡ old.history.dropped)

below_same : (old : System) (substation : ℕ) (was : SubstationState) (middle : ConcentratorState) (between lines : ChannelState) (dropped : List Row)
    → lines ≡ between → MiddleSame old middle dropped
    → with_below old substation (record was { channel = lines }) middle dropped ≡ with_substation old substation (record was { channel = between })
below_same old substation was middle between lines dropped is same =
    rw (is, same.0, same.1)

below_by : (old : System) (substation : ℕ) (was : SubstationState) (middle : ConcentratorState) (between lines : ChannelState) (dropped : List Row)
    (r : Result Taking MasterFault) → slice_get old.substations substation ≡ Some was
    → TakesBy r (MiddleTakes old substation middle dropped) (MiddleSame old middle dropped) between lines
    → MasterReceives (Below substation) r (with_substation old substation (record was { channel = between }))
    (with_below old substation (record was { channel = lines }) middle dropped)
below_by old substation was middle between lines dropped (Err fault) at (is, same) = below_same old substation was middle between lines dropped is same
below_by old substation was middle between lines dropped (Ok t) at (down, took) =
    let mid : SubstationState = record was { channel = between } in
    let is : SubstationState = record was { channel = lines } in (
      took.0.0,
      record {
        was = mid;
        is = is;
        there = set_here old.substations substation was mid at;
        changed = (down, refl);
        after =
            ap (λ (k : ConcentratorState). with_below old substation is k dropped) took.0.1
            ∙ ap (λ (rows : List Row). with_below old substation is (concentrator_taken old.concentrator substation t) rows) took.1
            ∙ ap (λ (xs : List SubstationState). record (taken_below old substation t) { substations = xs }) (sym (set-set old.substations substation mid is));
      },
    )

below_given : (old : System) (substation : ℕ) (was : SubstationState) (middle : ConcentratorState) (between lines : ChannelState) (dropped : List Row)
    (given : List (List ℕ)) → slice_get old.substations substation ≡ Some was
    → TakesGiven given (link_at old.concentrator substation).master old.now (MiddleTakes old substation middle dropped)
    (MiddleSame old middle dropped) between lines
    → MasterTakes (Below substation) given (with_substation old substation (record was { channel = between }))
    (with_below old substation (record was { channel = lines }) middle dropped)
below_given old substation was middle between lines dropped [] at (is, same) = below_same old substation was middle between lines dropped is same
below_given old substation was middle between lines dropped (fragment ∷ others) at came =
    below_by old substation was middle between lines dropped (receive_of (link_at old.concentrator substation).master old.now fragment) at came

comes_at : (left : LineState → LineState) (old : System) (substation : ℕ) (was : SubstationState) (middle : ConcentratorState) (lines : ChannelState)
    (dropped : List Row) → slice_get old.substations substation ≡ Some was
    → ComesToMaster left (link_at old.concentrator substation).master old.now (MiddleTakes old substation middle dropped) (MiddleSame old middle dropped)
    was.channel lines
    → ComesUp left (Below substation) old (with_below old substation (record was { channel = lines }) middle dropped)
comes_at left old substation was middle lines dropped at came =
    let between : ChannelState = record was.channel { up = left was.channel.up; master_port = came.port } in
    record {
      given = came.given;
      between = with_substation old substation (record was { channel = between });
      heard = record {
        was = was;
        is = record was { channel = between };
        there = at;
        changed = (record { heard = came.heard; after = refl }, refl);
        after = refl;
      };
      came = below_given old substation was middle between lines dropped came.given at came.came;
    }

-- what comes to the master's end of a substation's lines is what comes to the concentrator
comes_below : (left : LineState → LineState) (old : System) (substation i : ℕ) (xs : List Substation) (was : Substation) (middle : ConcentratorState)
    (lines : Channel) (dropped : List Row) → old.substations ≡ map substation_of xs → i ≡ substation → has_substation old substation ≡ true
    → was ≡ get_or xs i was
    → ComesToMaster left (link_at old.concentrator substation).master old.now (MiddleTakes old substation middle dropped) (MiddleSame old middle dropped)
    (state_of was.channel) (state_of lines)
    → ComesUp left (Below substation) old (record old {
      substations = map substation_of (slice_set xs i (record was { channel = lines }));
      concentrator = middle;
      history = record old.history { dropped = dropped };
    })
comes_below left old substation i xs was middle lines dropped list same has at came =
    let low : i < length xs = rw same (is_there old xs substation list has) in
    let here : slice_get old.substations substation ≡ Some (substation_of was) = rw (list, ← same) (there substation_of xs i was was low at) in
    let is : Substation = record was { channel = lines } in
    let written : map substation_of (slice_set xs i is) ≡ slice_set old.substations substation (substation_of is) =
    rw (list, ← same) (map-set substation_of xs i is) in
    subst (λ (ys : List SubstationState). ComesUp left (Below substation) old
    (record old { substations = ys; concentrator = middle; history = record old.history { dropped = dropped } })) (sym written)
    (comes_at left old substation (substation_of was) middle (state_of lines) dropped here came)

-- ---- as all see it

-- what follows of what was taken
by_mapped : (r : Result Taking MasterFault) (Takes Takes' : Taking → Type 0) (Same Same' : Type 0) (old new : ChannelState)
    → ((t : Taking) → Takes t → Takes' t) → (Same → Same') → TakesBy r Takes Same old new → TakesBy r Takes' Same' old new
by_mapped (Ok t) Takes Takes' Same Same' old new f g (down, took) = (down, f t took)
by_mapped (Err fault) Takes Takes' Same Same' old new f g (is, same) = (is, g same)

given_mapped : (given : List (List ℕ)) (master : MasterState) (now : ℕ) (Takes Takes' : Taking → Type 0) (Same Same' : Type 0) (old new : ChannelState)
    → ((t : Taking) → Takes t → Takes' t) → (Same → Same') → TakesGiven given master now Takes Same old new
    → TakesGiven given master now Takes' Same' old new
given_mapped [] master now Takes Takes' Same Same' old new f g (is, same) = (is, g same)
given_mapped (fragment ∷ others) master now Takes Takes' Same Same' old new f g came =
    by_mapped (receive_of master now fragment) Takes Takes' Same Same' old new f g came

comes_mapped : (left : LineState → LineState) (master : MasterState) (now : ℕ) (Takes Takes' : Taking → Type 0) (Same Same' : Type 0)
    (old new : ChannelState) → ((t : Taking) → Takes t → Takes' t) → (Same → Same') → ComesToMaster left master now Takes Same old new
    → ComesToMaster left master now Takes' Same' old new
comes_mapped left master now Takes Takes' Same Same' old new f g came = record {
  port = came.port;
  given = came.given;
  heard = came.heard;
  came = given_mapped came.given master now Takes Takes' Same Same' _ new f g came.came;
}

-- the concentrator takes a substation's rows, and each queue drops what it has no room for
abbrev AllTake : Whole → ℕ → WholeConcentrator → PerCentre (List Row) → Taking → Type 0
AllTake old substation middle last t =
    (HaveNumbers old.concentrator substation t × (middle ≡ all.concentrator_taken old.concentrator substation t))
    × ListsDropped (all.dropped_for old.concentrator substation t) old.history.dropped last

abbrev AllSame : Whole → WholeConcentrator → PerCentre (List Row) → Type 0
AllSame old middle last = (middle ≡ old.concentrator) × ListsDropped none_dropped old.history.dropped last

-- the concentrator of this whole as a centre sees it
abbrev seen_middle : ℕ → Whole → WholeConcentrator → ConcentratorState
seen_middle n old c = (seen_by n (record old { concentrator = c })).concentrator

taken_seen : (old : Whole) (substation : ℕ) (t : Taking) → ForEach (λ n. seen_middle n old (all.concentrator_taken old.concentrator substation t)
    ≡ concentrator_taken (seen_middle n old old.concentrator) substation t)
taken_seen old substation t = at_every _ refl refl

pub comes_to_concentrator : (left : LineState → LineState) (old : Whole) (substation i : ℕ) (xs : List Substation) (was : Substation)
    (middle : WholeConcentrator) (lines : Channel) (last : PerCentre (List Row)) → old.substations ≡ map substation_of xs → i ≡ substation
    → has_link old (Below substation) ≡ true → was ≡ get_or xs i was
    → ComesToMaster left (link_in old.concentrator.links substation).master old.now (AllTake old substation middle last)
    (AllSame old middle last) (state_of was.channel) (state_of lines)
    → ChangesAll None (ComesUp left (Below substation)) old (record old {
      substations = map substation_of (slice_set xs i (record was { channel = lines }));
      concentrator = middle;
      history = record old.history { dropped = last };
    })
comes_to_concentrator left old substation i xs was middle lines last list same has at_place came n low =
    comes_below left (seen_by n old) substation i xs was (seen_middle n old middle) lines (at n last) list same has at_place
    (comes_mapped left (link_in old.concentrator.links substation).master old.now _ _ _ _ (state_of was.channel) (state_of lines)
    (λ t took. (
      (λ some. took.0.0 some n low, ap (seen_middle n old) took.0.1 ∙ taken_seen old substation t n low),
      took.1 n low ∙ ap (λ (rows : List Row). at n old.history.dropped ++ rows)
          (seen_there (λ (s : EventBuffer). dropped_by s (queued_for old.concentrator substation t)) n old.concentrator.queues),
    )) (λ kept. (ap (seen_middle n old) kept.0, ap (λ (lists : PerCentre (List Row)). at n lists) (still_listed old.history.dropped last kept.1))) came)
