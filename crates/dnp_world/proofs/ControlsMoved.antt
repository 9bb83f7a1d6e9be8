-- What a clean control has moved.
use Rattle.std.proofs.Common.{◌≡◌, ℕ, ◌+◌, ◌<◌, true, [], ◌∷◌, ◌++◌, length, Option, Some, None, refl, sym, ap, ◌∙◌, subst, append-nil}
use Rattle.std.specs.Prelude.{is_none, nat_lt, slice_get}
use Rattle.std.specs.Option.{option_and_then, option_map}
use Rattle.std.proofs.lemmas.Bool.{and_parts, ltb-true}
use Rattle.std.proofs.lemmas.Option.{none-some, same_Some}
use Rattle.dnp_concentrator.specs.BookOutputs.{added_for, relay_check}
use Rattle.dnp_concentrator.specs.Mapped.{command_below}
use Rattle.dnp_controls.specs.Book.{Ledger, IsSoundLedger, added, entry_of, is_pending, next_of}
use Rattle.dnp_controls.specs.Latches.{plain_check}
use Rattle.dnp_controls.specs.declared.book.Entry.{Entry}
use Rattle.dnp_controls.specs.declared.book.State.TheVariants.{Pending}
use Rattle.dnp_objects.specs.declared.command.Command.{Command}
use Rattle.dnp_world.specs.Arriving.{UnderWay}
use Rattle.dnp_world.specs.Behind.{Elsewhere}
use Rattle.dnp_world.specs.CommandWidths.{HasWidths}
use Rattle.dnp_world.specs.ControlExchanges.{status_at}
use Rattle.dnp_world.specs.ControlMoves.{ControlMoves}
use Rattle.dnp_world.specs.Controls.{AtCentre, AtConcentrator, CanGo, IsAccepted, IsControl, IsControlFor, IsRefusedControl, IsRefusedOn, are_quiet_for, found_in, is_free_below, is_free_for, next_below, substation_in}
use Rattle.dnp_world.specs.ControlsInStep.{InStep}
use Rattle.dnp_world.specs.Rounds.{is_quiet_above, is_quiet_at, is_quiet_below}
use Rattle.dnp_world.specs.SystemStanding.{IsStanding}
use Rattle.dnp_world.specs.SystemRuns.{Happens}
use Rattle.dnp_world.specs.Systems.{SubstationState, System, has_substation, itself, link_at}
use Rattle.dnp_world.specs.declared.event.Link.TheVariants.{Above, Below}
use Rattle.dnp_world.proofs.ControlBooks.{next_found as next_is_found}
use Rattle.dnp_world.proofs.ControlsAbove.{KeepsAround, KeptAbove, SeenAbove, ends_above, over_above}
use Rattle.dnp_world.proofs.ControlsAccepted.{Accepted, Begins, Starts, accepted_over}
use Rattle.dnp_world.proofs.ControlsBelow.{KeptBelow}
use Rattle.dnp_world.proofs.ControlsClean.{CleanLaws, added_next, below_begins, free_above, free_below, next_above, none_is, none_mapped, plain_low, relay_low, relayed_some, same_lines, there_of}
use Rattle.dnp_world.proofs.ControlsRefused.{refused_over}
use Rattle.dnp_world.proofs.ControlsStarting.{above_starts}
use Rattle.dnp_world.proofs.ControlsToSubstations.{SeenBelow, ends_below, over_below, under_has}
use Rattle.dnp_world.proofs.RelaySteps.{next_has}
use Rattle.dnp_world.proofs.RelayWidths.{below_fits}
use Rattle.dnp_world.proofs.StepBooks.{added_carries, next_found}

module _ (laws : CleanLaws) (centre : ℕ) (old : System) {el : Elsewhere} (standing : IsStanding el old) (steps : InStep old) (entry : Entry)
    (next : next_of old.centre.orders.entries 0 ≡ Some entry) (goes : is_free_for entry.id old.centre.link.progress ≡ true)
    (quiet : are_quiet_for old (substation_in old entry.id) ≡ true) (free : is_free_below old (substation_in old entry.id) ≡ true) where
  widths : HasWidths entry.command
  widths = (next_has (λ (e : Entry). HasWidths e.command) old.centre.orders.entries 0 entry steps.widths next).0

  pending : is_pending entry.state ≡ true
  pending = (next_has (λ (e : Entry). HasWidths e.command) old.centre.orders.entries 0 entry steps.widths next).1

  found : found_in old.centre.orders.entries entry.id ≡ Some entry
  found = next_is_found old.centre.orders.entries 0 entry steps.orders.rising steps.orders.from_1 next

  -- the substation that it is for
  substation_is : (o : Option (ℕ × Command)) → command_below old.indices entry.command ≡ o
      → substation_in old entry.id ≡ option_map (λ (p : ℕ × Command). p.0) o
  substation_is o e =
      ap (option_and_then (λ (x : Entry). option_map (λ (p : ℕ × Command). p.0) (command_below old.indices x.command))) found
      ∙ ap (option_map (λ (p : ℕ × Command). p.0)) e

  above_quiet : is_quiet_above old ≡ true
  above_quiet = by (substation_in old entry.id) quiet
    where
      by : (o : Option ℕ) → are_quiet_for old o ≡ true → is_quiet_above old ≡ true
      by None quiet = quiet
      by (Some substation) quiet = (and_parts (is_quiet_above old) (is_quiet_below old substation) quiet).0

  -- ---- above

  -- the command whose point another centre's select reserves while it goes
  abbrev names : Option Command
  names = old.concentrator.reserved old.now

  abbrev AcceptedAbove : System → Type 0
  AcceptedAbove above =
      Accepted entry.id (relay_check old.indices names entry.command) entry.command (KeptAbove old.indices) (λ s. s.centre.orders) old above

  above_seen : SeenAbove centre old.indices names old (ends_above old [])
  above_seen =
      record { going = []; is = refl; under = laws.lines.quiet (Above centre) old standing above_quiet; checked = (standing.of_plan.middle_indices, refl) }

  starts : Starts 0 entry (ends_above old [])
  starts = above_starts laws.decides old entry standing steps above_quiet next goes

  above_found : entry_of old.centre.orders.entries entry.id ≡ Some entry
  above_found = next_found old.centre.orders.entries 0 entry steps.orders.rising next

  above_accepted : (above : System) → IsAccepted Happens itself (Above centre) (Some entry.id) old above → AcceptedAbove above
  unfolding over_above
  above_accepted above a =
      accepted_over laws.controls (Above centre) 0 (relay_check old.indices names entry.command) entry
      (over_above laws.lines centre old.indices names entry.id entry.command) (relay_low old.indices names entry.command) old above (ends_above old [])
      above_seen starts above_found pending a

  -- what a status above ends has operated nothing
  above_rests : (new : System) (status : ℕ) → IsRefusedOn Happens itself (Above centre) (Some entry.id) status old new
      → new.history.operated ≡ old.history.operated
  unfolding over_above
  above_rests new status refused =
      let kept : KeptAbove old.indices [] old new =
      refused_over laws.controls (Above centre) 0 (relay_check old.indices names entry.command) entry
      (over_above laws.lines centre old.indices names entry.id entry.command) (relay_low old.indices names entry.command) old new (ends_above old []) status
      above_seen starts above_found pending refused in
      ap (λ a. a.history.operated) kept.keeps

  -- ---- below

  module _ (substation : ℕ) (command : Command) (is : command_below old.indices entry.command ≡ Some (substation, command)) (above : System)
      (accepted : AcceptedAbove above) where
    -- the substation is quiet, and nothing goes to it
    quiet_here : is_quiet_below old substation ≡ true
    quiet_here =
        (and_parts (is_quiet_above old) (is_quiet_below old substation)
        (subst (λ (x : Option ℕ). are_quiet_for old x ≡ true) (substation_is (Some (substation, command)) is) quiet)).1

    frees : (is_none (next_below old substation) ≡ true) × (is_none (link_at old.concentrator substation).progress ≡ true)
    frees = and_parts _ _ (subst (λ (x : Option ℕ). is_free_below old x ≡ true) (substation_is (Some (substation, command)) is) free)

    found_there : (was : SubstationState) × (slice_get old.substations substation ≡ Some was)
    found_there =
        let ends = and_parts (has_substation old substation) _ quiet_here in
        there_of old substation (slice_get old.substations substation) refl (and_parts _ (is_quiet_at (slice_get old.substations substation)) ends.1).1

    abbrev was : SubstationState
    was = found_there.0

    -- the concentrator's entry for it
    its : Entry
    its = record { id = old.concentrator.controls.last_id + 1; target = substation; command = command; state = Pending }

    keeps : KeepsAround old above
    keeps = accepted.kept.keeps

    links : above.concentrator.links ≡ old.concentrator.links
    links = ap (λ a. a.links) keeps

    controls : above.concentrator.controls ≡ added old.concentrator.controls substation command
    controls = accepted.kept.controls ∙ ap (added_for old.concentrator.controls) is

    its_next : next_of above.concentrator.controls.entries substation ≡ Some its
    unfolding its
    its_next = ap (λ (b : Ledger). next_of b.entries substation) controls ∙ added_next old.concentrator.controls substation command
        (none_mapped (λ (e : Entry). e.id) (next_of old.concentrator.controls.entries substation) frees.0)

    its_id : next_below above substation ≡ Some its.id
    its_id = ap (option_map (λ (e : Entry). e.id)) its_next

    under : UnderWay (Below substation) [] [] above
    under =
        let clear : UnderWay (Below substation) [] [] old = laws.lines.quiet (Below substation) old standing quiet_here in
        record {
          channel = clear.channel;
          there = same_lines old above substation (ap (λ a. a.substations) keeps) links ∙ clear.there;
          down_is = clear.down_is;
          up_is = clear.up_is;
        }

    long : substation < length above.concentrator.links
    long =
        ltb-true substation (length above.concentrator.links)
        ((and_parts (nat_lt substation (length above.substations)) (nat_lt substation (length above.concentrator.links))
        (under_has substation [] [] above under)).1)

    below_seen : SeenBelow substation was.outputs.outputs was.outputs.setpoints above (ends_below substation above was [])
    below_seen = record {
      was = was;
      there = ap (λ a. slice_get a.substations substation) keeps ∙ found_there.1;
      going = [];
      is = refl;
      under = under;
      long = long;
      outputs_are = refl;
      setpoints_are = refl;
    }

    sound : IsSoundLedger above.concentrator.controls
    sound =
        subst (λ (b : Ledger). IsSoundLedger b) (sym controls) ((added_carries laws.sound old.concentrator.controls substation command).sound steps.controls)

    below_starts : Starts substation its (ends_below substation above was [])
    unfolding its
    below_starts =
        Begins (below_begins old above substation was its standing quiet_here found_there.1 (none_is (link_at old.concentrator substation).progress frees.1)
        links its_next sound (below_fits old.indices entry.command (substation, command) widths is))

    below_found : entry_of above.concentrator.controls.entries its.id ≡ Some its
    below_found = next_found above.concentrator.controls.entries substation its sound.rising its_next

    below_accepted : (new : System) → IsAccepted Happens itself (Below substation) (Some its.id) above new
        → Accepted its.id (plain_check was.outputs.outputs was.outputs.setpoints command) command (KeptBelow substation)
        (λ s. s.concentrator.controls) above new
    unfolding its over_below
    below_accepted new a =
        accepted_over laws.controls (Below substation) substation (plain_check was.outputs.outputs was.outputs.setpoints command) its
        (over_below laws.lines laws.performs substation its.id command was.outputs.outputs was.outputs.setpoints)
        (plain_low was.outputs.outputs was.outputs.setpoints command) above new (ends_below substation above was []) below_seen below_starts below_found refl a

    -- what a status below ends, too
    below_rests : (new : System) (status : ℕ) → IsRefusedOn Happens itself (Below substation) (next_below above substation) status above new
        → new.history.operated ≡ old.history.operated
    unfolding its over_below
    below_rests new status refused =
        let kept : KeptBelow substation [] above new =
        refused_over laws.controls (Below substation) substation (plain_check was.outputs.outputs was.outputs.setpoints command) its
        (over_below laws.lines laws.performs substation its.id command was.outputs.outputs was.outputs.setpoints)
        (plain_low was.outputs.outputs was.outputs.setpoints command) above new (ends_below substation above was []) status below_seen below_starts below_found
        refl (subst (λ (o : Option ℕ). IsRefusedOn Happens itself (Below substation) o status above new) its_id refused) in
        kept.operated ∙ append-nil above.history.operated ∙ ap (λ a. a.history.operated) keeps

    moved : (new : System) → IsAccepted Happens itself (Below substation) (next_below above substation) above new → ControlMoves entry.id old new
    unfolding its
    moved new a =
        let b = below_accepted new (subst (λ (o : Option ℕ). IsAccepted Happens itself (Below substation) o above new) its_id a) in
        record {
          substation = substation;
          command = command;
          ordered = ap (option_and_then (λ (e : Entry). command_below old.indices e.command)) found ∙ is;
          operated = b.kept.operated ∙ ap (λ a. a.history.operated ++ (substation, command) ∷ []) keeps;
          above = ap (λ x. status_at x.centre.orders entry.id) b.kept.beside_is ∙ accepted.says;
          below = b.says;
        }

  -- ---- all of it

  refused_entry : (new : System) (status : ℕ) → IsRefusedControl Happens itself centre entry.id status old new → new.history.operated ≡ old.history.operated
  refused_entry new status (AtCentre refused) = above_rests new status refused
  refused_entry new status (AtConcentrator its above is first refused) = by (command_below old.indices entry.command) refl
    where
      by : (o : Option (ℕ × Command)) → command_below old.indices entry.command ≡ o → new.history.operated ≡ old.history.operated
      by None e = absurd (none-some its (sym (substation_is None e) ∙ is))
      by (Some p) e =
          let same : its ≡ p.0 = same_Some its p.0 (sym is ∙ substation_is (Some p) e) in
          below_rests p.0 p.1 e above (above_accepted above first) new status
          (subst (λ (n : ℕ). IsRefusedOn Happens itself (Below n) (next_below above n) status above new) same refused)

  clean_entry : (new : System) → IsControl Happens itself centre entry.id old new → ControlMoves entry.id old new
  clean_entry new control = by (command_below old.indices entry.command) refl
    where
      leads : (o : Option (ℕ × Command)) → command_below old.indices entry.command ≡ o
          → IsControlFor Happens itself centre (option_map (λ (p : ℕ × Command). p.0) o) entry.id old new
      leads o e = subst (λ (x : Option ℕ). IsControlFor Happens itself centre x entry.id old new) (substation_is o e) control

      by : (o : Option (ℕ × Command)) → command_below old.indices entry.command ≡ o → ControlMoves entry.id old new
      by None e = absurd (relayed_some old.indices names entry.command (above_accepted new (leads None e)).checks e)
      by (Some p) e = let (above, first, second) = leads (Some p) e in moved p.0 p.1 e above (above_accepted above first) new second

pub clean_moves : CleanLaws → (centre id : ℕ) (old new : System) {el : Elsewhere} → IsStanding el old → InStep old → CanGo id old
    → IsControl Happens itself centre id old new
    → ControlMoves id old new
clean_moves laws centre id old new standing steps can control =
    let n = next_above old id can.1 in
    subst (λ (i : ℕ). CanGo i old → IsControl Happens itself centre i old new → ControlMoves i old new) n.id_is
    (λ can control. clean_entry laws centre old standing steps n.entry n.next (free_above old n.entry.id can.1) can.0 (free_below old n.entry.id can.1) new
    control) can control

pub refused_rests : CleanLaws → (centre id status : ℕ) (old new : System) {el : Elsewhere} → IsStanding el old → InStep old → CanGo id old
    → IsRefusedControl Happens itself centre id status old new → new.history.operated ≡ old.history.operated
refused_rests laws centre id status old new standing steps can control =
    let n = next_above old id can.1 in
    subst (λ (i : ℕ). CanGo i old → IsRefusedControl Happens itself centre i status old new → new.history.operated ≡ old.history.operated) n.id_is
    (λ can control. refused_entry laws centre old standing steps n.entry n.next (free_above old n.entry.id can.1) can.0 (free_below old n.entry.id can.1) new
    status control) can control
