-- A step of relaying keeps what stands behind the system.
use Rattle.std.proofs.Common.{◌≡◌, ℕ, true, List, [], ◌∷◌, ◌++◌, map, refl, sym, ap, ◌∙◌, subst}
use Rattle.std.specs.Prelude.{slice_get}
use Rattle.dnp_objects.specs.Counts.{IsCoveredBy}
use Rattle.dnp_objects.specs.declared.command.Command.{Command}
use Rattle.dnp_controls.specs.Book.{Ledger}
use Rattle.dnp_concentrator.specs.Below.{link_in}
use Rattle.dnp_concentrator.specs.BookOutputs.{ordered}
use Rattle.dnp_concentrator.specs.Relaying.{Relaying, Step, ledger_after, relaying_after, step_of}
use Rattle.dnp_world.specs.Behind.{Elsewhere}
use Rattle.dnp_world.specs.declared.event.Link.TheVariants as link
use Rattle.dnp_world.specs.Channels.{ChannelState}
use Rattle.dnp_world.specs.ControlsInStep.{InStep}
use Rattle.dnp_world.specs.Joined.{Follows}
use Rattle.dnp_world.specs.Kept.{command_of, order_of, used_commands}
use Rattle.dnp_world.specs.LawLink.{LawLink}
use Rattle.dnp_world.specs.SystemEvents.{RelaysOn, Refuses, Steps}
use Rattle.dnp_world.specs.SystemStanding.{lists_of, seen_below, IsJoinedBelow, IsStanding, Keeps}
use Rattle.dnp_world.specs.Systems.{SubstationState, System, has_substation, link_at, middle_of, station_of}
use Rattle.dnp_world.proofs.AboveEvents.{with_ends}
use Rattle.dnp_world.proofs.AboveKeeps.{Above, above_follows, none_listed}
use Rattle.dnp_world.proofs.BelowCalls.{has_link_to, link_keeps, with_link_to}
use Rattle.dnp_world.proofs.BelowEvents.{both_as, none_behind, nothing_gone, nothing_listed, with_both}
use Rattle.dnp_world.proofs.BelowKeeps.{Middle, TurnLaws, below_follows, with_controls, some_of}
use Rattle.dnp_world.proofs.Issuing.{same_keeps}
use Rattle.dnp_world.proofs.RelayLinks.{RequestLaws, asked_in, book_same, book_used, step_goes, step_points}
use Rattle.dnp_world.proofs.RelaySteps.{IsInStep, step_widths}
use Rattle.dnp_world.proofs.RelayWidths.{CommandLaws, controls_fit}
use Rattle.dnp_world.proofs.SystemPlans.{link_here}

-- ---- the step

-- what the laws promise that it rests on
pub record RelayLaws : Type 0 where
  pub turns : TurnLaws
  pub requests : RequestLaws
  pub commands : CommandLaws

-- each link goes with its book
pub below_in_step : CommandLaws → (s : System) {el : Elsewhere} (substation : ℕ) → IsStanding el s → InStep s
    → IsInStep (link_at s.concentrator substation) s.concentrator.controls substation
below_in_step laws s substation h i = record { control = i.below substation; sound = i.controls; widths = controls_fit laws s h i.widths }

pub above_in_step : (s : System) → InStep s → IsInStep s.centre.link s.centre.orders 0
above_in_step s i = record { control = i.above; sound = i.orders; widths = i.widths }

pub relays_below : RelayLaws → (old new : System) {el : Elsewhere} (substation : ℕ) → has_substation old substation ≡ true → IsStanding el old → InStep old
    → RelaysOn (link.Below substation) old new → Keeps el substation [] old new
relays_below laws old new substation has h i (Refuses refused same) = same_keeps substation old new h same
relays_below laws old new {el = el} substation has h i (Steps pending sends) =
    let r : Relaying = link_in old.concentrator.links substation in
    let book : Ledger = old.concentrator.controls in
    let step : Step = step_of r book.entries substation in
    let next : Relaying = relaying_after r old.now step in
    let was : SubstationState = sends.was in
    let lines : ChannelState = sends.is.channel in
    let l : LawLink = h.links.below substation in
    let is : SubstationState = record was { channel = lines } in
    let middle : Middle = with_link_to old substation next in
    let inside : IsInStep r book substation = below_in_step laws.commands old substation h i in
    let before : IsJoinedBelow old.now r l was =
    some_of (IsJoinedBelow old.now r l) (slice_get old.substations substation) was sends.there (h.below substation) in
    let controls : Ledger = ledger_after book step in
    subst (λ (x : System). Keeps el substation [] old x)
    (sym (sends.after ∙ ap (λ (x : SubstationState). with_controls controls (with_both old substation x middle)) sends.changed.1
    ∙ ap (with_controls controls) (both_as old substation was is middle refl)))
    (below_follows laws.turns old h substation was is middle controls nothing_gone (lists_of l) [] (asked_in step) sends.there
    (link_keeps old substation next (step_points r old.now step)) before.shown (nothing_listed l)
    (record {
      used = book_used order_of (λ command. (substation, command)) (λ e state. refl) r book substation step refl
          (λ e target. ap (λ (n : ℕ). (n, e.command)) target) inside.control pending;
      orders = book_same order_of (λ e state. refl) book step;
      shown = book_same (ordered old.concentrator.indices) (λ e state. refl) book step;
    })
    (subst (λ (x : Relaying). Follows [] [] (asked_in step) was.outputs.performed l (seen_below old.now x is (lists_of l)))
    (sym (link_here old.concentrator.links substation next (has_link_to old substation has)))
    (step_goes laws.requests (station_of was) (lists_of l) old.now r book.entries substation was.channel lines l step refl
    (step_widths r book substation step refl inside) before.joined sends.changed.0)))

pub relays_above : RelayLaws → (centre : ℕ) (old new : System) {el : Elsewhere} (substation : ℕ) → IsStanding el old → InStep old
    → RelaysOn (link.Above centre) old new
    → Keeps el substation [] old new
relays_above laws centre old new substation h i (Refuses refused same) = same_keeps substation old new h same
relays_above laws centre old new {el = el} substation h i (Steps pending sends) =
    let r : Relaying = old.centre.link in
    let book : Ledger = old.centre.orders in
    let step : Step = step_of r book.entries 0 in
    let next : Relaying = relaying_after r old.now step in
    let l : LawLink = h.links.above in
    let inside : IsInStep r book 0 = above_in_step old i in
    let orders : Ledger = ledger_after book step in
    let a : Above = with_ends old (middle_of old.concentrator) next new.above in
    subst (λ (x : System). Keeps el substation [] old x) (sym sends.1)
    (above_follows laws.turns old h substation a orders [] [] (asked_in step) (lists_of l)
    (record {
      lost = refl;
      journal = none_behind _;
      performs = none_behind _;
      used = used_as (used_commands book.entries) (asked_in step) (used_commands orders.entries)
          (book_used command_of (λ command. command) (λ e state. refl) r book 0 step refl (λ e target. refl) inside.control pending);
      same = book_same command_of (λ e state. refl) book step;
    })
    (none_listed l)
    (step_goes laws.requests (middle_of old.concentrator) (lists_of l) old.now r book.entries 0 old.above new.above l step refl
    (step_widths r book 0 step refl inside) h.above sends.0))
  where
    -- commands by themselves
    used_as : (was commands is : List Command) → IsCoveredBy (was ++ map (λ command. command) commands) is → IsCoveredBy (was ++ commands) is
    used_as was commands is h = subst (λ (xs : List Command). IsCoveredBy (was ++ xs) is) (map_same commands) h
      where
        map_same : (xs : List Command) → map (λ command. command) xs ≡ xs
        map_same [] = refl
        map_same (x ∷ xs) = ap (λ (ys : List Command). x ∷ ys) (map_same xs)
