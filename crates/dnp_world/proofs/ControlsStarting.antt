-- How a control that can go at once stands over the link above, whether or not it is in progress there.
use Rattle.std.proofs.Common.{◌≡◌, ℕ, true, false, Bool, ◌&&◌, if◌then◌else◌, [], Option, Some, None, IfSome, refl, sym, ap, ◌∙◌, subst, eqb-true}
use Rattle.std.proofs.lemmas.Bool.{and_parts, not-true}
use Rattle.std.proofs.lemmas.List.Elements.{All-nil}
use Rattle.dnp_concentrator.specs.Relaying as relaying
use Rattle.dnp_concentrator.specs.Relaying.{step_of_progress}
use Rattle.dnp_concentrator.specs.declared.progress.Progress.{Progress}
use Rattle.dnp_concentrator.specs.declared.progress.Stage.{Stage}
use Rattle.dnp_concentrator.specs.declared.progress.Stage.TheVariants.{Selecting, Selected, Operating, Known}
use Rattle.dnp_controls.specs.Book.{entry_of, is_pending, next_of}
use Rattle.dnp_controls.specs.declared.book.Entry.{Entry}
use Rattle.dnp_master.specs.Calls.{is_selected}
use Rattle.dnp_master.specs.State.{is_idle}
use Rattle.dnp_objects.specs.Counts.{IsEqualityTest}
use Rattle.dnp_objects.specs.Equality.{command_eq}
use Rattle.dnp_objects.specs.declared.command.Command.{Command}
use Rattle.dnp_outstation.specs.State.{holds_read, is_free, is_quiet}
use Rattle.dnp_world.specs.Behind.{Elsewhere}
use Rattle.dnp_world.specs.Channels.{are_quiet}
use Rattle.dnp_world.specs.CommandWidths.{HasWidths}
use Rattle.dnp_world.specs.ControlAnswers.{ConfirmsReport}
use Rattle.dnp_world.specs.ControlExchanges.{CanBegin, ExchangeEnds, HasSelected, next_step, status_at}
use Rattle.dnp_world.specs.Controls.{found_in, is_free_for}
use Rattle.dnp_world.specs.ControlsInStep.{GoesWith, InStep, IsOfEntry, IsUnspent}
use Rattle.dnp_world.specs.Rounds.{is_quiet_above}
use Rattle.dnp_world.specs.SystemStanding.{IsStanding, lists_of, seen_above}
use Rattle.dnp_world.specs.Systems.{System}
use Rattle.dnp_world.proofs.BelowKeeps.{some_of}
use Rattle.dnp_world.proofs.ControlAccepts.{status_told}
use Rattle.dnp_world.proofs.ControlBooks.{next_found as next_is_found}
use Rattle.dnp_world.proofs.ControlsAbove.{ends_above}
use Rattle.dnp_world.proofs.ControlsAccepted.{Begins, IsSelected, Starts, Tells}
use Rattle.dnp_world.proofs.ControlsOther.{other_operate, other_select}
use Rattle.dnp_world.proofs.RelaySteps.{next_has}
use Rattle.dnp_world.proofs.StepBooks.{next_found}

-- what stands selected, where a test says so
chosen : IsEqualityTest command_eq → (o : Option Command) (command : Command) → is_selected o command ≡ true → o ≡ Some command
chosen equal None command is = absurd (cc)
chosen equal (Some x) command is = ap (λ (c : Command). Some c) ((equal.decides x command).0 is)

module _ (equal : IsEqualityTest command_eq) (s : System) {el : Elsewhere} (entry : Entry) (h : IsStanding el s) (steps : InStep s)
    (quiet : is_quiet_above s ≡ true) (next : next_of s.centre.orders.entries 0 ≡ Some entry) where
  abbrev ends : ExchangeEnds
  ends = ends_above s []

  idle : is_idle s.centre.link.master ≡ true
  idle = (and_parts (is_idle s.centre.link.master) (is_quiet s.concentrator.core && are_quiet s.above) quiet).0

  core : (s.concentrator.core.is_open ≡ true) × (is_free s.concentrator.core ≡ true)
  core =
      let parts = and_parts (is_idle s.centre.link.master) (is_quiet s.concentrator.core && are_quiet s.above) quiet in
      and_parts s.concentrator.core.is_open (is_free s.concentrator.core) (and_parts (is_quiet s.concentrator.core) (are_quiet s.above) parts.1).0

  holds_none : holds_read s.concentrator.core.session.last ≡ false
  holds_none = not-true (holds_read s.concentrator.core.session.last) (and_parts _ _ (and_parts _ _ core.1).1).1

  widths : HasWidths entry.command
  widths = (next_has (λ (e : Entry). HasWidths e.command) s.centre.orders.entries 0 entry steps.widths next).0

  pending : is_pending entry.state ≡ true
  pending = (next_has (λ (e : Entry). HasWidths e.command) s.centre.orders.entries 0 entry steps.widths next).1

  found : found_in s.centre.orders.entries entry.id ≡ Some entry
  found = next_is_found s.centre.orders.entries 0 entry steps.orders.rising steps.orders.from_1 next

  -- its SELECT comes next
  begins : next_step 0 ends ≡ relaying.Selects entry.id entry.command → CanBegin 0 entry ends
  begins selects = record {
    idle = idle;
    number = h.above.number;
    selects = selects;
    found = found;
    widths = widths;
    is_open = core.0;
    reports = h.above.outstation.well.order.number;
    other = other_select [] (seen_above s (lists_of h.links.above)) h.links.above entry.command h.above h.behind.above_stands idle core.0;
    clear = refl;
  }

  -- ---- a control in progress

  module _ (p : Progress) (there : s.centre.link.progress ≡ Some p) (id_is : p.id ≡ entry.id) (g : GoesWith s.centre.orders 0 p) where
    fits : IsOfEntry 0 p entry
    fits =
        some_of (IsOfEntry 0 p) (entry_of s.centre.orders.entries p.id) entry
        (ap (entry_of s.centre.orders.entries) id_is ∙ next_found s.centre.orders.entries 0 entry steps.orders.rising next) g.entry

    command_is : p.command ≡ entry.command
    command_is = sym fits.1

    step_is : (stage : Stage) → p.stage ≡ stage → next_step 0 ends ≡ step_of_progress s.centre.link.master.selected p stage
    step_is stage at = rw (idle, there) (ap (step_of_progress s.centre.link.master.selected p) at)

    selects_it : relaying.Selects p.id p.command ≡ relaying.Selects entry.id entry.command
    selects_it = ap (λ (n : ℕ). relaying.Selects n p.command) id_is ∙ ap (λ (c : Command). relaying.Selects entry.id c) command_is

    -- its OPERATE comes next
    selected : p.stage ≡ Selected → is_selected s.centre.link.master.selected p.command ≡ true → HasSelected entry ends
    selected at stands = record {
      idle = idle;
      number = h.above.number;
      progress = there
          ∙ ap (λ (n : ℕ). Some (record { id = n; command = p.command; stage = p.stage })) id_is
          ∙ ap (λ (c : Command). Some (record { id = entry.id; command = c; stage = p.stage })) command_is
          ∙ ap (λ (x : Stage). Some (record { id = entry.id; command = entry.command; stage = x })) at;
      selected = chosen equal s.centre.link.master.selected p.command stands ∙ ap (λ (c : Command). Some c) command_is;
      found = found;
      widths = widths;
      new = record {
        is_open = core.0;
        other = other_operate [] (seen_above s (lists_of h.links.above)) h.links.above entry.command h.above h.behind.above_stands idle core.0;
        holds_none = holds_none;
        number = h.above.outstation.well.order.number;
      };
      confirms = All-nil ConfirmsReport;
    }

    by_stage : (stage : Stage) → p.stage ≡ stage → Starts 0 entry ends
    by_stage Selecting at = Begins (begins (step_is Selecting at ∙ selects_it))
    by_stage Selected at = by (is_selected s.centre.link.master.selected p.command) refl
      where
        by : (b : Bool) → is_selected s.centre.link.master.selected p.command ≡ b → Starts 0 entry ends
        by true stands = IsSelected (selected at stands)
        by false other =
            Begins (begins (step_is Selected at
            ∙ ap (λ (b : Bool). if b then relaying.Operates p.id p.command else relaying.Selects p.id p.command) other ∙ selects_it))
    by_stage Operating at = absurd (subst IsUnspent at (fits.2 pending))
    by_stage (Known status) at =
        let finishes : next_step 0 ends ≡ relaying.Finishes entry.id status =
        step_is (Known status) at ∙ ap (λ (n : ℕ). relaying.Finishes n status) id_is in
        Tells status (subst IsUnspent at (fits.2 pending)) finishes
        (ap (λ (x : relaying.Step). status_at (relaying.ledger_after ends.book x) entry.id) finishes
        ∙ status_told ends.book entry.id entry status found)

  by_progress : (o : Option Progress) → s.centre.link.progress ≡ o → is_free_for entry.id o ≡ true → IfSome o (GoesWith s.centre.orders 0)
      → Starts 0 entry ends
  by_progress None there free g = Begins (begins (rw (idle, there, next) refl))
  by_progress (Some p) there free g = by_stage p there (eqb-true p.id entry.id free) g p.stage refl

pub above_starts : IsEqualityTest command_eq → (s : System) {el : Elsewhere} (entry : Entry) → IsStanding el s → InStep s → is_quiet_above s ≡ true
    → next_of s.centre.orders.entries 0 ≡ Some entry → is_free_for entry.id s.centre.link.progress ≡ true → Starts 0 entry (ends_above s [])
above_starts equal s entry h steps quiet next free =
    by_progress equal s entry h steps quiet next s.centre.link.progress refl free steps.above
