-- What an event touches keeps the controls in progress in step with the books.
use Rattle.std.proofs.Common.{◌≡◌, ℕ, zero, suc, ◌+◌, ◌<◌, ◌≤◌, List, [], ◌∷◌, map, Option, Some, None, IfSome, refl, sym, subst, arith}
use Rattle.std.specs.Option.{option_map}
use Rattle.std.specs.List.{All, AllPairs}
use Rattle.std.proofs.lemmas.Option.{none-some, same_Some}
use Rattle.std.proofs.lemmas.List.Elements.{All-nil, All-push}
use Rattle.dnp_objects.specs.Commands.{index_of}
use Rattle.dnp_objects.specs.declared.command.Command.{Command}
use Rattle.dnp_objects.specs.declared.command.Command.TheVariants.{Block, Set16, Set32}
use Rattle.dnp_controls.specs.Book.{Ledger, IsSoundLedger, added}
use Rattle.dnp_controls.specs.declared.book.Entry.{Entry}
use Rattle.dnp_controls.specs.declared.book.State.TheVariants.{Pending}
use Rattle.dnp_concentrator.specs.Below.{link_in, new_link}
use Rattle.dnp_concentrator.specs.BookOutputs.{all_added}
use Rattle.dnp_concentrator.specs.IndexKinds.{kind_of_command}
use Rattle.dnp_concentrator.specs.IndexMap.{IsMap, index_above}
use Rattle.dnp_concentrator.specs.Mapped.{command_above, with_index}
use Rattle.dnp_concentrator.specs.Relaying as relaying
use Rattle.dnp_concentrator.specs.Relaying.{Relaying, Step, ledger_after, relaying_after}
use Rattle.dnp_concentrator.specs.declared.index_kind.IndexKind.{IndexKind}
use Rattle.dnp_concentrator.specs.declared.plan.Plan.{Plan}
use Rattle.dnp_concentrator.specs.declared.span.Spans.{Spans}
use Rattle.dnp_eventbuf.specs.Archive.{Archive}
use Rattle.dnp_eventbuf.specs.EventBuffer.{EventBuffer}
use Rattle.dnp_pointdb.specs.declared.limits.TheConstants.{INDICES}
use Rattle.dnp_world.specs.Behind.{Elsewhere}
use Rattle.dnp_world.specs.CommandWidths.{HasWidths}
use Rattle.dnp_world.specs.ControlsInStep.{GoesWith, InStep}
use Rattle.dnp_world.specs.FreshSystems.{fresh_system}
use Rattle.dnp_world.specs.SystemStanding.{IsStanding}
use Rattle.dnp_world.specs.Systems.{System}
use Rattle.dnp_world.proofs.RelayKeeps.{above_in_step, below_in_step}
use Rattle.dnp_world.proofs.RelayWidths.{CommandLaws, FitsEntry}
use Rattle.dnp_world.proofs.StepBooks.{SoundLaw, added_carries, all_added_carries, carried, carried_same, step_carries, step_fits, step_in_progress}
use Rattle.dnp_world.proofs.StepEvents.{AreInStep, centre_changes, ends_in_step, link_changes, system_in_step, use_goes}
use Rattle.dnp_world.proofs.Touches.{Ends, Touched, Used, Nothing, LinkUsed, CentreUsed, LinkRelays, CentreRelays, Performs, Issues, AllHangUp, after_use, after_used, ends_of, step_above, step_at}

-- what laws promise of books, of the index map, and of commands
pub record StepLaws : Type 0 where
  pub sound : SoundLaw
  pub low : (spans : List Spans) (kind : IndexKind) (substation index above : ℕ) → IsMap spans
      → index_above spans substation kind index ≡ Some above → above < INDICES
  pub commands : CommandLaws

-- ---- commands

with_index_fits : (command : Command) (index : ℕ) → HasWidths command → index < INDICES → HasWidths (with_index command index)
with_index_fits (Block index code count on off) new (wide, codes, counts, ons, offs) low = (low, codes, counts, ons, offs)
with_index_fits (Set16 index value) new (wide, fits) low = (low, fits)
with_index_fits (Set32 index value) new (wide, fits) low = (low, fits)

above_fits : StepLaws → (spans : List Spans) (substation : ℕ) (command above : Command) → IsMap spans → HasWidths command
    → command_above spans substation command ≡ Some above → HasWidths above
above_fits laws spans substation command above is_map widths is = by (index_above spans substation (kind_of_command command) (index_of command)) refl is
  where
    by : (o : Option ℕ) → index_above spans substation (kind_of_command command) (index_of command) ≡ o
        → option_map (λ index. with_index command index) o ≡ Some above → HasWidths above
    by None found same = absurd (none-some above same)
    by (Some index) found same =
        subst HasWidths (same_Some (with_index command index) above same)
        (with_index_fits command index widths (laws.low spans (kind_of_command command) substation (index_of command) index is_map found))

-- ---- what is touched

-- links that have no control in progress
none_in_progress : {A : Type 0} (f : A → Relaying) → ((x : A) → (f x).progress ≡ None) → (book : Ledger) (xs : List A) (target i : ℕ)
    → IfSome (link_in (map f xs) i).progress (GoesWith book target)
none_in_progress f none book [] target i = tt
none_in_progress f none book (x ∷ xs) target zero = rw (none x) tt
none_in_progress f none book (x ∷ xs) target (suc i) = none_in_progress f none book xs target i

used_in_step : StepLaws → (old : System) {el : Elsewhere} → IsStanding el old → InStep old → (used : Used (ends_of old))
    → AreInStep (after_used (ends_of old) used)
used_in_step laws old s i used = by used
  where
    e : Ends
    e = ends_of old

    h : AreInStep e
    h = ends_in_step old i

    by : (x : Used e) → AreInStep (after_used e x)
    by Nothing = h
    by (LinkUsed substation call) =
        link_changes e substation (after_use (link_in e.links substation) call) e.controls (carried_same e.controls)
        (use_goes e.controls substation (link_in e.links substation) call (h.below substation)) h
    by (CentreUsed call) = centre_changes e (after_use e.centre call) e.orders (use_goes e.orders 0 e.centre call h.above) h.orders h.widths h
    by (LinkRelays substation now) =
        let step : Step = step_at e substation in
        link_changes e substation (relaying_after (link_in e.links substation) now step) (ledger_after e.controls step)
        (step_carries laws.sound e.controls step)
        (step_in_progress laws.sound (link_in e.links substation) now e.controls substation step refl (below_in_step laws.commands old substation s i)) h
    by (CentreRelays now) =
        let step : Step = step_above e in
        centre_changes e (relaying_after e.centre now step) (ledger_after e.orders step)
        (step_in_progress laws.sound e.centre now e.orders 0 step refl (above_in_step old i))
        ((step_carries laws.sound e.orders step).sound h.orders) (step_fits e.orders step h.widths) h
    by (Performs spans commands) =
        let carries = all_added_carries laws.sound spans e.controls commands in
        record {
          below = λ n. carried e.controls (all_added spans e.controls commands) n (link_in e.links n).progress carries (h.below n);
          above = h.above;
          controls = carries.sound h.controls;
          orders = h.orders;
          widths = h.widths;
        }
    by (Issues substation command above is fits) =
        let is_map : IsMap e.centre_indices = subst IsMap (sym s.of_plan.centre_indices) s.of_plan.is_map in
        let last : Entry = record { id = e.orders.last_id + 1; target = 0; command = above; state = Pending } in
        let carries = added_carries laws.sound e.orders 0 above in
        record {
          below = h.below;
          above = carried e.orders (added e.orders 0 above) 0 e.centre.progress carries h.above;
          controls = h.controls;
          orders = carries.sound h.orders;
          widths = All-push FitsEntry e.orders.entries last h.widths (above_fits laws e.centre_indices substation command above is_map fits is);
        }
    by AllHangUp = record {
      below = λ n. none_in_progress relaying.hung_up (λ r. refl) e.controls e.links n n;
      above = h.above;
      controls = h.controls;
      orders = h.orders;
      widths = h.widths;
    }

pub stays_in_step : StepLaws → (old new : System) {el : Elsewhere} → IsStanding el old → InStep old → Touched old new → InStep new
stays_in_step laws old new s h touched =
    let used : AreInStep (after_used (ends_of old) touched.used) = used_in_step laws old s h touched.used in
    system_in_step new
    (subst AreInStep (sym touched.after)
    (record { below = used.below; above = used.above; controls = used.controls; orders = used.orders; widths = used.widths }))

-- ---- before the first event

empty_sound : (book : Ledger) → book.entries ≡ [] → IsSoundLedger book
empty_sound book none = record {
  rising = subst (AllPairs (λ (x y : Entry). x.id < y.id)) (sym none) (λ i j d low inside. absurd (omega (arith, inside)));
  from_1 = subst (All (λ (x : Entry). 1 ≤ x.id)) (sym none) (All-nil (λ (x : Entry). 1 ≤ x.id));
  up_to_last = subst (All (λ (x : Entry). x.id ≤ book.last_id)) (sym none) (All-nil (λ (x : Entry). x.id ≤ book.last_id));
}

pub fresh_in_step : (plan : Plan) (centre : ℕ) (queue : EventBuffer) (journal : Archive) (controls orders : Ledger) → controls.entries ≡ []
    → orders.entries ≡ []
    → InStep (fresh_system plan centre queue journal controls orders)
fresh_in_step plan centre queue journal controls orders none nothing = record {
  below = λ i. none_in_progress (new_link plan.times) (λ x. refl) controls plan.substations i i;
  above = tt;
  controls = empty_sound controls none;
  orders = empty_sound orders nothing;
  widths = subst (All FitsEntry) (sym nothing) (All-nil FitsEntry);
}
