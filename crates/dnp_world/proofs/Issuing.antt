-- Events at which no link moves keep what stands behind the system: a command is issued at the centre, or time passes.
use Rattle.std.proofs.Common.{◌≡◌, ℕ, ◌+◌, List, [], ◌∷◌, ◌++◌, Option, Some, None, refl, sym, ap, ◌∙◌, subst, arith}
use Rattle.std.specs.Prelude.{slice_get, IfSome}
use Rattle.std.proofs.lemmas.List.{map-append}
use Rattle.std.proofs.lemmas.List.Elements.{filter_map-append}
use Rattle.dnp_objects.specs.declared.command.Command.{Command}
use Rattle.dnp_objects.specs.Counts.{IsCoveredBy}
use Rattle.dnp_controls.specs.declared.book.Entry.{Entry}
use Rattle.dnp_controls.specs.declared.book.State.TheVariants.{Pending}
use Rattle.dnp_concentrator.specs.declared.span.Spans.{Spans}
use Rattle.dnp_concentrator.specs.IndexMap.{IsMap}
use Rattle.dnp_concentrator.specs.Mapped.{command_above, command_below}
use Rattle.dnp_world.specs.Behind.{Elsewhere, does_nothing, with_links, OneEvent}
use Rattle.dnp_world.specs.Kept.{kept_in, report_of, command_of, commands_below, commands_in, orders_in, used_commands, used_orders}
use Rattle.dnp_world.specs.Reports.{happened}
use Rattle.dnp_world.specs.Stations.{of_substation}
use Rattle.dnp_world.specs.Systems.{SubstationState, System, link_at}
use Rattle.dnp_world.specs.SystemEvents.{IssuesBy}
use Rattle.dnp_world.specs.SystemStanding.{lists_of, seen_below, seen_above, IsJoinedBelow, IsStanding, Keeps}
use Rattle.dnp_world.proofs.BelowKeeps.{TurnLaws, none_more, none_used, stays_still, relisted}
use Rattle.dnp_world.proofs.Books.{pending_last}
use Rattle.dnp_world.proofs.SystemCounts.{given, given_first, same_refl, same_is}
use Rattle.dnp_world.proofs.SystemPlans.{still_of_plan}
use Rattle.dnp_world.proofs.Turning.{by_substation}

-- what the crate of the index map promises of commands
abbrev pub Undoes : Type 0
Undoes = (spans : List Spans) (substation : ℕ) (command above : Command) → IsMap spans → command_above spans substation command ≡ Some above
    → command_below spans above ≡ Some (substation, command)

-- nothing happens
pub same_keeps : (substation : ℕ) (s new : System) {el : Elsewhere} → IsStanding el s → new ≡ s → Keeps el substation [] s new
same_keeps substation s new {el = el} h same =
    subst (λ (x : System). Keeps el substation [] s x) (sym same)
    (record { standing = h; fate = λ i. none_more (of_substation i (happened (report_of s))) })

-- ---- a command is issued

abbrev entry_of_order : System → Command → Entry
entry_of_order s above = record { id = s.centre.orders.last_id + 1; target = 0; command = above; state = Pending }

abbrev with_order : System → ℕ → Command → Command → System
with_order s substation command above = record s {
  centre = record s.centre {
    orders = record { entries = s.centre.orders.entries ++ entry_of_order s above ∷ []; last_id = s.centre.orders.last_id + 1 };
  };
  history = record s.history { issued = s.history.issued ++ (substation, command) ∷ [] };
}

-- its book's commands, as they go down, get it
ordered_more : Undoes → (s : System) (substation : ℕ) (command above : Command) → IsMap s.indices → command_above s.indices substation command ≡ Some above
    → commands_below s.indices (commands_in (s.centre.orders.entries ++ entry_of_order s above ∷ []))
    ≡ commands_below s.indices (commands_in s.centre.orders.entries) ++ (substation, command) ∷ []
ordered_more undoes s substation command above m e =
    let before : List Command = commands_in s.centre.orders.entries in
    ap (commands_below s.indices) (map-append command_of s.centre.orders.entries (entry_of_order s above ∷ []))
    ∙ filter_map-append (command_below s.indices) before (above ∷ [])
    ∙ ap (λ (xs : List (ℕ × Command)). commands_below s.indices before ++ xs)
    (given_first (command_below s.indices) above []
    ∙ ap (λ (o : Option (ℕ × Command)). given o []) (undoes s.indices substation command above m e))

issue_turn : Undoes → (s : System) {el : Elsewhere} (h : IsStanding el s) (substation : ℕ) (command above : Command) → IsMap s.indices
    → command_above s.indices substation command ≡ Some above → OneEvent s.indices substation h.links (kept_in s)
    (kept_in (with_order s substation command above))
issue_turn undoes s h substation command above m e =
    let used : used_commands (s.centre.orders.entries ++ entry_of_order s above ∷ []) ≡ used_commands s.centre.orders.entries =
    pending_last command_of s.centre.orders.entries (entry_of_order s above) refl in
    record {
      below = h.links.below substation;
      above = h.links.above;
      here = does_nothing;
      there = does_nothing;
      below_grows = stays_still (h.links.below substation);
      above_grows = stays_still h.links.above;
      joined = refl;
      mapped = refl;
      buffered = h.behind.buffered substation;
      others = λ i other. same_refl (of_substation i (kept_in s).buffered);
      confirmed = none_more s.history.confirmed;
      left = none_more (s.history.overwritten ++ s.history.gone);
      queue = h.behind.queue;
      dropped = none_more s.history.dropped;
      lost = omega arith;
      journal = none_more (kept_in s).journal;
      operated = none_more s.history.operated;
      used = none_used (used_orders (kept_in s).controls);
      added = none_more (orders_in (kept_in s).controls);
      used_above = subst (λ (xs : List Command). IsCoveredBy (used_commands s.centre.orders.entries ++ []) xs) (sym used)
          (none_used (used_commands s.centre.orders.entries));
      issues = (substation, command) ∷ [];
      issued = same_refl (s.history.issued ++ (substation, command) ∷ []);
      ordered = same_is (commands_below s.indices (commands_in (s.centre.orders.entries ++ entry_of_order s above ∷ [])))
          (commands_below s.indices (commands_in s.centre.orders.entries) ++ (substation, command) ∷ [])
          (ordered_more undoes s substation command above m e);
    }

issued : TurnLaws → Undoes → (s : System) {el : Elsewhere} (h : IsStanding el s) (substation : ℕ) (command above : Command) → IsMap s.indices
    → command_above s.indices substation command ≡ Some above → Keeps el substation [] s (with_order s substation command above)
unfolding issue_turn
issued laws undoes s h substation command above m e =
    let new : System = with_order s substation command above in
    let t : OneEvent s.indices substation h.links (kept_in s) (kept_in new) = issue_turn undoes s h substation command above m e in
    record {
      standing = record {
        plan = h.plan;
        of_plan = still_of_plan s new h.plan refl refl refl refl refl h.of_plan;
        links = with_links h.links substation (h.links.below substation) h.links.above;
        below = by_substation (λ i x. IfSome (slice_get s.substations i) (IsJoinedBelow s.now (link_at s.concentrator i) x)) h.links substation
            (h.links.below substation) h.links.above (h.below substation) (λ i other. h.below i);
        above = h.above;
        behind = laws.kept s.indices substation h.links (kept_in s) (kept_in new) h.behind t;
      };
      fate = laws.fate s.indices substation h.links (kept_in s) (kept_in new) h.behind t;
    }

pub issues : TurnLaws → Undoes → (old new : System) {el : Elsewhere} (substation : ℕ) (command : Command) → IsStanding el old
    → IssuesBy (command_above old.centre.indices substation command) substation command old new → Keeps el substation [] old new
issues laws undoes old new {el = el} substation command h e =
    by (command_above old.centre.indices substation command) refl e
  where
    by : (o : Option Command) → command_above old.centre.indices substation command ≡ o → IssuesBy o substation command old new → Keeps el substation [] old new
    by None is k = same_keeps substation old new h k
    by (Some above) is k =
        subst (λ (x : System). Keeps el substation [] old x) (sym k.2)
        (issued laws undoes old h substation command above h.of_plan.is_map
        (ap (λ (spans : List Spans). command_above spans substation command) (sym h.of_plan.centre_indices) ∙ is))

-- ---- time passes

joined_at : (now : ℕ) (s : System) {el : Elsewhere} (h : IsStanding el s) (i : ℕ) (o : Option SubstationState)
    → IfSome o (IsJoinedBelow s.now (link_at s.concentrator i) (h.links.below i)) → IfSome o (IsJoinedBelow now (link_at s.concentrator i) (h.links.below i))
joined_at now s h i None j = j
joined_at now s h i (Some substation) j = record {
  joined = relisted (seen_below s.now (link_at s.concentrator i) substation (lists_of (h.links.below i))) (h.links.below i) now j.joined;
  shown = j.shown;
}

pub passes : (old new : System) {el : Elsewhere} (now : ℕ) (substation : ℕ) → IsStanding el old → new ≡ record old { now = now }
    → Keeps el substation [] old new
passes old new {el = el} now substation h e =
    subst (λ (x : System). Keeps el substation [] old x) (sym e)
    (record {
      standing = record {
        plan = h.plan;
        of_plan = still_of_plan old (record old { now = now }) h.plan refl refl refl refl refl h.of_plan;
        links = h.links;
        below = λ i. joined_at now old h i (slice_get old.substations i) (h.below i);
        above = relisted (seen_above old (lists_of h.links.above)) h.links.above now h.above;
        behind = h.behind;
      };
      fate = λ i. none_more (of_substation i (happened (report_of old)));
    })
