-- What time, a new reading and an opening leave alone: they release nothing and perform nothing.
use Rattle.std.proofs.Common.{◌≡◌, Bool, true, false, if◌then◌else◌, refl, ◌∙◌, ℕ, ◌+◌, ◌&&◌, ◌||◌, not, nat_le, [], Option, None, Some, option_to_list}
use Rattle.dnp_objects.specs.declared.row.Kind.{Kind}
use Rattle.dnp_objects.specs.declared.lane.LaneRow.{LaneRow}
use Rattle.dnp_pointdb.specs.Database.{changed_of}
use Rattle.dnp_pointdb.specs.declared.reading.Reading.{Reading}
use Rattle.dnp_controls.specs.Selecting.{deadline}
use Rattle.dnp_eventbuf.specs.EventBuffer.{with_rows, dropped_by}
use Rattle.dnp_outstation.specs.declared.session.Unsolicited.{Unsolicited}
use Rattle.dnp_outstation.specs.State.{State, Step, nothing, sending, still, holds_read}
use Rattle.dnp_outstation.specs.Content.{plain}
use Rattle.dnp_outstation.specs.Connection.{starts, at_end, closed, solicited_timer, unsolicited_timer, has_ended}
use Rattle.dnp_outstation.specs.Calls.{tick_of, change_of, opened_of}
use Rattle.dnp_outstation.specs.Links.{ReleasesNone, begun}
use Rattle.dnp_outstation.proofs.LinkConfirms.{end_kept}

-- nothing is released, and nothing performed
record LeavesAlone (s : State) (step : Step) : Type 0 where
  lanes : step.state.lanes ≡ s.lanes
  discarded : step.does.discarded ≡ []
  performed : step.state.performed ≡ s.performed

alone_at_end : (s : State) (now : ℕ) (step : Step) → LeavesAlone s step → LeavesAlone s (at_end now step)
alone_at_end s now step is =
    let end = end_kept now step in
    record { lanes = end.state.lanes ∙ is.lanes; discarded = end.discarded ∙ is.discarded; performed = end.state.performed ∙ is.performed }

abbrev with_unsolicited : State → Option Unsolicited → State
with_unsolicited s u = record s { core = record s.core { session = record s.core.session { unsolicited = u } } }

timer_alone : (s : State) (now : ℕ) → LeavesAlone s (unsolicited_timer s now)
timer_alone s now = go s.core.session.unsolicited
  where
    go : (u : Option Unsolicited) → LeavesAlone s (unsolicited_timer (with_unsolicited s u) now)
    go None = record { lanes = refl; discarded = refl; performed = refl }
    go (Some w) = by (has_ended now w.ends) (holds_read s.core.session.last || nat_le s.core.times.retries w.repeats)
      where
        by : (a b : Bool) → LeavesAlone s (if not a then still (with_unsolicited s (Some w))
            else if b then
            (record {
              state = record (with_unsolicited s (Some w)) { core = closed (with_unsolicited s (Some w)).core };
              does = record nothing { close = true };
            })
            else (record {
              state = with_unsolicited s (Some (record w { ends = deadline now s.core.times.confirm_ms; repeats = w.repeats + 1 }));
              does = sending s.core.session.unsolicited_response;
            }))
        by false b = record { lanes = refl; discarded = refl; performed = refl }
        by true true = record { lanes = refl; discarded = refl; performed = refl }
        by true false = record { lanes = refl; discarded = refl; performed = refl }

tick_alone : (s : State) (now : ℕ) → LeavesAlone s (tick_of s now)
tick_alone s now = by s.core.is_open
  where
    by : (b : Bool)
        → LeavesAlone s (if b then at_end now (unsolicited_timer (record s { core = solicited_timer s.core now }) now) else still s)
    by true =
        let timed = timer_alone (record s { core = solicited_timer s.core now }) now in
        alone_at_end s now (unsolicited_timer (record s { core = solicited_timer s.core now }) now)
        (record { lanes = timed.lanes; discarded = timed.discarded; performed = timed.performed })
    by false = record { lanes = refl; discarded = refl; performed = refl }

opened_alone : (s : State) (now : ℕ) → LeavesAlone s (opened_of s now)
opened_alone s now = by (s.core.times.unsolicited && not s.core.announced)
  where
    by : (b : Bool) → LeavesAlone s (if b then starts (still (begun s)) now (plain 0 []) else at_end now (still (begun s)))
    by true = record { lanes = refl; discarded = refl; performed = refl }
    by false = alone_at_end s now (still (begun s)) (record { lanes = refl; discarded = refl; performed = refl })

pub tick_releases : (s : State) (now : ℕ) → ReleasesNone s (tick_of s now)
tick_releases s now = let alone = tick_alone s now in record { lanes = alone.lanes; discarded = alone.discarded }

pub tick_performed : (s : State) (now : ℕ) → (tick_of s now).state.performed ≡ s.performed
tick_performed s now = (tick_alone s now).performed

pub opened_releases : (s : State) (now : ℕ) → ReleasesNone s (opened_of s now)
opened_releases s now = let alone = opened_alone s now in record { lanes = alone.lanes; discarded = alone.discarded }

pub opened_performed : (s : State) (now : ℕ) → (opened_of s now).state.performed ≡ s.performed
opened_performed s now = (opened_alone s now).performed

abbrev changing : State → ℕ → Kind → ℕ → Reading → Option LaneRow → Step
changing s now kind index reading made = record {
  state = record s { core = record s.core { points = changed_of s.core.points kind index reading }; lanes = with_rows s.lanes (option_to_list made) };
  does = record nothing { overwritten = dropped_by s.lanes (option_to_list made) };
}

pub change_discards : (s : State) (now : ℕ) (kind : Kind) (index : ℕ) (reading : Reading) (made : Option LaneRow)
    → (change_of s now kind index reading made).does.discarded ≡ []
change_discards s now kind index reading made = (end_kept now (changing s now kind index reading made)).discarded

pub change_performed : (s : State) (now : ℕ) (kind : Kind) (index : ℕ) (reading : Reading) (made : Option LaneRow)
    → (change_of s now kind index reading made).state.performed ≡ s.performed
change_performed s now kind index reading made = (end_kept now (changing s now kind index reading made)).state.performed
