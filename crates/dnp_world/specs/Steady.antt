-- Definition: a steady system, one of which what is said of every moment holds, and what happens at its substations while a list of
-- events is done (own rule: IEEE Std 1815-2012 speaks of one link at a time).
use Rattle.std.specs.Prelude.{◌≡◌, ℕ, ◌==◌, ◌&&◌, if◌then◌else◌, List, [], ◌∷◌, ◌++◌, slice_get, option_map, is_some, Option, Some, None}
use Rattle.std.specs.List.{flat_map}
use Rattle.dnp_concentrator.specs.Mapped.{command_above}
use Rattle.dnp_eventbuf.specs.EventBuffer.{arriving}
use Rattle.dnp_objects.specs.declared.command.Command.{Command}
use Rattle.dnp_objects.specs.declared.row.Row.{Row}
use Rattle.dnp_pointdb.specs.Database.{Database}
use Rattle.dnp_pointdb.specs.Runs.{Move, Change, Restart, rows_of}
use Rattle.dnp_world.specs.Behind.{Elsewhere}
use Rattle.dnp_world.specs.ControlsInStep.{InStep}
use Rattle.dnp_world.specs.Happened.{HappenedAsEvents}
use Rattle.dnp_world.specs.Kept.{report_of}
use Rattle.dnp_world.specs.Planned.{IsAsPlanned}
use Rattle.dnp_world.specs.Reports.{IsFate}
use Rattle.dnp_world.specs.Settled.{AreSettled}
use Rattle.dnp_world.specs.SystemStanding.{IsStanding}
use Rattle.dnp_world.specs.Systems.{System, has_substation}
use Rattle.dnp_world.specs.declared.event.Event.{Event}
use Rattle.dnp_world.specs.declared.event.Event.TheVariants as event
use Rattle.dnp_world.specs.declared.event.Place.TheVariants as place

-- Links of the law stand behind it, what happened at its substations can be reported, it is of a plan, its substations have started
-- what they may, and its controls are in step with their books.
pub record IsSteadyBeside (el : Elsewhere) (s : System) : Type 0 where
  pub standing : IsStanding el s
  pub happened : HappenedAsEvents s
  pub planned : IsAsPlanned s
  pub settled : AreSettled s
  pub controls : InStep s

-- ---- what happens at the substations

-- what an event is to the points of each substation of the plan: its readings, and its restarts
abbrev pub moves_at : System → Event → ℕ → List Move
moves_at s (event.Change substation kind index reading) i = if has_substation s substation && substation == i then Change kind index reading ∷ [] else []
moves_at s (event.Restart (place.Substation substation)) i = if has_substation s substation && substation == i then Restart ∷ [] else []
moves_at s event i = []

abbrev pub points_at : System → ℕ → Option Database
points_at s i = option_map (λ x. x.core.points) (slice_get s.substations i)

abbrev pub made_from : Option Database → List Move → List Row
made_from None moves = []
made_from (Some points) moves = arriving (rows_of points moves)

-- The rows that these events make at each substation, by its points as they are before the first of them: what the lines, the lanes
-- and the other stations do has no part in it.
abbrev pub rows_made_at : System → List Event → ℕ → List Row
rows_made_at s events i = made_from (points_at s i) (flat_map (λ e. moves_at s e i) events)

-- the system is steady again, and what happened is what had happened and these rows of each substation
pub record Goes (el : Elsewhere) (made : ℕ → List Row) (old new : System) : Type 0 where
  pub steady : IsSteadyBeside el new
  pub fate : IsFate made (report_of old) (report_of new)

-- ---- what is issued

-- the command that an event issues, where the plan has its output
abbrev pub issued_by : System → Event → List (ℕ × Command)
issued_by s (event.Issue centre substation command) = if is_some (command_above s.centre.indices substation command) then (substation, command) ∷ [] else []
issued_by s event = []

-- The list of what was issued is what it was, and the commands of these events.
abbrev pub Issues : List Event → System → System → Type 0
Issues events old new = new.history.issued ≡ old.history.issued ++ flat_map (issued_by old) events

-- ---- a list of events

-- What happened at each substation is what had happened, and the rows that these events make.
abbrev pub Lasts : List Event → System → System → Type 0
Lasts events old new = IsFate (rows_made_at old events) (report_of old) (report_of new)
