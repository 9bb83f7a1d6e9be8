-- Private steps: what the moves of a link rest on, of its lines, its points, its outstation and its master.
use Rattle.std.specs.Prelude.{◌≡◌, ◌⊎◌, ℕ, ◌<◌, ◌^◌, Bool, false, List, [], ◌∷◌, map, Option, Some, Ok, IfOk, IfSome, option_to_list, slice_get}
use Rattle.std.specs.List.{All}
use Rattle.dnp_objects.specs.declared.lane.LaneRow.{LaneRow}
use Rattle.dnp_objects.specs.declared.row.Kind.{Kind}
use Rattle.dnp_controls.specs.Panel.{Panel}
use Rattle.dnp_eventbuf.specs.EventBuffer.{arriving, exhausts}
use Rattle.dnp_pointdb.specs.Database.{answer_of}
use Rattle.dnp_pointdb.specs.declared.reading.Reading.{Reading}
use Rattle.dnp_outstation.specs.Calls.{connection_after, tick_of, change_of, opened_of, restart_of, emptied_of}
use Rattle.dnp_outstation.specs.Connection.{at_end, closed}
use Rattle.dnp_outstation.specs.Links.{EndsAs, KeepsPoints}
use Rattle.dnp_outstation.specs.State.{State, Step, nothing, still}
use Rattle.dnp_master.specs.declared.task.Task.{Task}
use Rattle.dnp_master.specs.Calls.{ask_answer, asked, receive_of, unheeded}
use Rattle.dnp_master.specs.State as master
use Rattle.dnp_master.specs.LinkCalls.{Asks as MasterAsks, PassesOver, TakesReport, TakesResponse}
use Rattle.dnp_world.specs.LawLink.{Down, Asks, LawLink}
use Rattle.dnp_world.specs.MasterSeen.{master_of, MasterTakes, master_hung_up, with_master_of}
use Rattle.dnp_world.specs.Moves.{Move, Moves, asking, lost_up, opened}
use Rattle.dnp_world.specs.OutstationSeen.{down_of, octets_of, ShowOctets, Shows, Simulates}
use Rattle.dnp_world.specs.Standing.{CarriesLaw}
use Rattle.dnp_line.specs.Flows.{AreFacing, Flows, RestMoves}
use Rattle.dnp_line.specs.Ways.{Way, WayEvent, Happens, opened_on}

-- what `dnp_line` promises
pub record LineLaws : Type 0 where
  pub reopened : (old : Way) → AreFacing old.sender old.receiver → Flows (opened_on old) []
  pub kept : (old new : Way) (event : WayEvent) (rest : List (List ℕ)) → Flows old rest → Happens old event new →
      (left : List (List ℕ)) × RestMoves old event new rest left × Flows new left

-- what `dnp_outstation` promises of its points, and that it drops no row
pub record PointLaws : Type 0 where
  pub keeps_opened : (s : State) (now : ℕ) → KeepsPoints s.core (opened_of s now).state.core
  pub keeps_received : (s : State) (o : Panel) (now : ℕ) (octets : List ℕ) → KeepsPoints s.core (connection_after s o now octets).state.core
  pub keeps_ticked : (s : State) (now : ℕ) → KeepsPoints s.core (tick_of s now).state.core
  pub keeps_ended : (now : ℕ) (step : Step) → (at_end now step).state.core.points ≡ step.state.core.points
  pub none_opened : (s : State) (now : ℕ) → (opened_of s now).does.overwritten ≡ []
  pub none_received : (s : State) (o : Panel) (now : ℕ) (octets : List ℕ) → (connection_after s o now octets).does.overwritten ≡ []
  pub none_ticked : (s : State) (now : ℕ) → (tick_of s now).does.overwritten ≡ []

-- of an outstation
pub record OutstationLaws : Type 0 where
  pub opens : (s : State) (now : ℕ) (l : LawLink) → Shows s l → CarriesLaw l → Simulates s [] (opened_of s now) (opened l)
  pub comes : (s : State) (o : Panel) (now : ℕ) (octets : List ℕ) (l : LawLink) (rest : List Down) → ShowOctets o
      → All (λ octet. octet < 2 ^ 8) octets
      → Shows s l → CarriesLaw l → l.down ≡ down_of octets ∷ rest → Simulates s [] (connection_after s o now octets) l
  pub ticks : (s : State) (now : ℕ) (l : LawLink) → Shows s l → CarriesLaw l → Simulates s [] (tick_of s now) l
  pub changes : (s : State) (now : ℕ) (kind : Kind) (index : ℕ) (reading : Reading) (made : Option LaneRow) (l : LawLink)
      → answer_of s.core.points kind index reading ≡ Ok made → IfSome made (λ row. exhausts s.lanes (row ∷ []) ≡ false)
      → Shows s l → CarriesLaw l
      → Simulates s (arriving (option_to_list made)) (change_of s now kind index reading made) l
  pub closes : (s : State) (l : LawLink) → Shows s l → Simulates s [] (still (record s { core = closed s.core })) l
  pub restarts : (s : State) (keep : Bool) (l : LawLink) → Shows s l
      → Simulates s [] (record { state = restart_of s keep; does = record nothing { overwritten = emptied_of s keep } }) l
  pub silent_received : (s : State) (o : Panel) (now : ℕ) (octets : List ℕ) → s.core.is_open ≡ false
      → connection_after s o now octets ≡ still s
  pub silent_ticked : (s : State) (now : ℕ) → s.core.is_open ≡ false → tick_of s now ≡ still s
  pub ends : (now : ℕ) (step : Step) → EndsAs now step

-- of a master
pub record MasterLaws : Type 0 where
  pub came : (s : master.State) (now : ℕ) (l : LawLink) (n : ℕ) (octets : List ℕ) → CarriesLaw l → l.master ≡ master_of s
      → slice_get (map octets_of l.up) n ≡ Some octets → Move l (lost_up n l) × IfOk (receive_of s now octets) (λ t. MasterTakes t (lost_up n l))
  pub asks : (s : master.State) (now : ℕ) (task : Task) (octets : List ℕ) (l : LawLink) → s.seq < 16 → l.master ≡ master_of s
      → ask_answer s task ≡ Ok octets
      → Move l (asking octets l) × ((asking octets l).master ≡ master_of (asked s now task)) × (down_of octets ≡ Asks octets)
  pub asked : (s : master.State) (now : ℕ) (task : Task) → IfOk (ask_answer s task) (λ octets. MasterAsks s task octets (asked s now task))
  pub hung_up : (s : master.State) (l : LawLink) → Moves l (master_hung_up s l)
  pub ticked : (s : master.State) (now : ℕ) (l : LawLink) → l.master ≡ master_of s → Moves l (with_master_of (master.ticked s now) l)
  pub takes : (s : master.State) (now : ℕ) (octets : List ℕ) → IfOk (receive_of s now octets) (λ t.
      PassesOver s t ⊎ (TakesResponse s octets t ⊎ TakesReport s octets t))
  pub silent_receives : (s : master.State) (now : ℕ) (octets : List ℕ) → s.is_open ≡ false → receive_of s now octets ≡ Ok (unheeded s)

-- all of it
pub record MoveLaws : Type 0 where
  pub line : LineLaws
  pub points : PointLaws
  pub outstation : OutstationLaws
  pub master : MasterLaws
