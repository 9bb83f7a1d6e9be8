-- Definition: when an outstation refuses a fragment or a reading: what it asked its stores for, and where lanes that ask for no
-- memory of their own are out of memory all the same.
use Rattle.std.specs.Prelude.{◌≡◌, ◌≢◌, ◌⊎◌, ℕ, Bool, true, false, IsTrue, IsErr, IfOk, List, [], Result, option_to_list, Option}
use Rattle.dnp_appfragment.specs.Table.{function_octet}
use Rattle.dnp_appfragment.specs.declared.function.Function.TheVariants as function
use Rattle.dnp_controls.specs.Panel.{Panel}
use Rattle.dnp_eventbuf.specs.EventBuffer.{EventBuffer, dropped_by, exhausts, rows_in}
use Rattle.dnp_objects.specs.declared.command.Command.{Command}
use Rattle.dnp_objects.specs.declared.lane.LaneRow.{LaneRow}
use Rattle.dnp_pointdb.specs.declared.fault.ChangeFault.{ChangeFault}
use Rattle.dnp_outstation.specs.Calls.{connection_after, performed_in}
use Rattle.dnp_outstation.specs.Connection.{case_of, function_in, has_enabled_rows, is_looked_at}
use Rattle.dnp_outstation.specs.State.{State, is_ready, nothing}
use Rattle.dnp_outstation.specs.Station.{MayAsk, reads_inside}
use Rattle.dnp_outstation.specs.declared.case.Case.TheVariants as case

-- a fragment is refused only where it asks the stores for something
pub record AsksStores {Answer Fault : Type 0} (s : State) (o : Panel) (now : ℕ) (octets : List ℕ) (answer : Result Answer Fault) : Type 0 where
  pub looked_at : IsErr answer → is_looked_at s.core octets ≡ true
  pub unsolicited : IsErr answer → s.core.times.unsolicited ≡ false → MayAsk s.core o now octets
  pub announced : IsErr answer → s.core.announced ≡ false → MayAsk s.core o now octets
  pub stray : IsErr answer → case_of s.core octets ≡ case.Stray → is_ready s.core ≡ true
  pub again : IsErr answer → case_of s.core octets ≡ case.Again → is_ready s.core ≡ true
  pub held : IsErr answer → case_of s.core octets ≡ case.Waits → ⊥
  pub inside : IsErr answer → s.core.times.unsolicited ≡ false → function_in octets ≡ function_octet function.Read → reads_inside s o octets ≡ true

-- it is out of memory over lanes that ask for none: there are rows, or commands that it performs, and then the outputs ask for
-- it, and have their numbers
pub record RunsOut (honest may_run_out : Type 0) (exhausts : List Command → Type 0) (s : State) (o : Panel) (now : ℕ) (octets : List ℕ) : Type 0 where
  pub idle : case_of s.core octets ≡ case.Confirms → (connection_after s o now octets).does ≢ nothing
  pub some : (rows_in s.lanes ≢ []) ⊎ (performed_in s.core o now octets ≢ [])
  pub named : (rows_in s.lanes ≢ []) ⊎ may_run_out
  pub exhausted_first : honest → (rows_in s.lanes ≢ []) ⊎ (exhausts (performed_in s.core o now octets) → ⊥)

-- a reading is out of memory over such lanes: there are rows, of which one is dropped for it, or which are enabled
pub record ReadingRunsOut (s : State) (made : Result (Option LaneRow) ChangeFault) : Type 0 where
  pub some : rows_in s.lanes ≢ []
  pub held : IfOk made (λ row. (has_enabled_rows s ≡ true) ⊎ (dropped_by s.lanes (option_to_list row) ≢ []))

-- where no unsolicited response may begin, it is so for a row that is dropped, if the lanes ask for no memory, and only where
-- they have the numbers
pub record UnreadyRunsOut (honest : Type 0) (asks_memory : Bool) (lanes : EventBuffer) (made : Result (Option LaneRow) ChangeFault) : Type 0 where
  pub dropped : asks_memory ≡ false → IfOk made (λ row. dropped_by lanes (option_to_list row) ≢ [])
  pub numbers : honest → IfOk made (λ row. exhausts lanes (option_to_list row) ≡ false)
