-- Definition: what a master makes of a poll of classes 1, 2 and 3 (IEEE Std 1815-2012, application layer: responses, confirms).
use Rattle.std.specs.Prelude.{◌≡◌, ℕ, Bool, if◌then◌else◌, List, Some, None, Result, Ok}
use Rattle.dnp_objects.specs.declared.row.Row.{Row}
use Rattle.dnp_master.specs.Calls.{Taking}
use Rattle.dnp_master.specs.declared.fault.MasterFault.{MasterFault}
use Rattle.dnp_outstation.specs.Polled.{confirm_octets}

-- the fragment is taken: its rows go to the sink, and its confirm is sent where CON asks for that
pub record Takes (seq : ℕ) (rows : List Row) (con : Bool) (answer : Result Taking MasterFault) : Type 0 where
  pub taken : Taking
  pub is : answer ≡ Ok taken
  pub events : taken.events ≡ rows
  pub confirm : taken.confirm ≡ (if con then Some (confirm_octets seq) else None)
