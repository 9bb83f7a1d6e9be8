-- Definition: why a list of events stops, by what a master or a book refused, and what the cause says of the stores (own rule).
use Rattle.std.specs.Prelude.{◌≡◌, Bool, IsTrue, Option, Some, None, Result, Ok, Err, ⊤}
use Rattle.dnp_concentrator.specs.declared.cause.Cause.{Cause}
use Rattle.dnp_concentrator.specs.declared.cause.Cause.TheVariants.{Exhausted, Memory, Device}
use Rattle.dnp_controls.specs.declared.book.BookFault.{BookFault}
use Rattle.dnp_controls.specs.declared.book.BookFault.TheVariants as book
use Rattle.dnp_master.specs.declared.fault.MasterFault.{MasterFault}
use Rattle.dnp_master.specs.declared.fault.MasterFault.TheVariants as master
use Rattle.dnp_world.specs.declared.stopped.Stopped.{Stopped}

-- what a master's stores refuse, under its own name; what it refuses for itself stops nothing
abbrev pub cause_of_master : MasterFault → Option Cause
cause_of_master master.Malformed = None
cause_of_master master.Stranger = None
cause_of_master master.Exhausted = Some Exhausted
cause_of_master master.Memory = Some Memory
cause_of_master master.Device = Some Device

-- what a book refuses, under its own name; what it refuses of one entry stops nothing
abbrev pub cause_of_relaying : BookFault → Option Cause
cause_of_relaying book.NoControl = None
cause_of_relaying book.NotPending = None
cause_of_relaying book.Exhausted = Some Exhausted
cause_of_relaying book.Memory = Some Memory
cause_of_relaying book.Device = Some Device

-- A call of a station or of a system, by whether a store under it has answered Device, before and after: it says Device only where
-- one has, and where it says it not they all run on.
pub record TellsDevice (before after : Bool) (says : Type 0) : Type 0 where
  pub stopped : says → IsTrue after
  pub runs_on : (says → ⊥) → after ≡ before

-- a list of events is stopped, for this cause
abbrev pub IsStoppedBy : Cause → Result ⊤ Stopped → Type 0
IsStoppedBy cause (Ok done) = ⊥
IsStoppedBy cause (Err stopped) = stopped.cause ≡ cause
