-- Definition: at what an event stops where a store, a book of controls, or an outstation refuses a call.
use Rattle.dnp_controls.specs.declared.book.BookFault.{BookFault}
use Rattle.dnp_controls.specs.declared.book.BookFault.TheVariants as book
use Rattle.dnp_objects.specs.declared.store.StoreFault.{StoreFault}
use Rattle.dnp_objects.specs.declared.store.StoreFault.TheVariants as store
use Rattle.dnp_outstation.specs.declared.fault.Fault.{Fault}
use Rattle.dnp_outstation.specs.declared.fault.Fault.TheVariants as outstation
use Rattle.dnp_concentrator.specs.declared.cause.Cause.{Cause}
use Rattle.dnp_concentrator.specs.declared.cause.Cause.TheVariants.{Exhausted, Memory, Device}

-- a store's fault is the cause of its name
abbrev pub store_cause : StoreFault → Cause
store_cause store.Exhausted = Exhausted
store_cause store.Memory = Memory
store_cause store.Device = Device

-- so is an outstation's that is a store's; no event stops at a reading that its points refuse
abbrev pub outstation_cause : Fault → Cause
outstation_cause outstation.Exhausted = Exhausted
outstation_cause outstation.Device = Device
outstation_cause _ = Memory

-- so is a book's; no event stops at what it refuses of one entry
abbrev pub book_cause : BookFault → Cause
book_cause book.Exhausted = Exhausted
book_cause book.Device = Device
book_cause _ = Memory
