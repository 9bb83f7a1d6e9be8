-- Definition: the sink that a master gives rows to.
use Rattle.std.specs.Prelude.{◌≡◌, ◌≢◌, Bool, IsTrue, Result, Err, IfErr, ⊤}
use Rattle.dnp_objects.specs.declared.store.StoreFault.{StoreFault}
use Rattle.dnp_objects.specs.declared.store.StoreFault.TheVariants as store
use Rattle.dnp_master.specs.declared.fault.MasterFault.{MasterFault}
use Rattle.dnp_master.specs.declared.fault.MasterFault.TheVariants as fault
use Rattle.dnp_master.specs.declared.fault.MasterFault.TheVariants.{Device}

-- a sink's fault is passed on
abbrev pub fault_of : StoreFault → MasterFault
fault_of store.Exhausted = fault.Exhausted
fault_of store.Memory = fault.Memory
fault_of store.Device = fault.Device

-- a fault that comes of a sink, or of memory, and not of what came
abbrev pub IsSinkFault : MasterFault → Type 0
IsSinkFault fault.Malformed = ⊥
IsSinkFault fault.Stranger = ⊥
IsSinkFault fault.Exhausted = ⊤
IsSinkFault fault.Memory = ⊤
IsSinkFault fault.Device = ⊤

-- What a call leaves of the sink, by the sink before and after it and the call's answer: a call that makes one append
-- at most, and refuses where that is refused.
pub record LeavesSink {Sink Answer : Type 0} (honest : Sink → Type 0) (is_stopped : Sink → Bool) (keeps : Sink → Sink → Type 0)
    (old new : Sink) (answer : Result Answer MasterFault) : Type 0 where
  -- an honest sink was honest before
  pub held : honest new → honest old
  -- a refusal changes nothing
  pub unchanged : honest new → IfErr answer (λ _. keeps old new)
  -- Device stops it, and nothing else does
  pub device_stops : answer ≡ Err Device → IsTrue (is_stopped new)
  pub runs_on : answer ≢ Err Device → is_stopped new ≡ is_stopped old
