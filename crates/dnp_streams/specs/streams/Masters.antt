-- Definition: what a master answers on a stream, and why it refuses what comes.
use Rattle.std.specs.Prelude.{◌≡◌, ◌↔◌, Bool, IsTrue, false, [], None, Result, IfOk, IsErr, length, option_to_list}
use Rattle.dnp_concentrator.specs.declared.cause.Cause.TheVariants as cause
use Rattle.dnp_master.specs.Calls.{Taking, has_rows}
use Rattle.dnp_master.specs.declared.fault.MasterFault.{MasterFault}
use Rattle.dnp_master.specs.declared.fault.MasterFault.TheVariants.{Malformed, Stranger, Exhausted, Memory, Device}
use Rattle.dnp_streams.specs.declared.stream.station.StationFault.{StationFault}
use Rattle.dnp_streams.specs.declared.stream.station.StationFault.TheVariants.{Message, Cause}
use Rattle.dnp_streams.specs.streams.Stations.{Answer}

-- nothing is sent
abbrev pub nothing_answered : Answer
nothing_answered = record { send = []; close = false; taken = 0; outcome = None }

-- nothing is sent, no row was stored and no task came out; the connection is closed, or it isn't
abbrev pub closing : Bool → Answer
closing closes = record nothing_answered { close = closes }

-- a fragment that was taken is confirmed where it wants that, and may bring a task to its end
abbrev pub answer_taking : Taking → Answer
answer_taking taking =
    record { send = option_to_list taking.confirm; close = false; taken = length taking.events; outcome = taking.outcome }

-- a master's fault, as its station says it
abbrev pub fault_told : MasterFault → StationFault
fault_told Malformed = Message
fault_told Stranger = Message
fault_told Exhausted = Cause cause.Exhausted
fault_told Memory = Cause cause.Memory
fault_told Device = Cause cause.Device

-- Why a fragment is refused, by what the master finds of it: as a message that it can't take, where it takes it not; else for its rows,
-- and for being out of numbers only where the store has none for them.
pub record RefusesRows (found : Result Taking MasterFault) (exhausts : Taking → Bool) (told : StationFault) : Type 0 where
  pub message : (told ≡ Message) ↔ IsErr found
  pub rows : IfOk found (λ t. IsTrue (has_rows t))
  pub exhausted : told ≡ Cause cause.Exhausted → IfOk found (λ t. IsTrue (exhausts t))
