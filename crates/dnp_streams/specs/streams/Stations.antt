-- Definition: what a stream sees of a station.
use Rattle.std.specs.Prelude.{ℕ, Bool, List, Option}
use Rattle.dnp_line.specs.Ports.{PortState}
use Rattle.dnp_master.specs.declared.outcome.Outcome.{Outcome}
use Rattle.dnp_outstation.specs.Station.{sent_of}
use Rattle.dnp_streams.specs.declared.stream.kept.KeptAnswer.{KeptAnswer}
use Rattle.dnp_streams.specs.declared.stream.station.Answer as code
use Rattle.dnp_streams.specs.declared.stream.station.StationFault.{StationFault}

-- what a call of a station answers: the fragments that are sent, in order; whether the station closed the connection;
-- how many event rows were stored; how a task came out
pub record Answer : Type 0 where
  pub send : List (List ℕ)
  pub close : Bool
  pub taken : ℕ
  pub outcome : Option Outcome

abbrev pub answer_of : code.Answer → Answer
answer_of a = record { send = sent_of a.send; close = a.close; taken = a.taken; outcome = a.outcome }

-- the same, in an answer that the caller keeps
abbrev pub answer_in : KeptAnswer → Answer
answer_in a = record { send = sent_of a.actions.send; close = a.actions.close; taken = a.taken; outcome = a.outcome }

-- how stations open: at this moment an opening is answered so, and makes the second state of the first; and why it is refused
pub record Opening (S : Type 0) : Type 1 where
  pub answers : S → ℕ → Answer → S → Type 0
  pub refuses : S → ℕ → StationFault → Type 0

-- how they take what comes: at this moment a fragment of these octets is answered so, and makes the second of the first; and why it is
-- refused
pub record Receiving (S : Type 0) : Type 1 where
  pub answers : S → ℕ → List ℕ → Answer → S → Type 0
  pub refuses : S → ℕ → List ℕ → StationFault → Type 0

-- a station's state, and its port to the stream
pub record Endpoint (S : Type 0) : Type 0 where
  pub station : S
  pub port : PortState

abbrev pub endpoint : {S : Type 0} → S → PortState → Endpoint S
endpoint station port = record { station = station; port = port }
