-- Definition: the law of a stream on which tasks are asked: what was written to it is what the steps of a dialogue sent, in which the
-- frames were heard that were read from it.
use Rattle.std.specs.Prelude.{◌≡◌, ℕ, ◌≤◌, ◌⊎◌, Bool, true, false, List, [], ◌++◌, length, Option, Result, Ok, Err}
use Rattle.std.specs.Io.KnownBytes.{Appends, Consumes, IsAtEnd}
use Rattle.dnp_linkframe.specs.declared.frame.Frame.{Frame}
use Rattle.dnp_linkframe.specs.Stream.{Gives}
use Rattle.dnp_master.specs.declared.task.Task.{Task}
use Rattle.dnp_streams.specs.declared.stream.asked.Asked.{Asked}
use Rattle.dnp_streams.specs.declared.stream.serve.ServeFault.{ServeFault}
use Rattle.dnp_streams.specs.declared.stream.serve.ServeFault.TheVariants.{ReadFailed, WriteFailed, TurnsSpent, Memory}
use Rattle.dnp_streams.specs.streams.Counts.{most}
use Rattle.dnp_streams.specs.streams.Dialogues.{Asking, Dialogue, Step, MakesAll, heard_in, unbegun}
use Rattle.dnp_streams.specs.streams.Spelled.{AreSpelled}
use Rattle.dnp_streams.specs.streams.Stations.{Opening, Receiving, Endpoint, endpoint}

-- What went through a stream: the octets that were read and looked at, and after them those for which memory was refused; the
-- steps, what they sent and what they came to; the frames that the octets gave and that were not heard; the octets of what was sent
-- that were written, and those that were not.
pub record Talk (S : Type 0) : Type 0 where
  pub octets : List ℕ
  pub refused : List ℕ
  pub steps : List Step
  pub sent : List Frame
  pub ended : Dialogue S
  pub unheard : List Frame
  pub written : List ℕ
  pub unwritten : List ℕ

-- all that was read was heard and answered, and the station still awaits what comes
pub record IsWaiting {S : Type 0} (is_idle : S → Bool) (t : Talk S) : Type 0 where
  pub begun : t.ended.is_begun ≡ true
  pub goes_on : t.ended.is_over ≡ false
  pub busy : is_idle t.ended.station ≡ false
  pub looked_at : t.refused ≡ []
  pub heard : t.unheard ≡ []
  pub answered : t.unwritten ≡ []

-- All that was sent was written, and what came of it is told. It ended because all was over, or because nothing more came while the
-- station was waiting; or else after the largest number of steps.
pub record IsAsked {S : Type 0} (is_idle : S → Bool) (t : Talk S) (at_end : Type 0) (asked : Asked) : Type 0 where
  pub rows : asked.rows ≡ t.ended.rows
  pub outcomes : asked.outcomes.items ≡ t.ended.outcomes
  pub faults : asked.faults ≡ t.ended.faults
  pub looked_at : t.refused ≡ []
  pub answered : t.unwritten ≡ []
  pub ended : t.ended.is_over ≡ false → (at_end × IsWaiting is_idle t) ⊎ (most ≤ length t.steps)

-- out of memory: for the frames of what was read last, all others being heard; or for an outcome that the next step might bring
pub record IsWanting {S : Type 0} (t : Talk S) : Type 0 where
  pub goes_on : t.ended.is_over ≡ false
  pub answered : t.unwritten ≡ []
  pub short : (t.unheard ≡ []) ⊎ (t.refused ≡ [])

-- how it ends
abbrev pub TalkEnds : {S : Type 0} → (S → Bool) → ℕ → Talk S → Type 0 → Result Asked ServeFault → Type 0
TalkEnds is_idle turns t at_end (Ok asked) = IsAsked is_idle t at_end asked
TalkEnds is_idle turns t at_end (Err ReadFailed) = IsWaiting is_idle t
TalkEnds is_idle turns t at_end (Err WriteFailed) = t.refused ≡ []
TalkEnds is_idle turns t at_end (Err TurnsSpent) = IsWaiting is_idle t × (turns ≤ length t.octets)
TalkEnds is_idle turns t at_end (Err Memory) = IsWanting t

-- A station and its port asked these tasks on a stream, of which the reader had these octets left before and after, and the writer had
-- these before and after.
pub record Talks {S : Type 0} (opens : Opening S) (receives : Receiving S) (asking : Asking S) (now turns : ℕ) (old : Endpoint S) (tasks : List Task)
    (left left' held held' : Option (List ℕ)) (result : Result Asked ServeFault) (new : Endpoint S) : Type 0 where
  pub talk : Talk S
  pub read : Consumes left left' (talk.octets ++ talk.refused)
  pub waiting : List ℕ
  pub gives : Gives talk.octets (heard_in talk.steps ++ talk.unheard) waiting
  pub makes : MakesAll opens receives asking now (unbegun old tasks) talk.steps talk.sent talk.ended
  pub spelled : AreSpelled talk.sent (talk.written ++ talk.unwritten)
  pub appended : Appends held held' talk.written
  pub ends : TalkEnds asking.is_idle turns talk (IsAtEnd left') result
  pub came_to : new ≡ endpoint talk.ended.station talk.ended.port
