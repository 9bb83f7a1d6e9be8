-- Definition: the stream law: what was written to a stream is what a station and its port send for what was read from it.
use Rattle.std.specs.Prelude.{◌≡◌, ℕ, ◌≤◌, ◌↔◌, true, false, List, [], ◌++◌, length, Option, Result, Ok, Err}
use Rattle.std.specs.Io.KnownBytes.{Appends, Consumes, IsAtEnd}
use Rattle.dnp_linkframe.specs.declared.frame.Frame.{Frame}
use Rattle.dnp_streams.specs.streams.Stations.{Opening, Receiving, Endpoint}
use Rattle.dnp_streams.specs.streams.Spelled.{AreSpelled}
use Rattle.dnp_streams.specs.streams.Exchanges.{Output, Converses}
use Rattle.dnp_streams.specs.streams.Counts.{Counts, none_served}
use Rattle.dnp_streams.specs.declared.stream.log.Log.{Log}
use Rattle.dnp_streams.specs.declared.stream.served.Served.{Served}
use Rattle.dnp_streams.specs.declared.stream.serve.ServeFault.{ServeFault}
use Rattle.dnp_streams.specs.declared.stream.serve.ServeFault.TheVariants.{ReadFailed, WriteFailed, TurnsSpent, Memory}

-- What went through a stream: the octets that were read and looked at, and after them those for which memory was
-- refused; the output that they made, and the frames that they gave and that were not heard; the octets of the output
-- that were written, and those that were not.
pub record Traffic : Type 0 where
  pub octets : List ℕ
  pub refused : List ℕ
  pub output : Output
  pub unheard : List Frame
  pub written : List ℕ
  pub unwritten : List ℕ

-- all that was read was heard and answered, and the connection was not closed
pub record IsOpenStill (t : Traffic) : Type 0 where
  pub looked_at : t.refused ≡ []
  pub heard : t.unheard ≡ []
  pub answered : t.unwritten ≡ []
  pub open_still : t.output.closed ≡ false

-- all was answered, and counted; it ended because a step closed the connection, or because nothing more came
pub record IsServed (t : Traffic) (at_end : Type 0) (served : Served) : Type 0 where
  pub counted : Counts none_served t.output served
  pub looked_at : t.refused ≡ []
  pub answered : t.unwritten ≡ []
  pub ended : t.output.closed ≡ false → at_end × (t.unheard ≡ [])

-- how a stream ends
abbrev pub StreamEndsBy : ℕ → Traffic → Type 0 → Result Served ServeFault → Type 0
StreamEndsBy turns t at_end (Ok served) = IsServed t at_end served
StreamEndsBy turns t at_end (Err ReadFailed) = IsOpenStill t
StreamEndsBy turns t at_end (Err WriteFailed) = t.refused ≡ []
StreamEndsBy turns t at_end (Err TurnsSpent) = IsOpenStill t × (turns ≤ length t.octets)
StreamEndsBy turns t at_end (Err Memory) = (t.unheard ≡ []) × (t.unwritten ≡ []) × (t.output.closed ≡ false)

-- A station and its port served a stream, of which the reader had these octets left before and after, and the writer
-- had these before and after.
pub record Serves {S : Type 0} (opens : Opening S) (receives : Receiving S) (now turns : ℕ) (old : Endpoint S)
    (left left' held held' : Option (List ℕ)) (result : Result Served ServeFault) (new : Endpoint S) : Type 0 where
  pub traffic : Traffic
  pub read : Consumes left left' (traffic.octets ++ traffic.refused)
  pub converses : Converses opens receives now old traffic.octets traffic.unheard traffic.output new
  pub spelled : AreSpelled traffic.output.frames (traffic.written ++ traffic.unwritten)
  pub appended : Appends held held' traffic.written
  pub ends : StreamEndsBy turns traffic (IsAtEnd left') result

-- after a fault the station is hung up
abbrev pub IsLeft : {S A : Type 0} → (S → S) → Result A ServeFault → S → S → Type 0
IsLeft hung_up_of (Ok done) ended station = station ≡ ended
IsLeft hung_up_of (Err fault) ended station = station ≡ hung_up_of ended

-- What the log of a stream's reads and writes says of its end: a fault of the reader or the writer where there was one,
-- and nowhere else; at most `turns` reads, and that many where they are spent.
pub record IsNoted {A : Type 0} (turns : ℕ) (result : Result A ServeFault) (log : Log) : Type 0 where
  pub read_failed : (result ≡ Err ReadFailed) ↔ (log.read_failed ≡ true)
  pub write_failed : (result ≡ Err WriteFailed) ↔ (log.write_failed ≡ true)
  pub reads : log.reads ≤ turns
  pub spent : result ≡ Err TurnsSpent → log.reads ≡ turns
