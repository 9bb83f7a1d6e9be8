-- Private steps: what one step of a decoder does, and what all so far did.
use Rattle.std.specs.Prelude.{◌≡◌, ℕ, ◌≤◌, List, [], ◌++◌, length, drop}
use Rattle.dnp_linkframe.specs.declared.frame.Frame.{Frame}
use Rattle.dnp_decode.specs.declared.line.Line.{Line}
use Rattle.dnp_decode.specs.StreamLines.{IsStep, AreLines}
use Rattle.dnp_decode.specs.steps.Remembered.{Ports, Remembers}

-- after these frames, what stands at the front of the stream was read: n octets. Its lines were put after the old ones
pub record Stepped (heard : List Frame) (stream : List ℕ) (n : ℕ) (old new : List Line) (ports : Ports) : Type 0 where
  pub own : List Line
  pub after : List Frame
  pub step : IsStep heard stream n own after
  pub remembers : Remembers after ports
  pub lines : new ≡ old ++ own

-- the lines so far, with those of the rest of the stream, are the stream's
pub record SoFar (stream : List ℕ) (done : ℕ) (lines : List Line) (ports : Ports) : Type 0 where
  pub within : done ≤ length stream
  pub heard : List Frame
  pub remembers : Remembers heard ports
  pub rest : (more : List Line) → AreLines heard (drop done stream) more → AreLines [] stream (lines ++ more)
