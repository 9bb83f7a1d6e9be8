-- Definition: the lines of a stream of octets: those of what stands at its front (specs/Stream.antt of dnp_linkframe),
-- and then those of the rest.
use Rattle.std.specs.Prelude.{◌≡◌, ℕ, ◌+◌, ◌*◌, ◌<◌, Bool, nat_lt, ◌==◌, ◌&&◌, List, [], ◌∷◌, ◌++◌, length, take, drop, slice_index}
use Rattle.dnp_linkframe.specs.declared.frame.Frame.{Frame}
use Rattle.dnp_linkframe.specs.declared.frame.FrameFault.{FrameFault}
use Rattle.dnp_linkframe.specs.declared.frame.FrameFault.TheVariants as fault
use Rattle.dnp_linkframe.specs.Frames.{IsFirstFault}
use Rattle.dnp_linkframe.specs.Stream.{Waits, NoHeader, NoLength, Damaged, Whole, IsFront}
use Rattle.dnp_decode.specs.declared.line.Line.{Line}
use Rattle.dnp_decode.specs.declared.line.Line.TheVariants as line
use Rattle.dnp_decode.specs.FrameLines.{AreFrameLines}

-- at each of the first n octets no frame begins, and what follows them is something else, or too short to tell
pub record IsNoise (stream : List ℕ) (n : ℕ) : Type 0 where
  pub some : 0 < n
  pub each : (k : ℕ) → k < n → IsFront (drop k stream) NoHeader
  pub ends : IsFront (drop n stream) NoHeader → ⊥

-- the octets begin with 05 64, as a header does
abbrev pub begins_so : List ℕ → Bool
begins_so octets = nat_lt 1 (length octets) && (slice_index octets 0 == 5) && (slice_index octets 1 == 100)

-- the line of n octets that begin with a header and are refused
abbrev pub refused_line : List ℕ → ℕ → FrameFault → Line
refused_line stream n why =
    line.FrameRefused (slice_index stream 3) (slice_index stream 4 + slice_index stream 5 * 256)
    (slice_index stream 6 + slice_index stream 7 * 256) n why

-- what stands at the front of the stream, after these frames, has n octets and these lines, and these frames were heard
-- then, newest first
pub data IsStep (heard : List Frame) (stream : List ℕ) (n : ℕ) (lines : List Line) (after : List Frame) : Type 0 where
  Skips : IsNoise stream n → lines ≡ line.Noise n (begins_so stream) ∷ [] → after ≡ heard → IsStep heard stream n lines after
  Shorts : IsFront stream NoLength → n ≡ 10 → lines ≡ refused_line stream n fault.Length ∷ [] → after ≡ heard
      → IsStep heard stream n lines after
  Refuses : (why : FrameFault) → IsFront stream (Damaged n) → IsFirstFault (take n stream) why
      → lines ≡ refused_line stream n why ∷ [] → after ≡ heard → IsStep heard stream n lines after
  Reads : (frame : Frame) → IsFront stream (Whole frame n) → AreFrameLines heard frame lines → after ≡ frame ∷ heard
      → IsStep heard stream n lines after

-- the lines of the stream, after these frames, newest first: at its end those octets are named that are too few to tell
-- what they are
pub data AreLines : List Frame → List ℕ → List Line → Type 0 where
  Ends : (heard : List Frame) → AreLines heard [] []
  Cuts : (heard : List Frame) (stream : List ℕ) → 0 < length stream → IsFront stream Waits
      → AreLines heard stream (line.Cut (length stream) ∷ [])
  GoesOn : (heard after : List Frame) (stream : List ℕ) (n : ℕ) (lines more : List Line) → IsStep heard stream n lines after
      → 0 < n → AreLines after (drop n stream) more → AreLines heard stream (lines ++ more)
