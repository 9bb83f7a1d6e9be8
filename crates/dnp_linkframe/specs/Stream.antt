-- Definition: link frames in a stream of octets (IEEE Std 1815-2012, data link layer): which frames a whole stream
-- gives, and which of its octets still wait. Nothing here knows in what pieces the octets came.
use Rattle.std.specs.Prelude.{◌≡◌, ℕ, zero, suc, ◌-◌, ◌<◌, ◌≤◌, List, [], ◌∷◌, ◌++◌, length, take, drop, slice_index}
use Rattle.dnp_linkframe.specs.Frames.{IsChecked, Spells, frame_size}
use Rattle.dnp_linkframe.specs.declared.frame.Frame.{Frame}

-- the stream begins with a header: 05 64, and a check word that is right
pub record HasHeader (stream : List ℕ) : Type 0 where
  pub ten : 10 ≤ length stream
  pub start : take 2 stream ≡ 5 ∷ 100 ∷ []
  pub checked : IsChecked (take 10 stream)

-- how many octets the frame of that header has, by its LENGTH, which counts 5 octets beside the user data
abbrev pub said_size : List ℕ → ℕ
said_size stream = frame_size (slice_index stream 2 - 5)

-- the stream begins with a header whose LENGTH is at least 5
pub record BeginsFrame (stream : List ℕ) : Type 0 where
  pub header : HasHeader stream
  pub long : 5 ≤ slice_index stream 2

-- What can be at the front of a stream.
-- Waits: it can't be told yet. Fewer than 10 octets, or a header and not yet all that its LENGTH says.
-- NoHeader: 10 octets that are no header. NoLength: a header with a LENGTH under 5.
-- Damaged: all the octets that the LENGTH says, which spell no frame. Whole: those that spell the frame.
pub data Front : Type 0 where
  Waits : Front
  NoHeader : Front
  NoLength : Front
  Damaged : (size : ℕ) → Front
  Whole : (frame : Frame) (size : ℕ) → Front

-- that is what is at the front of this stream
abbrev pub IsFront : List ℕ → Front → Type 0
IsFront stream Waits = 10 ≤ length stream → BeginsFrame stream × (length stream < said_size stream)
IsFront stream NoHeader = (10 ≤ length stream) × (HasHeader stream → ⊥)
IsFront stream NoLength = HasHeader stream × (slice_index stream 2 < 5)
IsFront stream (Damaged size) =
    BeginsFrame stream × (size ≡ said_size stream) × (size ≤ length stream)
    × ((frame : Frame) → Spells (take size stream) frame → ⊥)
IsFront stream (Whole frame size) = (size ≤ length stream) × Spells (take size stream) frame

-- how many octets are done with: none while they wait, one where there is no header, the header alone where
-- its LENGTH is too small, else the whole frame, good or damaged
abbrev pub used : Front → ℕ
used Waits = 0
used NoHeader = 1
used NoLength = 10
used (Damaged size) = size
used (Whole frame size) = size

-- the frame that is given
abbrev pub frame_in : Front → List Frame
frame_in (Whole frame size) = frame ∷ []
frame_in _ = []

-- after this number of decisions at the front, each of which is done with some octets, the stream has given
-- these frames, and the rest is left of it
abbrev pub After : ℕ → List ℕ → List Frame → List ℕ → Type 0
After zero stream frames rest = (frames ≡ []) × (rest ≡ stream)
After (suc count) stream frames rest =
    (front : Front) × (more : List Frame) × IsFront stream front × (0 < used front)
    × (frames ≡ frame_in front ++ more) × After count (drop (used front) stream) more rest

-- the stream gives these frames, in order, and the rest waits for more octets
pub record Gives (stream : List ℕ) (frames : List Frame) (rest : List ℕ) : Type 0 where
  pub decisions : ℕ
  pub after : After decisions stream frames rest
  pub waits : IsFront rest Waits

-- each of the units spells the frame at its place
abbrev pub SpellEach : List (List ℕ) → List Frame → Type 0
SpellEach [] frames = frames ≡ []
SpellEach (unit ∷ units) [] = ⊥
SpellEach (unit ∷ units) (frame ∷ frames) = Spells unit frame × SpellEach units frames
