-- Definition: the lines of a frame, where these frames came before it: its own, and where it carries user data, that of
-- the segment in it and what the segment made of the fragment of its direction.
use Rattle.std.specs.Prelude.{◌≡◌, ℕ, ◌-◌, ◌/◌, ◌%◌, Bool, true, false, ◌==◌, ◌&&◌, ◌||◌, if◌then◌else◌, List, [], ◌∷◌, length}
use Rattle.dnp_linkframe.specs.declared.frame.Frame.{Frame}
use Rattle.dnp_transport.specs.Segments.{is_first, is_last, number, has_no_size}
use Rattle.dnp_transport.specs.Series.{IsWhole, IsDropped, IsNothing}
use Rattle.dnp_decode.specs.declared.hearing.TheConstants.{PRIMARY, CONFIRMED_USER_DATA, UNCONFIRMED_USER_DATA}
use Rattle.dnp_decode.specs.declared.line.Line.{Line}
use Rattle.dnp_decode.specs.declared.line.Line.TheVariants as line
use Rattle.dnp_decode.specs.FragmentLines.{AreFragmentLines}

-- the CONTROL octet says that there is user data for the layers above: it is of a station that asks, and its function is
-- CONFIRMED_USER_DATA or UNCONFIRMED_USER_DATA
abbrev pub says_data : ℕ → Bool
says_data control =
    (control / PRIMARY % 2 == 1) && ((control % 16 == CONFIRMED_USER_DATA) || (control % 16 == UNCONFIRMED_USER_DATA))

-- the frame carries user data in this direction
abbrev pub is_data_of : ℕ → ℕ → Frame → Bool
is_data_of source dest frame = ((frame.source == source) && (frame.dest == dest)) && says_data frame.control

-- the user data of this direction in these frames, in the same order
abbrev pub data_of : ℕ → ℕ → List Frame → List (List ℕ)
data_of source dest [] = []
data_of source dest (frame ∷ frames) =
    if is_data_of source dest frame then frame.user.items ∷ data_of source dest frames else data_of source dest frames

abbrev pub frame_line : Frame → Line
frame_line frame = line.Frame frame.control frame.dest frame.source (length frame.user.items)

-- the line of user data, which is a segment, or too short for one
abbrev pub segment_line : List ℕ → Line
segment_line octets =
    if has_no_size octets then line.SegmentRefused (length octets)
    else line.Segment (is_first octets) (is_last octets) (number octets) (length octets - 1)

-- what the newest of these user data of one direction, newest first, made of its fragment: nothing yet, or the end of its
-- series without one, or the whole fragment
pub data AreDataLines (pushed : List (List ℕ)) (lines : List Line) : Type 0 where
  Goes : IsNothing pushed → lines ≡ [] → AreDataLines pushed lines
  Drops : IsDropped pushed → lines ≡ line.SeriesDropped ∷ [] → AreDataLines pushed lines
  Ends : (fragment : List ℕ) → IsWhole pushed fragment → AreFragmentLines fragment lines → AreDataLines pushed lines

-- the lines of the frame, after these, newest first
pub data AreFrameLines (heard : List Frame) (frame : Frame) (lines : List Line) : Type 0 where
  Bare : says_data frame.control ≡ false → lines ≡ frame_line frame ∷ [] → AreFrameLines heard frame lines
  Carries : (more : List Line) → says_data frame.control ≡ true
      → AreDataLines (data_of frame.source frame.dest (frame ∷ heard)) more
      → lines ≡ frame_line frame ∷ segment_line frame.user.items ∷ more → AreFrameLines heard frame lines
