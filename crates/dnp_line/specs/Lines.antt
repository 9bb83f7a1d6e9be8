-- Definition: a line between two stations as a list of units, and what each call does to it. A line keeps the order of what it
-- carries; it may give a unit more than once, and it may lose units.
use Rattle.std.specs.Prelude.{◌≡◌, ℕ, ◌+◌, ◌-◌, Bool, nat_le, if◌then◌else◌, List, [], ◌∷◌, ◌++◌, length, Option, slice_get, max}
use Rattle.dnp_linkframe.specs.Frames.{Spells}
use Rattle.dnp_linkframe.specs.declared.frame.Frame.{Frame}
use Rattle.dnp_line.specs.declared.line.TheConstants.{BROKEN_LOSSES}

-- the units on a line, each a string of octets, the front first, and how many units were lost in a row
pub record LineState : Type 0 where
  pub units : List (List ℕ)
  pub lost : ℕ

-- a line with these units, after this number of losses in a row
abbrev pub line_of : List (List ℕ) → ℕ → LineState
line_of units lost = record { units = units; lost = lost }

-- a line that nothing was sent on
abbrev pub quiet_line : LineState
quiet_line = line_of [] 0

-- the line is broken, by BROKEN_LOSSES losses in a row: it carries nothing until it is cleared
abbrev pub is_broken : LineState → Bool
is_broken l = nat_le BROKEN_LOSSES l.lost

-- the unit that leaves the line next
abbrev pub front_of : LineState → Option (List ℕ)
front_of l = slice_get l.units 0

-- a send puts the unit after those on the line; a broken line drops it
abbrev pub sent_on : List ℕ → LineState → LineState
sent_on unit l = if is_broken l then l else line_of (l.units ++ unit ∷ []) l.lost

-- a delivery takes the front unit off and ends the losses in a row; with no unit there is no delivery
abbrev pub delivered_on : LineState → LineState
delivered_on l = taken_off l.units
  where
    taken_off : List (List ℕ) → LineState
    taken_off [] = l
    taken_off (unit ∷ rest) = line_of rest 0

-- a repeat gives the front unit, keeps it, and ends the losses in a row; with no unit there is no repeat
abbrev pub repeated_on : LineState → LineState
repeated_on l = given_again l.units
  where
    given_again : List (List ℕ) → LineState
    given_again [] = l
    given_again (unit ∷ rest) = line_of l.units 0

-- a loss takes the front unit off, and one loss more breaks the line, or doesn't: a broken line has no units left;
-- with no unit there is no loss
abbrev pub lost_on : LineState → LineState
lost_on l = left_after l.units
  where
    left_after : List (List ℕ) → LineState
    left_after [] = l
    left_after (unit ∷ rest) = line_of (if nat_le BROKEN_LOSSES (l.lost + 1) then [] else rest) (l.lost + 1)

-- the octets read as a link frame
abbrev pub ReadsAsFrame : List ℕ → Type 0
ReadsAsFrame octets = (frame : Frame) × Spells octets frame

-- damage to the front unit: where its octets became such as read as a frame nothing is changed, since no line makes one
-- frame of another; any others are a loss of the unit
pub data Damages (octets : List ℕ) (old new : LineState) : Type 0 where
  Nothing : ReadsAsFrame octets → new ≡ old → Damages octets old new
  Loss : (ReadsAsFrame octets → ⊥) → new ≡ lost_on old → Damages octets old new

-- clearing drops what is on the line and mends a broken one
abbrev pub cleared_on : LineState → LineState
cleared_on l = quiet_line

-- a line, and how many units there is memory for
pub record HeldLine : Type 0 where
  pub state : LineState
  pub capacity : ℕ

-- how many units more there is memory for
abbrev pub room_of : HeldLine → ℕ
room_of l = l.capacity - length l.state.units

-- memory for n units more than there are, and no less than there was
abbrev pub reserved_on : ℕ → HeldLine → HeldLine
reserved_on n l = record l { capacity = max l.capacity (length l.state.units + n) }
