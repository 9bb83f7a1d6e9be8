-- Definition: where the lines that are decoded of a stream (specs/StreamLines.antt of dnp_decode) were read: by the place of an
-- octet, or by the line of a text or the packet of a capture that brought it.
use Rattle.std.specs.Prelude.{◌≡◌, ℕ, ◌+◌, min, Bool, true, false, nat_lt, ◌==◌, ◌||◌, if◌then◌else◌, List, [], ◌∷◌, ◌++◌}
use Rattle.dnp_linkframe.specs.Frames.{frame_size}
use Rattle.dnp_decode.specs.declared.line.Line.{Line}
use Rattle.dnp_decode.specs.declared.line.Line.TheVariants as line
use Rattle.dnp_decode.specs.StreamLines.{AreLines}
use Rattle.dnp_captures.specs.declared.item.Item.{Item}
use Rattle.dnp_captures.specs.declared.item.Mark.{Mark}
use Rattle.dnp_captures.specs.declared.printing.Printer.{Printer}
use Rattle.dnp_captures.specs.declared.item.What.{What}
use Rattle.dnp_captures.specs.declared.item.What.TheVariants as what

-- how many octets of the stream a line is the first to tell of; a number of them is never over 2^64 - 1
abbrev pub octets_told : Line → ℕ
octets_told (line.Noise octets start) = octets
octets_told (line.Cut octets) = octets
octets_told (line.FrameRefused control dest source octets why) = octets
octets_told (line.Frame control dest source octets) = min (frame_size octets) 0xFFFFFFFFFFFFFFFF
octets_told _ = 0

-- where the octets end that are told of with this line, after so many
abbrev pub told_with : ℕ → Line → ℕ
told_with next line = min (next + octets_told line) 0xFFFFFFFFFFFFFFFF

abbrev pub item_at : ℕ → Line → Item
item_at at line = record { at = at; what = what.Line line }

-- ---- by the place of an octet

-- the items of lines after so many octets: each is at the first octet that it tells of, or where the line before it is
abbrev pub placed_from : ℕ → ℕ → List Line → List Item
placed_from place next [] = []
placed_from place next (line ∷ lines) =
    let here = if octets_told line == 0 then place else next in
    item_at here line ∷ placed_from here (told_with next line) lines

-- ---- by what brought an octet

-- the line or packet that brought the last of n octets: marks say from which octet on they are of which
abbrev pub brought_by : ℕ → ℕ → List Mark → ℕ
brought_by at n [] = at
brought_by at n (mark ∷ marks) = if nat_lt mark.place n then brought_by mark.at n marks else at

-- the items of lines after so many octets: each is of what brought the last octet that is told of up to it
abbrev pub marked_from : List Mark → ℕ → List Line → List Item
marked_from marks next [] = []
marked_from marks next (line ∷ lines) =
    let n = told_with next line in item_at (brought_by 0 n marks) line ∷ marked_from marks n lines

-- a frame begins in the stream, good or refused
abbrev pub is_frame : Line → Bool
is_frame (line.Frame control dest source octets) = true
is_frame (line.FrameRefused control dest source octets why) = true
is_frame _ = false

abbrev pub some_frame : List Line → Bool
some_frame [] = false
some_frame (line ∷ lines) = is_frame line || some_frame lines

-- ---- refusals

abbrev pub line_refuses : Line → Bool
line_refuses (line.Noise octets start) = true
line_refuses (line.FrameRefused control dest source octets why) = true
line_refuses (line.Cut octets) = true
line_refuses (line.SegmentRefused octets) = true
line_refuses line.SeriesDropped = true
line_refuses (line.FragmentRefused fault place) = true
line_refuses _ = false

abbrev pub what_refuses : What → Bool
what_refuses (what.Line line) = line_refuses line
what_refuses (what.Text column) = true
what_refuses what.Packet = true

-- the item says that something is refused
abbrev pub refuses : Item → Bool
refuses item = what_refuses item.what

abbrev pub some_refuses : List Item → Bool
some_refuses [] = false
some_refuses (item ∷ items) = refuses item || some_refuses items

-- the printer has had an item that says that something is refused
abbrev pub has_refused : Printer → Bool
has_refused printer = printer.refused
