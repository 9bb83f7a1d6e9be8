-- Definition: the head of a sequence chart, which is SVG, and how texts stand in it: nothing in them is read as XML.
use Rattle.std.specs.Prelude.{ℕ, ◌+◌, ◌*◌, Bool, true, false, ◌&&◌, ◌||◌, nat_le, ◌==◌, if◌then◌else◌, List, [], ◌∷◌, ◌++◌, min, codes}
use Rattle.std.specs.Fmt.{decimal}
use Rattle.std.specs.List.{flat_map, list_any}
use Rattle.dnp_trace.specs.declared.chart.TheConstants.{APART, BOTTOM, LEFT, MAX_ROWS, RIGHT, ROW, TOP}
use Rattle.dnp_trace.specs.declared.noted.Peer.{Peer}
use Rattle.dnp_trace.specs.declared.noted.Peer.TheVariants as peer
use Rattle.dnp_trace.specs.declared.svg.TheConstants.{BACKGROUND, OPENING, STYLE, VIEW}
use Rattle.dnp_trace.specs.Logs.{Noted, Sent}

-- an octet of a text as XML has it: 60 is '<', 62 is '>', 38 is '&', 34 is '"'; what is no character of ASCII is '?'
abbrev pub octet_escaped : ℕ → List ℕ
octet_escaped octet =
    if octet == 60 then codes "&lt;"
    else if octet == 62 then codes "&gt;"
    else if octet == 38 then codes "&amp;"
    else if octet == 34 then codes "&quot;"
    else if (octet == 9) || (octet == 10) || (nat_le 32 octet && nat_le octet 126) then octet ∷ []
    else codes "?"

abbrev pub text_escaped : List ℕ → List ℕ
text_escaped text = flat_map octet_escaped text

-- an attribute that is a number, after a space: 61 is '=', 34 is '"'
unfoldable pub attribute_text : List ℕ → ℕ → List ℕ
attribute_text name value = codes " " ++ name ++ 61 ∷ 34 ∷ [] ++ decimal value ++ 34 ∷ []

-- a unit was on the link to the second centre
abbrev pub is_of_second : Peer → Bool
is_of_second peer.Centre = false
is_of_second peer.SecondCentre = true
is_of_second (peer.Substation substation) = false

abbrev pub has_second : Noted → Bool
has_second log = list_any (λ (unit : Sent). is_of_second unit.course.peer) log.units

-- how many stations stand to the right of the first: the second centre where a unit was on its link, the concentrator, and each
-- substation
abbrev pub gaps : Noted → ℕ
gaps log = log.substations + (if has_second log then 2 else 1)

-- a column for the first, and for each of these
abbrev pub chart_width : ℕ → ℕ
chart_width gaps = LEFT + APART * gaps + RIGHT

-- a row for each thing that happened, MAX_ROWS at most
abbrev pub chart_height : ℕ → ℕ
chart_height steps = TOP + ROW * min steps MAX_ROWS + BOTTOM

-- the size of a chart, and the part of it that is seen, which is all: 34 is '"', 62 is '>', and 10 ends the line
unfoldable pub size_text : ℕ → ℕ → List ℕ
size_text width height = attribute_text (codes "width") width ++ attribute_text (codes "height") height

unfoldable pub view_text : List ℕ → ℕ → ℕ → List ℕ
view_text view width height = view ++ decimal width ++ codes " " ++ decimal height ++ 34 ∷ 62 ∷ 10 ∷ []

-- the head of a chart of this size, up to its background
unfoldable pub chart_head : ℕ → ℕ → List ℕ
chart_head width height =
    OPENING.now ++ (size_text width height ++ (view_text VIEW.now width height ++ (STYLE.now ++ BACKGROUND.now)))
