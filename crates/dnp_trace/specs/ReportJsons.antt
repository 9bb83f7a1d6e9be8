-- Definition: what a script that ran to its report printed, as one object of JSON. 34 is '"', 123 and 125 are braces, 91 and
-- 93 are brackets, and 10 ends a line.
use Rattle.std.specs.Prelude.{◌≡◌, ℕ, ◌<◌, Bool, true, false, ◌==◌, ◌&&◌, ◌||◌, if◌then◌else◌, List, [], ◌∷◌, ◌++◌, length, slice_index, codes}
use Rattle.std.specs.List.{before_first, after_first}
use Rattle.std.specs.Str.{bytes_eq}
use Rattle.dnp_trace.specs.declared.json.Kind.{Kind}
use Rattle.dnp_trace.specs.declared.json.Kind.TheVariants as kind

-- ---- lines and words

-- the first line of a text, and the text below it
abbrev pub first_line : List ℕ → List ℕ
first_line text = before_first (λ octet. octet == 10) text

abbrev pub lines_below : List ℕ → List ℕ
lines_below text = after_first (λ octet. octet == 10) text

-- the first word of a line, and what follows the space after it
abbrev pub first_word : List ℕ → List ℕ
first_word words = before_first (λ octet. octet == 32) words

abbrev pub more_words : List ℕ → List ℕ
more_words words = after_first (λ octet. octet == 32) words

-- ---- members

-- a value: in quotes, or a number, or null where `-`, 45, says that there is none
abbrev pub value_text : List ℕ → Bool → List ℕ
value_text value quoted =
    if quoted then 34 ∷ value ++ 34 ∷ []
    else if (length value == 1) && (slice_index value 0 == 45) then codes "null" else value

-- a name and its value: 58 is ':'
abbrev pub member : List ℕ → List ℕ → Bool → List ℕ
member name value quoted = 34 ∷ name ++ 34 ∷ 58 ∷ 32 ∷ [] ++ value_text value quoted

-- what the words of an item say, one after the other: each with its name, and whether it is in quotes
pub record Named : Type 0 where
  pub name : List ℕ
  pub quoted : Bool

abbrev pub plain : List ℕ → Named
plain name = record { name = name; quoted = false }

abbrev pub text : List ℕ → Named
text name = record { name = name; quoted = true }

abbrev pub members : List Named → List ℕ → List ℕ
members [] words = []
members (named ∷ more) words =
    codes ", " ++ member named.name (first_word words) named.quoted ++ members more (more_words words)

-- an event; a command to a binary output, or to a setpoint
abbrev pub event_names : List Named
event_names = text (codes "kind") ∷ plain (codes "index") ∷ plain (codes "value") ∷ text (codes "flags") ∷ plain (codes "time") ∷ []

abbrev pub block_names : List Named
block_names =
    text (codes "command") ∷ plain (codes "index") ∷ plain (codes "code") ∷ plain (codes "count") ∷ plain (codes "on_ms")
    ∷ plain (codes "off_ms") ∷ []

abbrev pub setpoint_names : List Named
setpoint_names = text (codes "command") ∷ plain (codes "index") ∷ plain (codes "value") ∷ []

-- the names of the words that begin with this one
abbrev pub names_by : List ℕ → List Named
names_by word =
    if bytes_eq word (codes "block") then block_names
    else (if bytes_eq word (codes "set16") || bytes_eq word (codes "set32") then setpoint_names else event_names)

-- ---- items and outcomes

-- an event or a command of a list, which begins with its substation
abbrev pub item : List ℕ → List ℕ
item words =
    123 ∷ member (codes "substation") (first_word words) false
    ++ members (names_by (first_word (more_words words))) (more_words words) ++ 125 ∷ []

-- the number by which something was refused, if it was
abbrev pub reason : List ℕ → List ℕ
reason words = if length words == 0 then [] else codes ", " ++ member (codes "reason") (first_word words) false

-- how a round or a control came out
abbrev pub outcome : List ℕ → List ℕ
outcome words =
    123 ∷ member (first_word words) (first_word (more_words words)) true ++ codes ", "
    ++ member (codes "outcome") (first_word (more_words (more_words words))) true
    ++ reason (more_words (more_words (more_words words))) ++ 125 ∷ []

-- ---- lists

-- an item begins on a line of its own, and after a comma, 44, where it isn't the first
abbrev pub begin_item : Bool → List ℕ
begin_item first = (if first then [] else 44 ∷ []) ++ 10 ∷ 32 ∷ 32 ∷ 32 ∷ 32 ∷ []

abbrev pub begin_list : List ℕ → List ℕ
begin_list name = 34 ∷ name ++ 34 ∷ 58 ∷ 32 ∷ 91 ∷ []

abbrev pub end_list : Bool → List ℕ
end_list empty = (if empty then [] else 10 ∷ 32 ∷ 32 ∷ []) ++ 93 ∷ 44 ∷ 10 ∷ 32 ∷ 32 ∷ []

-- ---- lines

-- the words of a round, of a control, and of one of the second centre
abbrev pub is_outcome : List ℕ → Bool
is_outcome word = bytes_eq word (codes "round") || bytes_eq word (codes "control") || bytes_eq word (codes "control2")

-- what a line is, by its first word
abbrev pub kind_of : List ℕ → Kind
kind_of word =
    if length word == 0 then kind.Item
    else (if is_outcome word then kind.Outcome
    else (if bytes_eq word (codes "lost") then kind.Lost
    else (if bytes_eq word (codes "lost2") then kind.Lost2 else kind.List)))

-- a line, after a list that is empty so far or isn't
abbrev pub line_json : Kind → Bool → List ℕ → List ℕ
line_json kind.Item empty line = begin_item empty ++ item (more_words line)
line_json kind.Outcome empty line = begin_item empty ++ outcome line
line_json kind.Lost empty line = end_list empty ++ member (codes "lost") (more_words line) false
line_json kind.Lost2 empty line = 44 ∷ 10 ∷ 32 ∷ 32 ∷ [] ++ member (codes "lost2") (more_words line) false
line_json kind.List empty line = end_list empty ++ begin_list (first_word line)

-- whether the list is empty after it
abbrev pub empty_after : Kind → Bool → Bool
empty_after kind.Item empty = false
empty_after kind.Outcome empty = false
empty_after kind.Lost empty = empty
empty_after kind.Lost2 empty = empty
empty_after kind.List empty = true

-- the lines of a text and the end of the object, after a list that is empty so far or isn't
pub data AreLinesJson : List ℕ → Bool → List ℕ → Type 0 where
  Ends : (empty : Bool) → AreLinesJson [] empty (10 ∷ 125 ∷ 10 ∷ [])
  GoesOn : (lines : List ℕ) (empty : Bool) (more : List ℕ) → 0 < length lines
      → AreLinesJson (lines_below lines) (empty_after (kind_of (first_word (first_line lines))) empty) more
      → AreLinesJson lines empty (line_json (kind_of (first_word (first_line lines))) empty (first_line lines) ++ more)

-- the object: the list of the outcomes, and then what the lines say
pub record IsReportJson (text json : List ℕ) : Type 0 where
  pub lines : List ℕ
  pub each : AreLinesJson text true lines
  pub joined : json ≡ 123 ∷ 10 ∷ 32 ∷ 32 ∷ [] ++ begin_list (codes "outcomes") ++ lines
