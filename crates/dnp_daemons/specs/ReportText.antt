-- Definition: a report as lines of text. What is of the second centre stands behind the same of the first, with a 2 to its name.
use Rattle.std.specs.Prelude.{ℕ, List, [], ◌∷◌, ◌++◌, length, map, codes, Option, Some, None}
use Rattle.std.specs.Fmt.{decimal, signed_decimal}
use Rattle.std.specs.List.{concat}
use Rattle.dnp_objects.specs.declared.row.Kind.{Kind}
use Rattle.dnp_objects.specs.declared.row.Kind.TheVariants.{Binary, Counter, Analog}
use Rattle.dnp_objects.specs.declared.row.Row.{Row}
use Rattle.dnp_objects.specs.declared.command.Command.{Command}
use Rattle.dnp_objects.specs.declared.command.Command.TheVariants.{Block, Set16, Set32}
use Rattle.dnp_world.specs.declared.report.Report.{Report}
use Rattle.dnp_streams.specs.OctetLines.{octet_text}

-- words, with a space before each
abbrev pub spaced : List (List ℕ) → List ℕ
spaced [] = []
spaced (word ∷ words) = 32 ∷ word ++ spaced words

abbrev pub kind_word : Kind → List ℕ
kind_word Binary = codes "binary"
kind_word Counter = codes "counter"
kind_word Analog = codes "analog"

-- a time, or that there is none
abbrev pub time_word : Option ℕ → List ℕ
time_word (Some time) = decimal time
time_word None = codes "-"

-- an event's kind, index, value, flags and time
abbrev pub row_words : Row → List (List ℕ)
row_words row = kind_word row.kind ∷ decimal row.index ∷ signed_decimal row.value ∷ octet_text row.flags ∷ time_word row.time ∷ []

-- the words with which a command is issued
abbrev pub command_words : Command → List (List ℕ)
command_words (Block index code count on_ms off_ms) =
    codes "block" ∷ decimal index ∷ decimal code ∷ decimal count ∷ decimal on_ms ∷ decimal off_ms ∷ []
command_words (Set16 index value) = codes "set16" ∷ decimal index ∷ signed_decimal value ∷ []
command_words (Set32 index value) = codes "set32" ∷ decimal index ∷ signed_decimal value ∷ []

-- a line of a name and a number
abbrev pub count_line : List ℕ → List ℕ → List ℕ
count_line name number = name ++ 32 ∷ number ++ 10 ∷ []

-- the line of an event or a command, by its substation and its words
abbrev pub item_line : ℕ → List (List ℕ) → List ℕ
item_line substation words = spaced (decimal substation ∷ words) ++ 10 ∷ []

-- a list: its name and length, and below it a line for each thing in it, by the thing's words
abbrev pub list_text : {A : Type 0} → (A → List (List ℕ)) → List ℕ → List (ℕ × A) → List ℕ
list_text words name things =
    count_line name (decimal (length things)) ++ concat (map (λ thing. item_line thing.0 (words thing.1)) things)

abbrev pub events_text : List ℕ → List (ℕ × Row) → List ℕ
events_text = list_text row_words

abbrev pub commands_text : List ℕ → List (ℕ × Command) → List ℕ
commands_text = list_text command_words

-- the whole report
abbrev pub report_text : Report → List ℕ
report_text report =
    concat (
    events_text (codes "journal") report.journal.0
    ∷ events_text (codes "journal2") report.journal.1
    ∷ events_text (codes "queue") report.queue.0
    ∷ events_text (codes "queue2") report.queue.1
    ∷ events_text (codes "dropped") report.dropped.0
    ∷ events_text (codes "dropped2") report.dropped.1
    ∷ events_text (codes "confirmed") report.confirmed
    ∷ events_text (codes "buffered") report.buffered
    ∷ events_text (codes "overwritten") report.overwritten
    ∷ events_text (codes "gone") report.gone
    ∷ commands_text (codes "issued") report.issued
    ∷ commands_text (codes "operated") report.operated
    ∷ count_line (codes "lost") (decimal report.lost.0)
    ∷ count_line (codes "lost2") (decimal report.lost.1)
    ∷ []
    )
