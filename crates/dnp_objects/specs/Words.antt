-- Definition: the words in which rows and commands are printed: decimal numbers and words of small letters,
-- with one space between two of them.
use Rattle.std.specs.Prelude.{ℕ, ◌/◌, ◌%◌, true, List, [], ◌∷◌, ◌++◌, Option, Some, None, codes}
use Rattle.std.specs.Fmt.{decimal, signed_decimal, digits}
use Rattle.dnp_objects.specs.declared.row.Kind.{Kind}
use Rattle.dnp_objects.specs.declared.row.Kind.TheVariants.{Binary, Counter, Analog}
use Rattle.dnp_objects.specs.declared.row.Row.{Row}
use Rattle.dnp_objects.specs.declared.command.Command.{Command}
use Rattle.dnp_objects.specs.declared.command.Command.TheVariants.{Block, Set16, Set32}

abbrev pub space : List ℕ
space = 32 ∷ []

abbrev pub kind_word : Kind → List ℕ
kind_word Binary = codes "binary"
kind_word Counter = codes "counter"
kind_word Analog = codes "analog"

-- a number in hexadecimal digits, capital letters
abbrev pub hex_digits : ℕ → List ℕ
hex_digits number = digits 16 true number

-- an octet as two of them
abbrev pub octet_word : ℕ → List ℕ
octet_word octet = hex_digits (octet / 16) ++ hex_digits (octet % 16)

-- a time, or a dash where there is none
abbrev pub time_word : Option ℕ → List ℕ
time_word None = codes "-"
time_word (Some time) = decimal time

-- kind, index, value, flags, time
abbrev pub row_words : Row → List ℕ
row_words row =
    kind_word row.kind ++ (space ++ (decimal row.index ++ (space ++ (signed_decimal row.value
    ++ (space ++ (octet_word row.flags ++ (space ++ time_word row.time)))))))

-- the form of the command, its index, and what is to be done
abbrev pub command_words : Command → List ℕ
command_words (Block index code count on off) =
    codes "block " ++ (decimal index ++ (space ++ (decimal code ++ (space ++ (decimal count
    ++ (space ++ (decimal on ++ (space ++ decimal off))))))))
command_words (Set16 index value) = codes "set16 " ++ (decimal index ++ (space ++ signed_decimal value))
command_words (Set32 index value) = codes "set32 " ++ (decimal index ++ (space ++ signed_decimal value))
