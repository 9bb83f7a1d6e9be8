-- Definition: the row and the command that octets give, part by part, as functions of as many octets as the
-- object has. What they have to be is said in Rows.antt and Commands.antt.
use Rattle.std.specs.Prelude.{ℕ, ◌+◌, ◌/◌, ◌%◌, ℤ, pos, if◌then◌else◌, ◌==◌, List, drop, Option, Some, None, slice_index}
use Rattle.std.specs.Int.{w16, w32, cast_signed}
use Rattle.byteorder.specs.Endian.{little_number, twos_complement}
use Rattle.dnp_objects.specs.declared.row.Kind.{Kind}
use Rattle.dnp_objects.specs.declared.row.Kind.TheVariants.{Binary, Counter, Analog}
use Rattle.dnp_objects.specs.declared.row.Row.{Row}
use Rattle.dnp_objects.specs.declared.command.Command.{Command}
use Rattle.dnp_objects.specs.declared.command.Command.TheVariants.{Block, Set16, Set32}
use Rattle.dnp_objects.specs.declared.table.Shape.{Shape}
use Rattle.dnp_objects.specs.declared.table.Content.{Content}
use Rattle.dnp_objects.specs.declared.table.Content.TheVariants as content
use Rattle.dnp_objects.specs.Objects.{flags_size}

-- the flags octet, which is 01 for an object without
abbrev pub first_of : Shape → List ℕ → ℕ
first_of shape octets = if shape.flags then slice_index octets 0 else 1

abbrev pub flags_of : Kind → ℕ → ℕ
flags_of Binary first = first % 128
flags_of Counter first = first
flags_of Analog first = first

abbrev pub value_of : Kind → ℕ → ℕ → ℕ → ℤ
value_of Binary width first number = pos (first / 128)
value_of Counter width first number = pos number
value_of Analog width first number = twos_complement width number

abbrev pub time_of : Shape → List ℕ → Option ℕ
time_of shape octets =
    if shape.time then Some (little_number 6 (drop (flags_size shape + shape.width) octets)) else None

abbrev pub row_of : Shape → ℕ → List ℕ → Row
row_of shape index octets = record {
  kind = shape.kind;
  index = index;
  flags = flags_of shape.kind (first_of shape octets);
  value = value_of shape.kind shape.width (first_of shape octets) (little_number shape.width (drop (flags_size shape) octets));
  time = time_of shape octets;
}

abbrev pub block_of : ℕ → List ℕ → Command
block_of index octets =
    Block index (slice_index octets 0) (slice_index octets 1) (little_number 4 (drop 2 octets)) (little_number 4 (drop 6 octets))

abbrev pub setpoint_of : ℕ → ℕ → List ℕ → Command
setpoint_of width index octets =
    if width == 2
    then Set16 index (cast_signed w16 (little_number 2 octets))
    else Set32 index (cast_signed w32 (little_number 4 octets))

-- the command and the status in an object that carries one
abbrev pub command_of : Content → ℕ → List ℕ → Option (Command × ℕ)
command_of (content.Row s) index octets = None
command_of (content.WrittenRow s) index octets = None
command_of content.Block index octets = Some (block_of index octets, slice_index octets 10 % 128)
command_of (content.Setpoint width) index octets = Some (setpoint_of width index octets, slice_index octets width % 128)
command_of (content.Other n) index octets = None
