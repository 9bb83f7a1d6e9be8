-- What octets give by their parts is what they are read as, and a row fills the object that it is written as.
use Rattle.std.proofs.Common.{◌≡◌, sym, ap, ℕ, ◌<◌, ◌^◌, List, [], length, get_or, arith, Option, Some, None, IfSome, IsTrue, inl, inr}
use Rattle.std.specs.List.{All}
use Rattle.std.specs.Option.{option_map, option_map_or, option_and_then, IsSomeAnd}
use Rattle.std.proofs.lemmas.Bool.{cases_lt}
use Rattle.std.proofs.lemmas.List.{get_or_past}
use Rattle.dnp_objects.specs.declared.command.Command.{Command}
use Rattle.dnp_objects.specs.declared.row.Row.{Row}
use Rattle.dnp_objects.specs.declared.table.Content.{Content}
use Rattle.dnp_objects.specs.declared.table.Content.TheVariants as content
use Rattle.dnp_objects.specs.declared.table.Shape.{Shape}
use Rattle.dnp_objects.specs.Commands.{IsCommandOf, ReadsCommand}
use Rattle.dnp_objects.specs.Objects.{content_of, content_size, object_size, shape_read, shape_size, writable, IsContent, IsShape}
use Rattle.dnp_objects.specs.Parts.{row_of, command_of}
use Rattle.dnp_objects.specs.Rows.{Fits, Reads, IsReading, row_fits, row_octets, written}
use Rattle.dnp_objects.proofs.CommandsBack.{command_again, command_reads}
use Rattle.dnp_objects.proofs.Lines.{content_sound}
use Rattle.dnp_objects.proofs.RowFaults.{shape_read_sound}
use Rattle.dnp_objects.proofs.Spelling.{is_reading, length-row_octets, only_reading}
use Rattle.dnp_objects.proofs.Values.{AreOctets}

pub all_octets : (octets : List ℕ) → All (λ octet. octet < 2 ^ 8) octets → AreOctets octets
all_octets octets all i = elim (cases_lt i (length octets)) [
  | inl below ↦ all i 0 below
  | inr past ↦ let none : get_or octets i 0 ≡ 0 = get_or_past octets i 0 past in omega arith
]

-- ---- a row

pub row_given : (g v index : ℕ) (octets : List ℕ) → All (λ octet. octet < 2 ^ 8) octets
    → IfSome (shape_read g v) (λ shape. length octets ≡ shape_size shape → Reads g v index octets (row_of shape index octets))
row_given g v index octets all = go (shape_read g v) (shape_read_sound g v)
  where
    go : (o : Option Shape) → IfSome o IsShape
        → IfSome o (λ shape. length octets ≡ shape_size shape → IsSomeAnd o (λ s. IsReading s index octets (row_of shape index octets)))
    go None is = tt
    go (Some s) is = is_reading s.kind s.flags s.width s.time index octets is.number (all_octets octets all)

pub only_row : (g v index : ℕ) (octets : List ℕ) (row : Row) → Reads g v index octets row
    → option_map (λ shape. row_of shape index octets) (shape_read g v) ≡ Some row
only_row g v index octets row reads = go (shape_read g v) (shape_read_sound g v) reads
  where
    go : (o : Option Shape) → IfSome o IsShape → IsSomeAnd o (λ s. IsReading s index octets row)
        → option_map (λ shape. row_of shape index octets) o ≡ Some row
    go None is reads = absurd reads
    go (Some s) is reads = ap (λ (r : Row). Some r) (sym (only_reading s index octets row is reads))

-- ---- a command

pub command_given : (g v index : ℕ) (octets : List ℕ) → All (λ octet. octet < 2 ^ 8) octets
    → IfSome (content_of g v) (λ content. length octets ≡ content_size content
    → IfSome (command_of content index octets) (ReadsCommand g v index octets))
command_given g v index octets all = go (content_of g v) (content_sound g v)
  where
    go : (o : Option Content) → IfSome o IsContent → IfSome o (λ content. length octets ≡ content_size content
        → IfSome (command_of content index octets) (λ a. IsSomeAnd o (λ c. IsCommandOf c index octets a.0 a.1)))
    go None is = tt
    go (Some c) is = command_reads c index octets is (all_octets octets all)

pub only_command : (g v index : ℕ) (octets : List ℕ) (answer : Command × ℕ) → ReadsCommand g v index octets answer
    → option_and_then (λ content. command_of content index octets) (content_of g v) ≡ Some answer
only_command g v index octets answer reads = go (content_of g v) reads
  where
    go : (o : Option Content) → IsSomeAnd o (λ c. IsCommandOf c index octets answer.0 answer.1)
        → option_and_then (λ content. command_of content index octets) o ≡ Some answer
    go None reads = absurd reads
    go (Some c) reads = command_again c index octets answer.0 answer.1 reads

-- ---- the octets of a row

pub fills : (g v : ℕ) (row : Row) → Fits g v row → object_size g v ≡ Some (length (written g v row))
fills g v row fits = go (content_of g v) fits
  where
    go : (o : Option Content) → IsSomeAnd (option_and_then writable o) (λ shape. IsTrue (row_fits shape row))
        → option_map content_size o ≡ Some (length (option_map_or (λ shape. row_octets shape row) (option_and_then writable o) []))
    go None fits = absurd fits
    go (Some (content.Row s)) fits = ap (λ (n : ℕ). Some n) (sym (length-row_octets s row fits))
    go (Some (content.WrittenRow s)) fits = ap (λ (n : ℕ). Some n) (sym (length-row_octets s row fits))
    go (Some content.Block) fits = absurd fits
    go (Some (content.Setpoint w)) fits = absurd fits
    go (Some (content.Other n)) fits = absurd fits
