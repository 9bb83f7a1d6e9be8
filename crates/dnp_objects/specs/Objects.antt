-- Definition: the objects: what one of each group and variation carries (IEEE Std 1815-2012, object library).
--
-- The list `objects` is the definition. Sizes, reading and writing are all stated by it, so that a further
-- object is one line of it. Packed bits (1.1, 80.1) have no size of their own and no line.
use Rattle.std.specs.Prelude.{◌≡◌, ℕ, ◌+◌, ◌≤◌, Bool, true, false, ◌&&◌, ◌==◌, if◌then◌else◌, ◌⊎◌, ⊤, List, [], ◌∷◌, Option, Some, None, find}
use Rattle.std.specs.Option.{option_map, option_and_then}
use Rattle.dnp_objects.specs.declared.row.Kind.{Kind}
use Rattle.dnp_objects.specs.declared.row.Kind.TheVariants.{Binary, Counter, Analog}
use Rattle.dnp_objects.specs.declared.table.Shape.{Shape}
use Rattle.dnp_objects.specs.declared.table.Content.{Content}
use Rattle.dnp_objects.specs.declared.table.Content.TheVariants as content

-- a line: an object and what it carries
pub record Object : Type 0 where
  pub group : ℕ
  pub variation : ℕ
  pub content : Content

-- ---- the words of a line

-- with a flags octet, or bare
abbrev pub flagged : Bool
flagged = true

abbrev pub bare : Bool
bare = false

-- with the time in milliseconds in 6 octets, or untimed
abbrev pub timed : Bool
timed = true

abbrev pub untimed : Bool
untimed = false

abbrev pub object : ℕ → ℕ → Content → Object
object group variation c = record { group = group; variation = variation; content = c }

abbrev pub shape : Kind → Bool → ℕ → Bool → Shape
shape k f w t = record { kind = k; flags = f; width = w; time = t }

-- a row: group, variation, kind of point, flagged or bare, the octets of the value, timed or
-- untimed. An analog's value is two's complement, a counter's unsigned; a binary's value stands in
-- bit 7 of the flags and has no octets of its own.
abbrev pub row : ℕ → ℕ → Kind → Bool → ℕ → Bool → Object
row group variation k f w t = object group variation (content.Row (shape k f w t))

-- the same, but such a row is written and never read
abbrev pub written_row : ℕ → ℕ → Kind → Bool → ℕ → Bool → Object
written_row group variation k f w t = object group variation (content.WrittenRow (shape k f w t))

-- a control relay output block
abbrev pub block : ℕ → ℕ → Object
block group variation = object group variation content.Block

-- an analog output: the octets of its value, two's complement, before the status octet
abbrev pub setpoint : ℕ → ℕ → ℕ → Object
setpoint group variation w = object group variation (content.Setpoint w)

-- anything else of so many octets
abbrev pub other : ℕ → ℕ → ℕ → Object
other group variation n = object group variation (content.Other n)

-- ---- the objects

unfoldable pub objects : List Object
objects =
    row 1 2 Binary flagged 0 untimed
    ∷ row 2 1 Binary flagged 0 untimed
    ∷ row 2 2 Binary flagged 0 timed
    ∷ other 2 3 3
    ∷ written_row 10 2 Binary flagged 0 untimed
    ∷ block 12 1
    ∷ row 20 1 Counter flagged 4 untimed
    ∷ row 20 2 Counter flagged 2 untimed
    ∷ row 20 5 Counter bare 4 untimed
    ∷ row 20 6 Counter bare 2 untimed
    ∷ row 22 1 Counter flagged 4 untimed
    ∷ row 22 2 Counter flagged 2 untimed
    ∷ row 22 5 Counter flagged 4 timed
    ∷ row 22 6 Counter flagged 2 timed
    ∷ row 30 1 Analog flagged 4 untimed
    ∷ row 30 2 Analog flagged 2 untimed
    ∷ row 30 3 Analog bare 4 untimed
    ∷ row 30 4 Analog bare 2 untimed
    ∷ row 32 1 Analog flagged 4 untimed
    ∷ row 32 2 Analog flagged 2 untimed
    ∷ row 32 3 Analog flagged 4 timed
    ∷ row 32 4 Analog flagged 2 timed
    ∷ other 40 1 5
    ∷ other 40 2 3
    ∷ setpoint 41 1 4
    ∷ setpoint 41 2 2
    ∷ other 50 1 6
    ∷ other 51 1 6
    ∷ other 51 2 6
    ∷ other 52 2 2
    ∷ other 60 1 0
    ∷ other 60 2 0
    ∷ other 60 3 0
    ∷ other 60 4 0
    ∷ []

-- ---- looking one up

abbrev pub is_object : ℕ → ℕ → Object → Bool
is_object group variation line = (line.group == group) && (line.variation == variation)

-- what the object of this group and variation carries, if there is one
unfoldable pub content_of : ℕ → ℕ → Option Content
content_of group variation = option_map (λ line. line.content) (find (is_object group variation) objects)

-- the shape of the row, of what is read as a row
abbrev pub readable : Content → Option Shape
readable (content.Row s) = Some s
readable (content.WrittenRow s) = None
readable content.Block = None
readable (content.Setpoint w) = None
readable (content.Other n) = None

-- the shape of the row, of what is written for a row
abbrev pub writable : Content → Option Shape
writable (content.Row s) = Some s
writable (content.WrittenRow s) = Some s
writable content.Block = None
writable (content.Setpoint w) = None
writable (content.Other n) = None

-- the shape of the row that is read from this object, and of the one that is written as it
abbrev pub shape_read : ℕ → ℕ → Option Shape
shape_read group variation = option_and_then readable (content_of group variation)

abbrev pub shape_written : ℕ → ℕ → Option Shape
shape_written group variation = option_and_then writable (content_of group variation)

-- an object that carries no row, though it may be listed: packed bits, commands, and the groups from 40 on
abbrev pub HasNoRow : ℕ → ℕ → Type 0
HasNoRow group variation = ((group ≡ 1) × (variation ≡ 1)) ⊎ ((group ≡ 12) ⊎ (40 ≤ group))

-- ---- sizes

abbrev pub flags_size : Shape → ℕ
flags_size s = if s.flags then 1 else 0

abbrev pub time_size : Shape → ℕ
time_size s = if s.time then 6 else 0

abbrev pub shape_size : Shape → ℕ
shape_size s = flags_size s + s.width + time_size s

abbrev pub content_size : Content → ℕ
content_size (content.Row s) = shape_size s
content_size (content.WrittenRow s) = shape_size s
content_size content.Block = 11
content_size (content.Setpoint w) = w + 1
content_size (content.Other n) = n

-- how many octets one object has
abbrev pub object_size : ℕ → ℕ → Option ℕ
object_size group variation = option_map content_size (content_of group variation)

-- ---- what is so of every line

-- a binary has flags and no octets of value; the others' value has 2 or 4
abbrev pub IsNumber : Kind → Bool → ℕ → Type 0
IsNumber Binary f w = (w ≡ 0) × (f ≡ true)
IsNumber Counter f w = (w ≡ 2) ⊎ (w ≡ 4)
IsNumber Analog f w = (w ≡ 2) ⊎ (w ≡ 4)

pub record IsShape (s : Shape) : Type 0 where
  pub number : IsNumber s.kind s.flags s.width
  pub small : shape_size s ≤ 11

abbrev pub IsContent : Content → Type 0
IsContent (content.Row s) = IsShape s
IsContent (content.WrittenRow s) = IsShape s
IsContent content.Block = ⊤
IsContent (content.Setpoint w) = (w ≡ 2) ⊎ (w ≡ 4)
IsContent (content.Other n) = n ≤ 11
