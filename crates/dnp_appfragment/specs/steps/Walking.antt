-- Private steps: the rows that are left while a header's are gone through: each is cut off the front of the
-- octets. What they are altogether is said by `row_in` of Meaning.antt.
use Rattle.std.specs.Prelude.{ℕ, zero, suc, ◌+◌, ◌^◌, ◌<◌, ◌≤◌, nat_lt, ◌==◌, ◌&&◌, if◌then◌else◌, List, [], ◌∷◌, length, take, drop, Option, Some, None, ⊤}
use Rattle.std.specs.Option.{option_map_or}
use Rattle.std.specs.Borrow.{Bor}
use Rattle.dnp_objects.specs.Objects.{shape_read, shape_size, IsShape}
use Rattle.dnp_objects.specs.Parts.{row_of}
use Rattle.dnp_objects.specs.Relative.{relative_row}
use Rattle.dnp_objects.specs.declared.row.Row.{Row}
use Rattle.dnp_objects.specs.declared.table.Shape.{Shape}
use Rattle.dnp_appfragment.specs.declared.header.Range.{Range}
use Rattle.dnp_appfragment.specs.declared.row_walk.RowForm.{RowForm}
use Rattle.dnp_appfragment.specs.declared.row_walk.RowForm.TheVariants as carried
use Rattle.dnp_appfragment.specs.Headers.{Head, head_of, count_of, is_relative}
use Rattle.dnp_appfragment.specs.Reading.{index_at}
use Rattle.dnp_appfragment.specs.Meaning.{bit_in, common_in}

-- what a header of this object carries, whose times stand whole
abbrev pub carried_by : ℕ → ℕ → RowForm
carried_by group variation =
    if (group == 1) && (variation == 1) then carried.Bits
    else option_map_or (λ shape. carried.Rows shape) (shape_read group variation) carried.Nothing

-- and one whose times are given after its common time
abbrev pub relative_by : Head → RowForm
relative_by h = option_map_or (λ common. carried.Relative common) (common_in h) carried.Nothing

abbrev pub carried_in : Head → RowForm
carried_in h = if is_relative h.group h.variation then relative_by h else carried_by h.group h.variation

-- an object at the front: its index, its octets, and those after it
pub record Cut : Type 0 where
  pub index : ℕ
  pub octets : List ℕ
  pub rest : List ℕ

abbrev pub cut_octets : ℕ → Option (ℕ × List ℕ) → Option Cut
cut_octets size None = None
cut_octets size (Some x) =
    if nat_lt (length x.1) size then None else Some (record { index = x.0; octets = take size x.1; rest = drop size x.1 })

-- object k, of so many octets, which stands at the front
abbrev pub cut_at : Range → ℕ → ℕ → List ℕ → Option Cut
cut_at range size k octets = cut_octets size (index_at range k octets)

abbrev pub cut_of : ℕ × Bor (List ℕ) × Bor (List ℕ) → Cut
cut_of x = record { index = x.0; octets = x.1.now; rest = x.2.now }

-- at most so many rows from row k on, each of so many octets, whose object stands at the front
unfoldable pub cut_left : (ℕ → List ℕ → Row) → ℕ → Range → ℕ → ℕ → List ℕ → List Row
cut_left row size range zero k octets = []
cut_left row size range (suc n) k octets =
    option_map_or (λ cut. row cut.index cut.octets ∷ cut_left row size range n (k + 1) cut.rest) (cut_at range size k octets) []

abbrev pub shaped_left : Shape → Range → ℕ → ℕ → List ℕ → List Row
shaped_left shape range n k octets = cut_left (row_of shape) (shape_size shape) range n k octets

-- those whose times are given after a common one
abbrev pub row_after : ℕ → ℕ → List ℕ → Row
row_after common index octets = relative_row index octets common

abbrev pub relative_left : ℕ → Range → ℕ → ℕ → List ℕ → List Row
relative_left common range n k octets = cut_left (row_after common) 3 range n k octets

-- at most so many packed bits from bit k on
unfoldable pub bits_left : Range → List ℕ → ℕ → ℕ → List Row
bits_left range octets zero k = []
bits_left range octets (suc n) k = option_map_or (λ row. row ∷ bits_left range octets n (k + 1)) (bit_in (head_of 1 1 range octets) k) []

abbrev pub rows_left : RowForm → Range → List ℕ → ℕ → ℕ → List Row
rows_left carried.Bits range octets k left = bits_left range octets left k
rows_left (carried.Rows shape) range octets k left = shaped_left shape range left k octets
rows_left (carried.Relative common) range octets k left = relative_left common range left k octets
rows_left carried.Nothing range octets k left = []

-- what is so of each walk
abbrev pub IsRowForm : RowForm → Type 0
IsRowForm carried.Bits = ⊤
IsRowForm (carried.Rows shape) = IsShape shape
IsRowForm (carried.Relative common) = common < 2 ^ 62
IsRowForm carried.Nothing = ⊤

pub record IsWalk (carried : RowForm) (range : Range) (k left : ℕ) : Type 0 where
  pub sound : IsRowForm carried
  pub within : k + left ≤ count_of range
