-- Definition: the objects of one header, counted from 0: where each stands in the header's octets, with its
-- index, and the row or the command that it is (IEEE Std 1815-2012, application layer: prefix and range).
use Rattle.std.specs.Prelude.{◌≡◌, ℕ, ◌+◌, ◌*◌, ◌/◌, ◌%◌, ◌<◌, pos, Bool, true, ◌⊎◌, List, [], ◌++◌, length, slice_index, Some, None, IsSome, ⊤}
use Rattle.std.specs.Int.{bit_at}
use Rattle.dnp_objects.specs.Objects.{object_size, shape_read}
use Rattle.dnp_objects.specs.Rows.{Reads}
use Rattle.dnp_objects.specs.Relative.{IsRelative}
use Rattle.dnp_objects.specs.Commands.{ReadsCommand, command_size}
use Rattle.dnp_objects.specs.declared.row.Kind.TheVariants.{Binary}
use Rattle.dnp_objects.specs.declared.row.Row.{Row}
use Rattle.dnp_objects.specs.declared.command.Command.{Command}
use Rattle.dnp_appfragment.specs.declared.header.Range.{Range}
use Rattle.dnp_appfragment.specs.declared.header.Range.TheVariants as range
use Rattle.dnp_appfragment.specs.declared.table.Form.{Form}
use Rattle.dnp_appfragment.specs.declared.table.Form.TheVariants as form
use Rattle.dnp_appfragment.specs.Headers.{Head, IsHeader, number, limit, count_of, prefix_size, is_relative, IsTimed}

-- the range is a span
abbrev pub IsSpan : Range → Type 0
IsSpan range.All = ⊥
IsSpan (range.Span wide first last) = ⊤
IsSpan (range.Count wide n) = ⊥
IsSpan (range.Indexed wide n) = ⊥

-- the index of object k: counted in a span, and after a count the one that stands before the object; a
-- limit, and "all", give none
abbrev pub IsIndex : Range → ℕ → ℕ → Type 0
IsIndex range.All k index = ⊥
IsIndex (range.Span wide first last) k index = index ≡ first + k
IsIndex (range.Count wide n) k index = ⊥
IsIndex (range.Indexed wide n) k index = index < limit wide

-- the octets of index before an object
abbrev pub prefix_octets : Range → ℕ → List ℕ
prefix_octets range.All index = []
prefix_octets (range.Span wide first last) index = []
prefix_octets (range.Count wide n) index = []
prefix_octets (range.Indexed wide n) index = number wide index

-- object k of the header, of so many octets, has this index and these octets
pub record IsObject (h : Head) (size k index : ℕ) (octets : List ℕ) : Type 0 where
  pub counted : k < count_of h.range
  pub index_is : IsIndex h.range k index
  pub before : List ℕ
  pub after : List ℕ
  pub placed : length before ≡ k * (prefix_size h.range + size)
  pub sized : length octets ≡ size
  pub joined : h.octets ≡ before ++ (prefix_octets h.range index ++ (octets ++ after))

-- object k of a header of packed bits of binary inputs, 1.1, is this binary: its value is the next bit,
-- from bit 0 of the first octet on, and it has the flags 01
pub record IsBit (h : Head) (k : ℕ) (row : Row) : Type 0 where
  pub group : h.group ≡ 1
  pub variation : h.variation ≡ 1
  pub counted : k < count_of h.range
  pub span : IsSpan h.range
  pub index : ℕ
  pub index_is : IsIndex h.range k index
  pub there : k / 8 < length h.octets
  pub row_is : row ≡ record { kind = Binary; index = index; flags = 1; value = pos (bit_at (slice_index h.octets (k / 8)) (k % 8)); time = None }

-- object k, of an object of a known size, is read as this row
pub record IsObjectRow (h : Head) (k : ℕ) (row : Row) : Type 0 where
  pub size : ℕ
  pub size_is : object_size h.group h.variation ≡ Some size
  pub index : ℕ
  pub octets : List ℕ
  pub object : IsObject h size k index octets
  pub reads : Reads h.group h.variation index octets row

-- row k of a header whose objects have times of their own or none
abbrev pub IsWholeRow : Head → ℕ → Row → Type 0
IsWholeRow h k row = IsBit h k row ⊎ IsObjectRow h k row

-- object k, whose time is given after the header's common time, with which each of its objects has one
pub record IsRelativeRow (h : Head) (k : ℕ) (row : Row) : Type 0 where
  pub relative : is_relative h.group h.variation ≡ true
  pub timed : IsTimed h
  pub index : ℕ
  pub octets : List ℕ
  pub object : IsObject h 3 k index octets
  pub reads : IsRelative index octets timed.common row

-- row k of a header
abbrev pub IsRow : Head → ℕ → Row → Type 0
IsRow h k row = IsWholeRow h k row ⊎ IsRelativeRow h k row

-- command k of a header, with its status
pub record IsCommand (h : Head) (k : ℕ) (answer : Command × ℕ) : Type 0 where
  pub size : ℕ
  pub size_is : object_size h.group h.variation ≡ Some size
  pub index : ℕ
  pub octets : List ℕ
  pub object : IsObject h size k index octets
  pub reads : ReadsCommand h.group h.variation index octets answer

-- ---- headers whose objects are all there

-- a response's header of rows that are read with times of their own or none, or of packed bits
pub record HasWholeRows (h : Head) : Type 0 where
  pub header : IsHeader form.Response h
  pub rows : IsSome (shape_read h.group h.variation) ⊎ ((h.group ≡ 1) × (h.variation ≡ 1))

-- a response's header of rows whose times are given after its common time
pub record HasRelativeRows (h : Head) : Type 0 where
  pub header : IsHeader form.Response h
  pub relative : is_relative h.group h.variation ≡ true
  pub timed : IsTimed h

-- a response's header of rows that are read
abbrev pub HasRows : Head → Type 0
HasRows h = HasWholeRows h ⊎ HasRelativeRows h

-- any fragment's header of commands
pub record HasCommands (h : Head) : Type 0 where
  pub under : Form
  pub header : IsHeader under h
  pub commands : IsSome (command_size h.group h.variation)
