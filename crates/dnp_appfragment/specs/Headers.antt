-- Definition: object headers with their objects, and their one spelling in octets (IEEE Std 1815-2012,
-- application layer: object headers). A fragment's headers divide its octets.
use Rattle.std.specs.Prelude.{◌≡◌, ℕ, ◌+◌, ◌-◌, ◌*◌, ◌/◌, ◌%◌, ◌^◌, ◌<◌, ◌≤◌, ◌==◌, Bool, true, false, ◌&&◌, ◌||◌, nat_le, if◌then◌else◌, List, drop, [], ◌∷◌, ◌++◌, length, Option, Some, None, ⊤, fold}
use Rattle.std.specs.List.{flat_map}
use Rattle.byteorder.specs.Endian.{little_number}
use Rattle.dnp_objects.specs.Objects.{object_size}
use Rattle.dnp_objects.specs.declared.limits.TheConstants.{MAX_TIME}
use Rattle.dnp_appfragment.specs.declared.header.Range.{Range}
use Rattle.dnp_appfragment.specs.declared.header.Range.TheVariants as range
use Rattle.dnp_appfragment.specs.declared.qualifier.TheConstants as qualifier
use Rattle.dnp_appfragment.specs.declared.table.Form.{Form}
use Rattle.dnp_appfragment.specs.declared.table.Form.TheVariants as form
use Rattle.dnp_appfragment.specs.Table.{IsInTable}

-- an object header with the octets of its objects, wherever they lie
pub record Head : Type 0 where
  pub group : ℕ
  pub variation : ℕ
  pub range : Range
  pub octets : List ℕ
  -- the common time after which its objects' times are given, if they are given after one
  pub common : Option ℕ

-- a header of an object, a range and the octets of its objects, after a common time if there is one
abbrev pub head_after : Option ℕ → ℕ → ℕ → Range → List ℕ → Head
head_after common g v r octets = record { group = g; variation = v; range = r; octets = octets; common = common }

-- one of times that stand whole, or of no times
abbrev pub head_of : ℕ → ℕ → Range → List ℕ → Head
head_of g v r octets = head_after None g v r octets

-- ---- the range

abbrev pub qualifier_of : Range → ℕ
qualifier_of range.All = qualifier.ALL
qualifier_of (range.Span wide first last) = if wide then qualifier.WIDE_SPAN else qualifier.SPAN
qualifier_of (range.Count wide n) = if wide then qualifier.WIDE_COUNT else qualifier.COUNT
qualifier_of (range.Indexed wide n) = if wide then qualifier.WIDE_INDEXED else qualifier.INDEXED

-- a number in one octet, or, wide, in two: the low one first
abbrev pub number : Bool → ℕ → List ℕ
number false n = n ∷ []
number true n = n % 256 ∷ n / 256 ∷ []

abbrev pub range_octets : Range → List ℕ
range_octets range.All = []
range_octets (range.Span wide first last) = number wide first ++ number wide last
range_octets (range.Count wide n) = number wide n
range_octets (range.Indexed wide n) = number wide n

-- what a number stays below
abbrev pub limit : Bool → ℕ
limit false = 2 ^ 8
limit true = 2 ^ 16

-- the numbers fit their octets
abbrev pub NumbersFit : Range → Type 0
NumbersFit range.All = ⊤
NumbersFit (range.Span wide first last) = (first < limit wide) × (last < limit wide)
NumbersFit (range.Count wide n) = n < limit wide
NumbersFit (range.Indexed wide n) = n < limit wide

-- the stop is not under the start
abbrev pub IsForward : Range → Type 0
IsForward range.All = ⊤
IsForward (range.Span wide first last) = first ≤ last
IsForward (range.Count wide n) = ⊤
IsForward (range.Indexed wide n) = ⊤

-- ---- the objects

-- how many objects the range names; "all" names none
abbrev pub count_of : Range → ℕ
count_of range.All = 0
count_of (range.Span wide first last) = last + 1 - first
count_of (range.Count wide n) = n
count_of (range.Indexed wide n) = n

-- how many octets of index stand before each object
abbrev pub prefix_size : Range → ℕ
prefix_size range.All = 0
prefix_size (range.Span wide first last) = 0
prefix_size (range.Count wide n) = 0
prefix_size (range.Indexed wide n) = if wide then 2 else 1

-- how many octets so many objects have, each of this size after such a prefix; without a size they are
-- packed bits, eight to an octet
abbrev pub octets_of : ℕ → ℕ → Option ℕ → ℕ
octets_of count prefix (Some size) = count * (prefix + size)
octets_of count prefix None = (count + 7) / 8

-- how many octets of objects follow a header: in a READ none
abbrev pub objects_size : Form → ℕ → ℕ → Range → ℕ
objects_size form.Read group variation r = 0
objects_size _ group variation r = octets_of (count_of r) (prefix_size r) (object_size group variation)

-- ---- a header

-- group, variation, qualifier, range, objects
abbrev pub header_octets : Head → List ℕ
header_octets h = h.group ∷ h.variation ∷ qualifier_of h.range ∷ (range_octets h.range ++ h.octets)

-- the object stands in the table with its qualifier, the range is one, and as many octets of objects
-- follow as it says
pub record IsHeader (f : Form) (h : Head) : Type 0 where
  pub object : IsInTable f h.group h.variation (qualifier_of h.range)
  pub fits : NumbersFit h.range
  pub forward : IsForward h.range
  pub objects : length h.octets ≡ objects_size f h.group h.variation h.range

-- ---- headers, one after the other

-- what the headers before one say for it: the common time, after which the times of rows are given, if there is one
abbrev pub Context : Type 0
Context = Option ℕ

-- before the first header
abbrev pub begin : Context
begin = None

-- a header of common times: 51.1, and 51.2 of a clock that isn't synchronized
abbrev pub is_common : Head → Bool
is_common h = (h.group == 51) && ((h.variation == 1) || (h.variation == 2))

-- the last of them
abbrev pub last_time : Head → ℕ
last_time h = little_number 6 (drop (6 * (count_of h.range - 1)) h.octets)

-- after one more: an empty header of common times leaves the common time as it was, and so do all others
abbrev pub context_after : Context → Head → Context
context_after context h = if is_common h && nat_le 1 (count_of h.range) then Some (last_time h) else context

-- after all of these
abbrev pub context_past : Context → List Head → Context
context_past context hs = fold context_after context hs

-- objects of this one give their times after a common time, 2.3
abbrev pub is_relative : ℕ → ℕ → Bool
is_relative group variation = (group == 2) && (variation == 3)

-- the common time of a header of this object
abbrev pub common_of : Context → ℕ → ℕ → Option ℕ
common_of context group variation = if is_relative group variation then context else None

-- how many milliseconds after the common time object k's time is
abbrev pub time_after : Head → ℕ → ℕ
time_after h k = little_number 2 (drop (k * (prefix_size h.range + 3) + (prefix_size h.range + 1)) h.octets)

-- there is a common time, and each object's time is under 2^48 ms
pub record IsTimed (h : Head) : Type 0 where
  pub common : ℕ
  pub there : h.common ≡ Some common
  pub sums : (k : ℕ) → k < count_of h.range → common + time_after h k < MAX_TIME

-- it is a header, and its common time is that of its place, from which its objects' times follow
pub record IsHeaderAt (f : Form) (context : Context) (h : Head) : Type 0 where
  pub header : IsHeader f h
  pub common : h.common ≡ common_of context h.group h.variation
  pub timed : is_relative h.group h.variation ≡ true → IsTimed h

-- each is a header where it stands
abbrev pub AreHeaders : Form → Context → List Head → Type 0
AreHeaders f context [] = ⊤
AreHeaders f context (h ∷ hs) = IsHeaderAt f context h × AreHeaders f (context_after context h) hs

-- their octets in order
abbrev pub spelled : List Head → List ℕ
spelled hs = flat_map header_octets hs

-- the headers divide the octets, where they stand
pub record DivideFrom (f : Form) (context : Context) (octets : List ℕ) (hs : List Head) : Type 0 where
  pub each : AreHeaders f context hs
  pub whole : octets ≡ spelled hs

-- and as the first of a fragment
abbrev pub Divide : Form → List ℕ → List Head → Type 0
Divide f octets hs = DivideFrom f begin octets hs
