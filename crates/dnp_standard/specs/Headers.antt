-- Definition: the object header at the front of octets, with its objects (IEEE Std 1815-2012, application layer: object headers).
use Rattle.std.specs.Prelude.{◌≡◌, ℕ, zero, suc, ◌+◌, ◌-◌, ◌*◌, ◌/◌, Bool, true, false, nat_lt, nat_le, ◌==◌, ◌||◌, if◌then◌else◌, List, drop, length, slice_index, codes, Option, Some, None, Result, Ok, Err}
use Rattle.std.specs.Option.{option_map}
use Rattle.byteorder.specs.Endian.{little_number}
use Rattle.dnp_standard.specs.declared.fault.Fault.{Fault}
use Rattle.dnp_standard.specs.declared.fault.Fault.TheVariants as fault
use Rattle.dnp_standard.specs.declared.function.Carried.{Carried}
use Rattle.dnp_standard.specs.declared.function.Carried.TheVariants as carried
use Rattle.dnp_standard.specs.declared.header.Block.{Block}
use Rattle.dnp_standard.specs.declared.object.Object.{Object}
use Rattle.dnp_standard.specs.declared.object.Size.{Size}
use Rattle.dnp_standard.specs.declared.object.Size.TheVariants.{Bit, BitPair, Octets, Varying}
use Rattle.dnp_standard.specs.declared.qualifier.Form.{Form}
use Rattle.dnp_standard.specs.declared.qualifier.Form.TheVariants.{All, Span, Count}
use Rattle.dnp_standard.specs.declared.qualifier.Qualifier.{Qualifier}
use Rattle.dnp_standard.specs.declared.qualifier.Width.{Width}
use Rattle.dnp_standard.specs.declared.qualifier.Width.TheVariants.{Zero, One, Two, Four}
use Rattle.dnp_standard.specs.Objects.{object_of}
use Rattle.dnp_standard.specs.Qualifiers.{qualifier_of, width_of}

-- ---- the range

-- how many numbers the range has
abbrev pub numbers : Form → ℕ
numbers All = 0
numbers Span = 2
numbers Count = 1

-- the octets of the header: group, variation and qualifier, and the range
abbrev pub head_size : Qualifier → ℕ
head_size q = 3 + numbers q.form * width_of q.width

-- the first and the second number of the range
abbrev pub first_number : Qualifier → List ℕ → ℕ
first_number q octets = little_number (width_of q.width) (drop 3 octets)

abbrev pub second_number : Qualifier → List ℕ → ℕ
second_number q octets = little_number (width_of q.width) (drop (3 + width_of q.width) octets)

abbrev pub pair : ℕ → ℕ → ℕ × ℕ
pair a b = (a, b)

-- a span goes from its first to its last object
abbrev pub span_of : ℕ → ℕ → Option (ℕ × ℕ)
span_of a b = if nat_lt b a then None else Some (pair a (b + 1 - a))

-- the number of the first object and how many there are: all of them have no number
abbrev pub range_of : Form → ℕ → ℕ → Option (ℕ × ℕ)
range_of All a b = Some (pair 0 0)
range_of Count a b = Some (pair 0 a)
range_of Span a b = span_of a b

abbrev pub range_in : Qualifier → List ℕ → Option (ℕ × ℕ)
range_in q octets = range_of q.form (first_number q octets) (second_number q octets)

-- ---- the objects

-- objects of this group stand behind headers: of times alone a time (group 50), and of authentication (group 120) always
abbrev pub follow : Carried → ℕ → Bool
follow carried.Objects group = true
follow carried.Times group = (group == 50) || (group == 120)
follow carried.Headers group = group == 120

-- the octets of so many objects of a size, each after an index in so many octets: bits are packed, and have no index
abbrev pub fixed_octets : Size → Width → ℕ → Option ℕ
fixed_octets Bit Zero count = Some ((count + 7) / 8)
fixed_octets Bit One count = None
fixed_octets Bit Two count = None
fixed_octets Bit Four count = None
fixed_octets BitPair Zero count = Some ((count * 2 + 7) / 8)
fixed_octets BitPair One count = None
fixed_octets BitPair Two count = None
fixed_octets BitPair Four count = None
fixed_octets (Octets n) index count = Some (count * (width_of index + n))
fixed_octets Varying index count = None

-- the octets that so many objects have; behind a header that only names them their indexes stand alone
abbrev pub announced : Carried → Object → Width → ℕ → Option ℕ
announced c o index count =
    if count == 0 then Some 0
    else if follow c o.group then fixed_octets o.size index count
    else Some (count * width_of index)

-- an object at the front, after its size in so many octets: the octets of both, if they are there
abbrev pub sized_object : Width → List ℕ → Option ℕ
sized_object width octets =
    if nat_lt (length octets) (width_of width) then None
    else if nat_lt (length octets) (width_of width + little_number (width_of width) octets) then None
    else Some (width_of width + little_number (width_of width) octets)

-- the octets of a first object of so many, and of those after it
abbrev pub with_first : (ℕ → Option ℕ) → Option ℕ → Option ℕ
with_first rest None = None
with_first rest (Some n) = option_map (λ more. n + more) (rest n)

-- the octets of so many objects, each after its size
abbrev pub sized_octets : Width → ℕ → List ℕ → Option ℕ
sized_octets width zero octets = Some 0
sized_octets width (suc n) octets = with_first (λ first. sized_octets width n (drop first octets)) (sized_object width octets)

abbrev pub whole : Option ℕ → Result ℕ Fault
whole None = Err fault.ObjectsCut
whole (Some n) = Ok n

-- so many octets are there, if their number is fixed
abbrev pub there : Option ℕ → List ℕ → Result ℕ Fault
there None octets = Err fault.SizeUnknown
there (Some n) octets = if nat_le n (length octets) then Ok n else Err fault.ObjectsCut

-- the octets of so many objects at the front, where sizes are before them in so many octets
abbrev pub objects_with : Width → Carried → Object → Qualifier → ℕ → List ℕ → Result ℕ Fault
objects_with Zero c o q count octets = there (announced c o q.index count) octets
objects_with One c o q count octets = whole (sized_octets One count octets)
objects_with Two c o q count octets = whole (sized_octets Two count octets)
objects_with Four c o q count octets = whole (sized_octets Four count octets)

abbrev pub objects_in : Carried → Object → Qualifier → ℕ → List ℕ → Result ℕ Fault
objects_in c o q count octets = objects_with q.size c o q count octets

-- ---- the header with its objects

abbrev pub with_objects : Carried → Object → Qualifier → ℕ → ℕ → Result ℕ Fault → Result Block Fault
with_objects c o q first count (Err why) = Err why
with_objects c o q first count (Ok n) =
    Ok (record { object = o; qualifier = q; first = first; count = count; begin = head_size q; size = n; follows = follow c o.group })

abbrev pub with_range : Carried → Object → Qualifier → List ℕ → Option (ℕ × ℕ) → Result Block Fault
with_range c o q octets None = Err fault.RangeBackward
with_range c o q octets (Some x) = with_objects c o q x.0 x.1 (objects_in c o q x.1 (drop (head_size q) octets))

abbrev pub with_names : Carried → List ℕ → Option Object → Option Qualifier → Result Block Fault
with_names c octets None q = Err fault.ObjectUnknown
with_names c octets (Some o) None = Err fault.QualifierUnknown
with_names c octets (Some o) (Some q) =
    if nat_lt (length octets) (head_size q) then Err fault.HeaderCut else with_range c o q octets (range_in q octets)

abbrev pub block_at : Carried → List ℕ → Result Block Fault
block_at c octets =
    if nat_lt (length octets) 3 then Err fault.HeaderCut
    else with_names c octets (object_of (slice_index octets 0) (slice_index octets 1)) (qualifier_of (slice_index octets 2))

-- ---- faults

abbrev pub fault_name : Fault → List ℕ
fault_name fault.HeaderCut = codes "HeaderCut"
fault_name fault.ObjectUnknown = codes "ObjectUnknown"
fault_name fault.QualifierUnknown = codes "QualifierUnknown"
fault_name fault.RangeBackward = codes "RangeBackward"
fault_name fault.SizeUnknown = codes "SizeUnknown"
fault_name fault.ObjectsCut = codes "ObjectsCut"
