-- Definition: one object of those behind a header (IEEE Std 1815-2012, application layer: object headers).
use Rattle.std.specs.Prelude.{◌≡◌, ℕ, ◌+◌, ◌*◌, ◌/◌, ◌%◌, ◌^◌, Bool, true, false, nat_lt, if◌then◌else◌, List, drop, length, slice_index, Option, Some, None}
use Rattle.std.specs.Option.{option_map}
use Rattle.byteorder.specs.Endian.{little_number}
use Rattle.dnp_standard.specs.declared.header.Block.{Block}
use Rattle.dnp_standard.specs.declared.object.Size.{Size}
use Rattle.dnp_standard.specs.declared.object.Size.TheVariants.{Bit, BitPair, Octets, Varying}
use Rattle.dnp_standard.specs.declared.part.Part.{Part}
use Rattle.dnp_standard.specs.declared.qualifier.Width.{Width}
use Rattle.dnp_standard.specs.declared.qualifier.Width.TheVariants.{Zero, One, Two, Four}
use Rattle.dnp_standard.specs.Headers.{sized_object}
use Rattle.dnp_standard.specs.Qualifiers.{width_of}

-- ---- packed objects

-- object k of packed ones of n bits: its bits in the octet that has them, the first object in the lowest
abbrev pub bits_of : ℕ → List ℕ → ℕ → Option ℕ
bits_of n objects k =
    if nat_lt (k * n / 8) (length objects) then Some (slice_index objects (k * n / 8) / 2 ^ (k * n % 8) % 2 ^ n) else None

abbrev pub packed : Size → Bool → List ℕ → ℕ → Option ℕ
packed Bit true objects k = bits_of 1 objects k
packed Bit false objects k = None
packed BitPair true objects k = bits_of 2 objects k
packed BitPair false objects k = None
packed (Octets n) follows objects k = None
packed Varying follows objects k = None

-- ---- any others

abbrev pub part : ℕ → ℕ → ℕ → Part
part index begin end = record { index = index; begin = begin; end = end }

-- an object of so many octets after an index, at a place where these octets are
abbrev pub fixed_part : Width → ℕ → ℕ → List ℕ → Option Part
fixed_part width n place rest =
    if nat_lt (length rest) (width_of width + n) then None
    else Some (part (little_number (width_of width) rest) (place + width_of width) (place + (width_of width + n)))

-- one after its size
abbrev pub sized_part : Width → ℕ → List ℕ → Option Part
sized_part width place rest = option_map (λ n. part 0 (place + width_of width) (place + n)) (sized_object width rest)

-- behind a header that only names objects there are their indexes
abbrev pub part_with : Width → Size → Bool → Width → ℕ → List ℕ → Option Part
part_with Zero (Octets n) true index place rest = fixed_part index n place rest
part_with Zero Bit true index place rest = None
part_with Zero BitPair true index place rest = None
part_with Zero Varying true index place rest = None
part_with Zero size false index place rest = fixed_part index 0 place rest
part_with One size follows index place rest = sized_part One place rest
part_with Two size follows index place rest = sized_part Two place rest
part_with Four size follows index place rest = sized_part Four place rest

-- the object at a place of the octets behind a header, unless it is packed
abbrev pub part_at : Block → List ℕ → ℕ → Option Part
part_at b objects place =
    if nat_lt (length objects) place then None
    else part_with b.qualifier.size b.object.size b.follows b.qualifier.index place (drop place objects)
