-- Definition: a transport segment (IEEE Std 1815-2012, transport function): one header octet, and 1 to SEGMENT_DATA octets of data.
-- The header is the bit FIN (0x80), the bit FIR (0x40) and a number of six bits.
use Rattle.std.specs.Prelude.{ℕ, ◌%◌, Bool, ◌==◌, ◌||◌, nat_lt, List, length, drop, slice_index}
use Rattle.std.specs.Int.{bit_at}
use Rattle.dnp_transport.specs.declared.limits.TheConstants.{MAX_SEGMENT, SEGMENT_NUMBERS}

-- FIR is set: the segment is the first of its fragment
abbrev pub is_first : List ℕ → Bool
is_first segment = bit_at (slice_index segment 0) 6 == 1

-- FIN is set: the segment is the last of its fragment
abbrev pub is_last : List ℕ → Bool
is_last segment = bit_at (slice_index segment 0) 7 == 1

-- the segment's number, 0 to 63
abbrev pub number : List ℕ → ℕ
number segment = slice_index segment 0 % SEGMENT_NUMBERS

-- the octets of the fragment that the segment carries
abbrev pub carried : List ℕ → List ℕ
carried segment = drop 1 segment

-- these octets are no segment: there is no data after the header, or more of it than a segment has room for
abbrev pub has_no_size : List ℕ → Bool
has_no_size octets = nat_lt (length octets) 2 || nat_lt MAX_SEGMENT (length octets)
