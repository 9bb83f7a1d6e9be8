-- Definition: which files are captures that are read: of pcap's classic form, which begin with a header of 24 octets. Its first
-- four are the number A1B2C3D4, or A1B23C4D where times are in nanoseconds, in the order of all numbers of the file; its last four
-- say, in their lower 28 bits, how packets begin (RFC draft-ietf-opsawg-pcap). And of the newer form, pcapng, a sequence of blocks
-- (RFC draft-ietf-opsawg-pcapng).
use Rattle.std.specs.Prelude.{◌≡◌, ℕ, ◌+◌, ◌-◌, ◌*◌, ◌%◌, ◌^◌, Bool, true, false, nat_lt, nat_le, ◌==◌, ◌&&◌, ◌||◌, if◌then◌else◌, List, [], ◌∷◌, length, slice_index, codes, Option, Some, None}
use Rattle.dnp_captures.specs.declared.capture.CaptureFault.{CaptureFault}
use Rattle.dnp_captures.specs.declared.capture.CaptureFault.TheVariants as fault
use Rattle.dnp_captures.specs.declared.capture.TheConstants.{FILE_HEADER}

-- the file begins with these four octets
abbrev pub begins : List ℕ → ℕ → ℕ → ℕ → ℕ → Bool
begins file a b c d =
    nat_lt 3 (length file) && (slice_index file 0 == a) && (slice_index file 1 == b) && (slice_index file 2 == c) && (slice_index file 3 == d)

-- the low octet of each number comes first, or the high one
abbrev pub is_low_first : List ℕ → Bool
is_low_first file = begins file 0xD4 0xC3 0xB2 0xA1 || begins file 0x4D 0x3C 0xB2 0xA1

abbrev pub is_high_first : List ℕ → Bool
is_high_first file = begins file 0xA1 0xB2 0xC3 0xD4 || begins file 0xA1 0xB2 0x3C 0x4D

-- the file is of the newer form, pcapng
abbrev pub is_newer : List ℕ → Bool
is_newer file = begins file 0x0A 0x0D 0x0D 0x0A

-- a number of four octets at a place
abbrev pub number_at : Bool → List ℕ → ℕ → ℕ
number_at high_first octets place =
    let a = slice_index octets place in let b = slice_index octets (place + 1) in
    let c = slice_index octets (place + 2) in let d = slice_index octets (place + 3) in
    if high_first then a * 16777216 + b * 65536 + c * 256 + d else d * 16777216 + c * 65536 + b * 256 + a

-- one of two octets
abbrev pub short_at : Bool → List ℕ → ℕ → ℕ
short_at high_first octets place =
    let a = slice_index octets place in let b = slice_index octets (place + 1) in
    if high_first then a * 256 + b else b * 256 + a

-- how packets begin, by its number: loopback, Ethernet, raw IP and both forms of Linux's any are read
abbrev pub link_number : List ℕ → ℕ
link_number file = number_at (is_high_first file) file 20 % 268435456

abbrev pub is_read : ℕ → Bool
is_read number = (number == 0) || (number == 1) || (number == 101) || (number == 113) || (number == 276)

-- ---- blocks

-- the order of the numbers of a section: that of the number 1A2B3C4D after the type and the size of its first block
abbrev pub section_order : List ℕ → Option Bool
section_order octets =
    if number_at false octets 8 == 0x1A2B3C4D then Some false
    else if number_at false octets 8 == 0x4D3C2B1A then Some true
    else None

-- the size of the block at the front, after its type
abbrev pub block_size : Bool → List ℕ → ℕ
block_size high_first octets = number_at high_first octets 4

-- a whole block stands there: of 12 octets or more, four by four, of which the last four say the size again
abbrev pub is_block : Bool → List ℕ → Bool
is_block high_first octets =
    let size = block_size high_first octets in
    nat_le 12 size && (size % 4 == 0) && nat_le size (length octets) && (number_at high_first octets (size - 4) == size)

-- the fault of how packets begin, if they begin so
abbrev pub link_fault : ℕ → Option CaptureFault
link_fault number = if is_read number then None else Some (fault.Link number)

-- where the second block is an interface, its packets have to begin in a way that is read
abbrev pub interface_fault : Bool → List ℕ → Option CaptureFault
interface_fault high_first file =
    let second = block_size high_first file in
    if number_at high_first file second == 1 then link_fault (short_at high_first file (second + 8)) else None

abbrev pub order_fault : Option Bool → List ℕ → Option CaptureFault
order_fault None file = Some fault.Start
order_fault (Some high_first) file = interface_fault high_first file

-- why a file of the newer form isn't read, if it isn't
abbrev pub newer_refusal : List ℕ → Option CaptureFault
newer_refusal file = order_fault (section_order file) file

-- ---- any file

-- why the file isn't read, if it isn't
abbrev pub refusal : List ℕ → Option CaptureFault
refusal file =
    if is_newer file then newer_refusal file
    else if is_low_first file || is_high_first file then (
    if nat_lt (length file) FILE_HEADER then Some fault.Start
    else if is_read (link_number file) then None
    else Some (fault.Link (link_number file)))
    else Some fault.Start

-- what a refusal is called
abbrev pub fault_name : CaptureFault → List ℕ
fault_name fault.Start = codes "Start"
fault_name (fault.Link number) = codes "Link"
fault_name fault.Memory = codes "Memory"
