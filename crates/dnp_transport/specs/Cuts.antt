-- Definition: how a fragment is cut into segments (IEEE Std 1815-2012, transport function).
use Rattle.std.specs.Prelude.{ℕ, zero, suc, ◌+◌, ◌-◌, ◌*◌, ◌/◌, ◌%◌, ◌==◌, if◌then◌else◌, List, [], ◌∷◌, length, take, drop, map}
use Rattle.std.specs.List.{range_with_len}
use Rattle.dnp_transport.specs.declared.limits.TheConstants.{SEGMENT_DATA, SEGMENT_NUMBERS}
use Rattle.dnp_transport.specs.declared.header.TheConstants.{FINAL, FIRST}

-- how many segments carry a fragment of n octets: each carries SEGMENT_DATA, and the last one what is left, at least one
abbrev pub cut_count : ℕ → ℕ
cut_count n = (n + (SEGMENT_DATA - 1)) / SEGMENT_DATA

-- the header of the segment k of `count`: FIR on the first alone, FIN on the last alone, and numbers that follow
-- modulo SEGMENT_NUMBERS from `first` on
abbrev pub cut_header : ℕ → ℕ → ℕ → ℕ
cut_header count first k = (if k == 0 then FIRST else 0) + (if k + 1 == count then FINAL else 0) + (first + k) % SEGMENT_NUMBERS

-- the segment k of a fragment, counted from 0
abbrev pub cut : List ℕ → ℕ → ℕ → List ℕ
cut fragment first k = cut_header (cut_count (length fragment)) first k ∷ take SEGMENT_DATA (drop (SEGMENT_DATA * k) fragment)

-- the segments of a fragment, in the order in which they are sent
abbrev pub cuts : List ℕ → ℕ → List (List ℕ)
cuts fragment first = map (cut fragment first) (range_with_len 0 (cut_count (length fragment)))

-- the first k segments of a fragment, newest first
abbrev pub begun_cuts : List ℕ → ℕ → ℕ → List (List ℕ)
begun_cuts fragment first zero = []
begun_cuts fragment first (suc k) = cut fragment first k ∷ begun_cuts fragment first k
