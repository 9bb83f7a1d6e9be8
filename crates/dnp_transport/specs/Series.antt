-- Definition: when the segments that were pushed make a fragment (IEEE Std 1815-2012, transport function).
-- A list of pushed strings of octets has the newest first.
use Rattle.std.specs.Prelude.{◌≡◌, ℕ, ◌+◌, ◌%◌, ◌<◌, ◌≤◌, Bool, true, false, not, ◌&&◌, ◌||◌, if◌then◌else◌, List, [], ◌∷◌, ◌++◌, length}
use Rattle.std.specs.Str.{bytes_eq}
use Rattle.dnp_transport.specs.Segments.{is_first, is_last, number, carried, has_no_size}
use Rattle.dnp_transport.specs.declared.limits.TheConstants.{MAX_FRAGMENT, SEGMENT_NUMBERS}

-- the string has no FIR, and equals the newest segment that was kept octet for octet
abbrev pub repeats : List (List ℕ) → List ℕ → Bool
repeats [] octets = false
repeats (last ∷ earlier) octets = not (is_first octets) && bytes_eq octets last

-- the string is no segment, or a repeat of the newest that was kept
abbrev pub is_left_out : List (List ℕ) → List ℕ → Bool
is_left_out segments octets = has_no_size octets || repeats segments octets

-- the pushed strings without those that are left out
abbrev pub kept : List (List ℕ) → List (List ℕ)
kept [] = []
kept (octets ∷ earlier) = if is_left_out (kept earlier) octets then kept earlier else octets ∷ kept earlier

-- `next` may follow `last` in a series: the last was not the fragment's last, and the next is not a first one and
-- has the next number, modulo SEGMENT_NUMBERS
pub record Follows (last next : List ℕ) : Type 0 where
  pub unended : is_last last ≡ false
  pub no_first : is_first next ≡ false
  pub in_turn : number next ≡ (number last + 1) % SEGMENT_NUMBERS

-- these segments, newest first, are a fragment's from its first on: FIR on the first and on no other, FIN on none
-- but perhaps the newest, and numbers that follow
abbrev pub IsSeries : List (List ℕ) → Type 0
IsSeries [] = ⊥
IsSeries (segment ∷ []) = is_first segment ≡ true
IsSeries (segment ∷ last ∷ earlier) = Follows last segment × IsSeries (last ∷ earlier)

-- the newest of some segments
abbrev pub newest : List (List ℕ) → List ℕ
newest [] = []
newest (segment ∷ earlier) = segment

-- the data of some segments, joined in order
abbrev pub joined : List (List ℕ) → List ℕ
joined [] = []
joined (segment ∷ earlier) = joined earlier ++ carried segment

-- the newest of the pushed strings, without those that are left out, are a series that waits for its last segment
-- and has not passed the longest fragment
pub record IsOpen (pushed series : List (List ℕ)) : Type 0 where
  pub recent : List (List ℕ)
  pub older : List (List ℕ)
  pub split : pushed ≡ recent ++ older
  pub kept_are : kept recent ≡ series
  pub in_series : IsSeries series
  pub unended : is_last (newest series) ≡ false
  pub fits : length (joined series) ≤ MAX_FRAGMENT

-- the last push completes this fragment: the newest of the pushed strings, without those that are left out, are a
-- series with the last push at its end, FIN on it, and the fragment's octets as its data, at most MAX_FRAGMENT
pub record IsWhole (pushed : List (List ℕ)) (fragment : List ℕ) : Type 0 where
  pub segment : List ℕ
  pub recent : List (List ℕ)
  pub older : List (List ℕ)
  pub split : pushed ≡ (segment ∷ recent) ++ older
  pub stays : is_left_out (kept recent) segment ≡ false
  pub in_series : IsSeries (segment ∷ kept recent)
  pub ended : is_last segment ≡ true
  pub joined_is : joined (segment ∷ kept recent) ≡ fragment
  pub fits : length fragment ≤ MAX_FRAGMENT

-- the last push ends a series without a fragment: the series was open before it, the push is neither left out nor a
-- first segment, and it has not the next number, or its data would make the series pass the longest fragment
pub record IsDropped (pushed : List (List ℕ)) : Type 0 where
  pub segment : List ℕ
  pub before : List (List ℕ)
  pub split : pushed ≡ segment ∷ before
  pub series : List (List ℕ)
  pub opened : IsOpen before series
  pub stays : is_left_out series segment ≡ false
  pub no_first : is_first segment ≡ false
  pub unfit : number segment ≡ (number (newest series) + 1) % SEGMENT_NUMBERS → MAX_FRAGMENT < length (joined (segment ∷ series))

-- the last push neither completes a fragment nor ends a series
pub record IsNothing (pushed : List (List ℕ)) : Type 0 where
  pub no_whole : (fragment : List ℕ) → IsWhole pushed fragment → ⊥
  pub no_drop : IsDropped pushed → ⊥
