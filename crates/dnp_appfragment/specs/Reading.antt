-- Definition: the steps in which headers, and the objects of one, are cut off the front of octets: the next
-- one, and the octets after it, or why there is none. Meaning.antt is made of them; what they have to answer
-- is said in Headers.antt, Faults.antt and Objects.antt.
use Rattle.std.specs.Prelude.{ℕ, zero, suc, ◌+◌, ◌*◌, Bool, true, false, nat_lt, ◌==◌, if◌then◌else◌, List, [], ◌∷◌, length, take, drop, Option, Some, None, Result, Ok, Err}
use Rattle.std.specs.List.{list_all, range_with_len}
use Rattle.std.specs.Option.{option_map_or}
use Rattle.std.specs.Result.{result_ok}
use Rattle.dnp_objects.specs.declared.limits.TheConstants.{MAX_TIME}
use Rattle.dnp_appfragment.specs.declared.fault.AppFault.{AppFault}
use Rattle.dnp_appfragment.specs.declared.fault.AppFault.TheVariants.{HeaderCut, QualifierUnknown, ObjectUnknown, RangeBackward, ObjectsCut, CommonTime}
use Rattle.dnp_appfragment.specs.declared.header.Range.{Range}
use Rattle.dnp_appfragment.specs.declared.header.Range.TheVariants as range
use Rattle.dnp_appfragment.specs.declared.qualifier.TheConstants as qualifier
use Rattle.dnp_appfragment.specs.declared.table.Form.{Form}
use Rattle.dnp_appfragment.specs.Table.{takes_of, allows}
use Rattle.dnp_appfragment.specs.Headers.{Head, head_after, objects_size, count_of, prefix_size, Context, begin, context_after, is_relative, common_of, time_after}

-- the next step, if there was no fault
infixl 10 ◌>>=◌
abbrev pub ◌>>=◌ : {A B : Type 0} → Result A AppFault → (A → Result B AppFault) → Result B AppFault
(Ok x) >>= f = f x
(Err e) >>= f = Err e

-- ---- a header

abbrev pub number_at : Bool → List ℕ → Result (ℕ × List ℕ) AppFault
number_at false [] = Err HeaderCut
number_at false (a ∷ rest) = Ok (a, rest)
number_at true [] = Err HeaderCut
number_at true (a ∷ []) = Err HeaderCut
number_at true (a ∷ b ∷ rest) = Ok (a + 256 * b, rest)

unfoldable pub span_at : Bool → List ℕ → Result (Range × List ℕ) AppFault
span_at wide octets = do
  first ← number_at wide octets
  last ← number_at wide first.1
  if nat_lt last.0 first.0 then Err RangeBackward else Ok (range.Span wide first.0 last.0, last.1)

abbrev pub count_at : Bool → List ℕ → Result (Range × List ℕ) AppFault
count_at wide octets = do
  n ← number_at wide octets
  Ok (range.Count wide n.0, n.1)

abbrev pub indexed_at : Bool → List ℕ → Result (Range × List ℕ) AppFault
indexed_at wide octets = do
  n ← number_at wide octets
  Ok (range.Indexed wide n.0, n.1)

unfoldable pub range_at : ℕ → List ℕ → Result (Range × List ℕ) AppFault
range_at q octets =
    if q == qualifier.SPAN then span_at false octets else
    (if q == qualifier.WIDE_SPAN then span_at true octets else
    (if q == qualifier.ALL then Ok (range.All, octets) else
    (if q == qualifier.COUNT then count_at false octets else
    (if q == qualifier.WIDE_COUNT then count_at true octets else
    (if q == qualifier.INDEXED then indexed_at false octets else
    (if q == qualifier.WIDE_INDEXED then indexed_at true octets else Err QualifierUnknown))))))

abbrev pub taken : Option (List ℕ) → ℕ → Result (List ℕ) AppFault
taken None q = Err ObjectUnknown
taken (Some t) q = if allows t q then Ok t else Err QualifierUnknown

-- where its objects' times are given after a common one, there is one, and each sum is under 2^48 ms
abbrev pub are_under : Head → ℕ → Bool
are_under h common = list_all (λ k. nat_lt (common + time_after h k) MAX_TIME) (range_with_len 0 (count_of h.range))

abbrev pub is_timed : Head → Bool
is_timed h = if is_relative h.group h.variation then option_map_or (are_under h) h.common false else true

abbrev pub timed_at : Head → List ℕ → Result (Head × List ℕ) AppFault
timed_at h rest = if is_timed h then Ok (h, rest) else Err CommonTime

abbrev pub objects_at : Form → Context → ℕ → ℕ → Range → List ℕ → Result (Head × List ℕ) AppFault
objects_at f context g v r octets =
    if nat_lt (length octets) (objects_size f g v r) then Err ObjectsCut
    else timed_at (head_after (common_of context g v) g v r (take (objects_size f g v r) octets)) (drop (objects_size f g v r) octets)

-- the header at the front, with its objects, and the octets after them
unfoldable pub header_at : Form → Context → List ℕ → Result (Head × List ℕ) AppFault
header_at f context [] = Err HeaderCut
header_at f context (g ∷ []) = Err HeaderCut
header_at f context (g ∷ v ∷ []) = Err HeaderCut
header_at f context (g ∷ v ∷ q ∷ octets) = do
  t ← taken (takes_of f g v) q
  r ← range_at q octets
  objects_at f context g v r.0 r.1

-- at most so many headers, which are all of the octets
unfoldable pub headers_in : ℕ → Form → Context → List ℕ → Result (List Head) AppFault
headers_in n f context [] = Ok []
headers_in zero f context (b ∷ octets) = Err HeaderCut
headers_in (suc n) f context (b ∷ octets) = do
  h ← header_at f context (b ∷ octets)
  hs ← headers_in n f (context_after context h.0) h.1
  Ok (h.0 ∷ hs)

-- the headers that divide the octets, where they stand
abbrev pub headers_from : Form → Context → List ℕ → Result (List Head) AppFault
headers_from f context octets = headers_in (length octets) f context octets

-- and as the first of a fragment
unfoldable pub headers_at : Form → List ℕ → Result (List Head) AppFault
headers_at f octets = headers_from f begin octets

-- ---- an object of a header

-- the index of object k, and the octets after it
abbrev pub index_at : Range → ℕ → List ℕ → Option (ℕ × List ℕ)
index_at range.All k octets = None
index_at (range.Span wide first last) k octets = Some (first + k, octets)
index_at (range.Count wide n) k octets = None
index_at (range.Indexed wide n) k octets = result_ok (number_at wide octets)

-- the index, and so many of the octets after it
abbrev pub first_octets : ℕ → Option (ℕ × List ℕ) → Option (ℕ × List ℕ)
first_octets size None = None
first_octets size (Some x) = if nat_lt (length x.1) size then None else Some (x.0, take size x.1)

-- object k of objects of this size: its index and its octets
abbrev pub object_at : Range → List ℕ → ℕ → ℕ → Option (ℕ × List ℕ)
object_at r octets size k =
    if nat_lt k (count_of r) then (
    if nat_lt (length octets) (k * (prefix_size r + size)) then None
    else first_octets size (index_at r k (drop (k * (prefix_size r + size)) octets)))
    else None
