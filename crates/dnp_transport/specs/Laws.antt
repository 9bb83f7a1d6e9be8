-- Definition: what laws say of segments and of whole fragments.
use Rattle.std.specs.Prelude.{◌≡◌, ℕ, ◌+◌, ◌*◌, ◌%◌, ◌<◌, ◌≤◌, ◌↔◌, true, false, IsTrue, List, [], ◌∷◌, ◌++◌, length, take, drop, reverse}
use Rattle.dnp_transport.specs.Segments.{is_first, is_last, number, carried, has_no_size}
use Rattle.dnp_transport.specs.Cuts.{cut_count, cut, cuts}
use Rattle.dnp_transport.specs.Series.{is_left_out, newest, joined, Follows, IsOpen, IsWhole, IsDropped, IsNothing}
use Rattle.dnp_transport.specs.declared.limits.TheConstants.{MAX_FRAGMENT, SEGMENT_DATA, SEGMENT_NUMBERS}

-- the pushed strings, newest first, once these were pushed in order after the ones before
abbrev pub pushed_after : List (List ℕ) → List (List ℕ) → List (List ℕ)
pushed_after before in_order = reverse in_order ++ before

-- whatever was pushed before: where a fragment's segments are pushed in order, the last push completes the fragment,
-- and each earlier one neither completes a fragment nor ends a series
pub record IsAssembled (before : List (List ℕ)) (fragment : List ℕ) (first : ℕ) : Type 0 where
  pub earlier : (k : ℕ) → 0 < k → k < cut_count (length fragment) → IsNothing (pushed_after before (take k (cuts fragment first)))
  pub last : IsWhole (pushed_after before (cuts fragment first)) fragment

abbrev pub CutsGiveWhole : Type 0
CutsGiveWhole =
    (before : List (List ℕ)) (fragment : List ℕ) (first : ℕ) → 0 < length fragment → length fragment ≤ MAX_FRAGMENT → IsAssembled before fragment first

-- the pushes determine the fragment that the last of them completes
abbrev pub OneFragment : Type 0
OneFragment = (pushed : List (List ℕ)) (f g : List ℕ) → IsWhole pushed f → IsWhole pushed g → f ≡ g

-- no push both completes a fragment and ends a series without one
abbrev pub WholeOrDropped : Type 0
WholeOrDropped = (pushed : List (List ℕ)) (f : List ℕ) → IsWhole pushed f → IsDropped pushed → ⊥

-- what a fragment's segment k says: FIR exactly if it is the first, FIN exactly if it is the last, and a number that
-- follows modulo SEGMENT_NUMBERS; it carries at most SEGMENT_DATA of the fragment's octets, at least one, from where those
-- of the segments before it end
pub record SaysItsPlace (fragment : List ℕ) (first k : ℕ) : Type 0 where
  pub first_says : IsTrue (is_first (cut fragment first k)) ↔ (k ≡ 0)
  pub last_says : IsTrue (is_last (cut fragment first k)) ↔ (k + 1 ≡ cut_count (length fragment))
  pub number_is : number (cut fragment first k) ≡ (first + k) % SEGMENT_NUMBERS
  pub carries : carried (cut fragment first k) ≡ take SEGMENT_DATA (drop (SEGMENT_DATA * k) fragment)
  pub sized : k < cut_count (length fragment) → has_no_size (cut fragment first k) ≡ false

-- a series that is open after a push was open before it, and the push is left out of it; or the push begins the series,
-- or goes on with one that was open
pub data OpenBy (before : List (List ℕ)) (segment : List ℕ) (series : List (List ℕ)) : Type 0 where
  LeftOut : is_left_out series segment ≡ true → IsOpen before series → OpenBy before segment series
  Begins : is_first segment ≡ true → is_last segment ≡ false → series ≡ segment ∷ [] → OpenBy before segment series
  GoesOn : (earlier : List (List ℕ)) → IsOpen before earlier → Follows (newest earlier) segment → is_last segment ≡ false →
      series ≡ segment ∷ earlier → OpenBy before segment series

-- a fragment that a push completes is that of the one segment, or of a series that was open before the push
pub data WholeBy (before : List (List ℕ)) (segment fragment : List ℕ) : Type 0 where
  Alone : is_first segment ≡ true → is_last segment ≡ true → fragment ≡ carried segment → WholeBy before segment fragment
  Ends : (earlier : List (List ℕ)) → IsOpen before earlier → Follows (newest earlier) segment → is_last segment ≡ true →
      fragment ≡ joined (segment ∷ earlier) → WholeBy before segment fragment
