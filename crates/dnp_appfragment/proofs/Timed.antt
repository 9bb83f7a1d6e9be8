-- Times given after a common one: what is tested is what is meant.
use Rattle.std.proofs.Common.{◌≡◌, refl, sym, ◌∙◌, ap, subst, ℕ, zero, suc, ◌+◌, ◌-◌, ◌<◌, ◌≤◌, Bool, true, false, cond, List, [], ◌∷◌, arith, Option, Some, None, nat_lt, ◌&&◌}
use Rattle.std.specs.Prelude.{drop, slice_index}
use Rattle.std.specs.List.{list_all, range_with_len}
use Rattle.std.specs.Option.{option_map_or}
use Rattle.std.proofs.lemmas.Bool.{ltb-true, ltb-false, lt-ltb, and_parts}
use Rattle.dnp_objects.specs.declared.limits.TheConstants.{MAX_TIME}
use Rattle.dnp_appfragment.specs.declared.header.Range.{Range}
use Rattle.dnp_appfragment.specs.Headers.{Head, head_after, Context, count_of, common_of, is_relative, time_after, IsTimed}
use Rattle.dnp_appfragment.specs.Reading.{are_under, is_timed}

-- what passes of so many numbers from one on, each passes
each_under : (p : ℕ → Bool) (from n : ℕ) → list_all p (range_with_len from n) ≡ true → (k : ℕ) → from ≤ k → k < from + n → p k ≡ true
each_under p from zero all k low high = absurd (omega arith)
each_under p from (suc n) all k low high = go (λ rest low high. each_under p (from + 1) n rest k low high) (nat_lt from k) refl
  where
    both : (p from ≡ true) × (list_all p (range_with_len (from + 1) n) ≡ true)
    both = and_parts (p from) (list_all p (range_with_len (from + 1) n)) all

    go : (list_all p (range_with_len (from + 1) n) ≡ true → from + 1 ≤ k → k < from + 1 + n → p k ≡ true)
        → (b : Bool) → nat_lt from k ≡ b → p k ≡ true
    go others true is = let over = ltb-true from k is in others both.1 (omega arith) (omega arith)
    go others false is =
        let same : from ≡ k = omega (arith, ltb-false from k is) in ap p (sym same) ∙ both.0

all_under : (p : ℕ → Bool) (from n : ℕ) → ((k : ℕ) → from ≤ k → k < from + n → p k ≡ true) → list_all p (range_with_len from n) ≡ true
all_under p from zero each = refl
all_under p from (suc n) each =
    ap (λ (b : Bool). b && list_all p (range_with_len (from + 1) n)) (each from (omega arith) (omega arith))
    ∙ all_under p (from + 1) n (λ k low high. each k (omega arith) (omega arith))

under_is : (h : Head) (o : Option ℕ) → h.common ≡ o → option_map_or (are_under h) o false ≡ true → IsTimed h
under_is h None there is = cc
under_is h (Some common) there is = record {
  common = common;
  there = there;
  sums = λ k below.
      ltb-true (common + time_after h k) MAX_TIME
      (each_under (λ j. nat_lt (common + time_after h j) MAX_TIME) 0 (count_of h.range) is k (omega arith) (omega arith));
}

is_under : (h : Head) → IsTimed h → option_map_or (are_under h) h.common false ≡ true
is_under h timed =
    ap (λ (o : Option ℕ). option_map_or (are_under h) o false) timed.there
    ∙ all_under (λ j. nat_lt (timed.common + time_after h j) MAX_TIME) 0 (count_of h.range)
    (λ k low high. lt-ltb (timed.common + time_after h k) MAX_TIME (timed.sums k (omega arith)))

by_object : (h : Head) (b : Bool) → is_relative h.group h.variation ≡ b → is_timed h ≡ cond b (option_map_or (are_under h) h.common false) true
by_object h b is = ap (λ (x : Bool). cond x (option_map_or (are_under h) h.common false) true) is

pub timed_is : (h : Head) → is_timed h ≡ true → is_relative h.group h.variation ≡ true → IsTimed h
timed_is h passes relative = under_is h h.common refl (sym (by_object h true relative) ∙ passes)

pub timed_again : (h : Head) → (is_relative h.group h.variation ≡ true → IsTimed h) → is_timed h ≡ true
timed_again h timed = go (is_relative h.group h.variation) refl
  where
    go : (b : Bool) → is_relative h.group h.variation ≡ b → is_timed h ≡ true
    go true is = by_object h true is ∙ is_under h (timed is)
    go false is = by_object h false is

-- an octet of those from a place on
pub index_of_rest : (octets : List ℕ) (at i : ℕ) → slice_index (drop at octets) i ≡ slice_index octets (at + i)
index_of_rest octets zero i = let same : zero + i ≡ i = omega arith in ap (slice_index octets) (sym same)
index_of_rest [] (suc at) i = refl
index_of_rest (b ∷ octets) (suc at) i =
    let same : suc at + i ≡ suc (at + i) = omega arith in index_of_rest octets at i ∙ ap (slice_index (b ∷ octets)) (sym same)

pub first_of_rest : (octets : List ℕ) (at : ℕ) → slice_index (drop at octets) 0 ≡ slice_index octets at
first_of_rest octets at = let same : at + 0 ≡ at = omega arith in index_of_rest octets at 0 ∙ ap (slice_index octets) same

-- the first of those from a number on
pub under_step : (p : ℕ → Bool) (k n : ℕ) → k < n → p k ≡ true
    → list_all p (range_with_len k (n - k)) ≡ list_all p (range_with_len (k + 1) (n - (k + 1)))
under_step p k n below passes =
    let more : n - k ≡ suc (n - (k + 1)) = omega arith in
    ap (λ (m : ℕ). list_all p (range_with_len k m)) more
    ∙ ap (λ (b : Bool). b && list_all p (range_with_len (k + 1) (n - (k + 1)))) passes

pub under_stops : (p : ℕ → Bool) (k n : ℕ) → k < n → p k ≡ false → list_all p (range_with_len k (n - k)) ≡ false
under_stops p k n below fails =
    let more : n - k ≡ suc (n - (k + 1)) = omega arith in
    ap (λ (m : ℕ). list_all p (range_with_len k m)) more
    ∙ ap (λ (b : Bool). b && list_all p (range_with_len (k + 1) (n - (k + 1)))) fails

-- and of the common time of a place
placed : (context : Context) (g v : ℕ) (r : Range) (objects : List ℕ) → is_relative g v ≡ true
    → head_after (common_of context g v) g v r objects ≡ head_after context g v r objects
placed context g v r objects is = ap (λ (b : Bool). head_after (cond b context None) g v r objects) is

pub untimed_is : (context : Context) (g v : ℕ) (r : Range) (objects : List ℕ) → is_timed (head_after (common_of context g v) g v r objects) ≡ false
    → (is_relative g v ≡ true) × (IsTimed (head_after context g v r objects) → ⊥)
untimed_is context g v r objects fails = go (is_relative g v) refl
  where
    h : Head
    h = head_after (common_of context g v) g v r objects

    go : (b : Bool) → is_relative g v ≡ b → (is_relative g v ≡ true) × (IsTimed (head_after context g v r objects) → ⊥)
    go true is = (
      is,
      λ timed.
          let passes = is_under h (subst IsTimed (sym (placed context g v r objects is)) timed) in
          let not = sym (by_object h true is) ∙ fails in cc,
    )
    go false is = let passes = by_object h false is in cc

pub untimed_again : (context : Context) (g v : ℕ) (r : Range) (objects : List ℕ) → is_relative g v ≡ true
    → (IsTimed (head_after context g v r objects) → ⊥) → is_timed (head_after (common_of context g v) g v r objects) ≡ false
untimed_again context g v r objects relative not = go (is_timed (head_after (common_of context g v) g v r objects)) refl
  where
    h : Head
    h = head_after (common_of context g v) g v r objects

    go : (b : Bool) → is_timed h ≡ b → is_timed h ≡ false
    go true passes = absurd (not (subst IsTimed (placed context g v r objects relative) (timed_is h passes relative)))
    go false fails = fails
