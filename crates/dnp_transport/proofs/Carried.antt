-- A fragment's segments, pushed in order, complete it.
use Rattle.std.proofs.Common.{◌≡◌, ℕ, zero, suc, ◌+◌, ◌-◌, ◌*◌, ◌%◌, ◌<◌, ◌≤◌, min, Bool, true, false, cond, not, nat_lt, ◌==◌, List, [], ◌∷◌, ◌++◌, length, take, drop, map, reverse, refl, sym, ap, ◌∙◌, subst, arith, length-take, length-drop, add-one, inl, inr}
use Rattle.std.proofs.lemmas.Bool.{cases_eq, both_ways, or_from, and_right, false_from_ne_true, le-ltb, eq-eqb, ne_eqb, cond-true, cond-false}
use Rattle.std.proofs.lemmas.List.{reverse-append, drop-take, take-append-drop, take-take, take_all}
use Rattle.std.proofs.lemmas.List.FromFn.{take-map-range_with_len, map-range_with_len_more, length-map-range_with_len}
use Rattle.std.proofs.lemmas.Slice.Eq.{bytes_eq-Decides}
use Rattle.std.specs.Int.{bit_at}
use Rattle.std.specs.List.{range_with_len}
use Rattle.std.specs.Str.{bytes_eq}
use Rattle.dnp_transport.specs.Segments.{is_first, is_last, number, has_no_size}
use Rattle.dnp_transport.specs.Cuts.{cut_count, cut_header, cut, cuts, begun_cuts}
use Rattle.dnp_transport.specs.Series.{repeats, is_left_out, kept, IsSeries, joined, IsOpen, IsWhole, IsNothing}
use Rattle.dnp_transport.specs.Laws.{pushed_after, IsAssembled, SaysItsPlace}
use Rattle.dnp_transport.proofs.Histories.{kept_stays, open_not_whole, dropped_not_open}
use Rattle.dnp_transport.specs.declared.limits.TheConstants.{MAX_FRAGMENT, MAX_SEGMENT, SEGMENT_DATA, SEGMENT_NUMBERS}
use Rattle.dnp_transport.specs.declared.header.TheConstants.{FINAL, FIRST}

-- the bits and the number of a header

fir_set : (b : Bool) (n : ℕ) → n < SEGMENT_NUMBERS → bit_at (FIRST + cond b FINAL 0 + n) 6 ≡ 1
fir_set true n h = omega arith
fir_set false n h = omega arith

fir_clear : (b : Bool) (n : ℕ) → n < SEGMENT_NUMBERS → bit_at (0 + cond b FINAL 0 + n) 6 ≡ 0
fir_clear true n h = omega arith
fir_clear false n h = omega arith

fin_set : (a : Bool) (n : ℕ) → n < SEGMENT_NUMBERS → bit_at (cond a FIRST 0 + FINAL + n) 7 ≡ 1
fin_set true n h = omega arith
fin_set false n h = omega arith

fin_clear : (a : Bool) (n : ℕ) → n < SEGMENT_NUMBERS → bit_at (cond a FIRST 0 + 0 + n) 7 ≡ 0
fin_clear true n h = omega arith
fin_clear false n h = omega arith

low_bits : (a b : Bool) (n : ℕ) → n < SEGMENT_NUMBERS → (cond a FIRST 0 + cond b FINAL 0 + n) % SEGMENT_NUMBERS ≡ n
low_bits true true n h = omega arith
low_bits true false n h = omega arith
low_bits false true n h = omega arith
low_bits false false n h = omega arith

clear_bit : (b : ℕ) → b ≡ 0 → (b == 1) ≡ false
clear_bit b e = ne_eqb b 1 (λ h. omega arith)

number_fits : (n : ℕ) → n % SEGMENT_NUMBERS < SEGMENT_NUMBERS
number_fits n = omega arith

cut_is_first : (f : List ℕ) (first k : ℕ) → k ≡ 0 → is_first (cut f first k) ≡ true
cut_is_first f first k e =
    let n : ℕ = (first + k) % SEGMENT_NUMBERS in
    let last : Bool = k + 1 == cut_count (length f) in
    let a : cond (k == 0) FIRST 0 ≡ FIRST = cond-true (k == 0) FIRST 0 (eq-eqb k 0 e) in
    eq-eqb (bit_at (cut_header (cut_count (length f)) first k) 6) 1
    (subst (λ (x : ℕ). bit_at (x + cond last FINAL 0 + n) 6 ≡ 1) (sym a) (fir_set last n (number_fits (first + k))))

cut_is_not_first : (f : List ℕ) (first k : ℕ) → 0 < k → is_first (cut f first k) ≡ false
cut_is_not_first f first k h =
    let n : ℕ = (first + k) % SEGMENT_NUMBERS in
    let last : Bool = k + 1 == cut_count (length f) in
    let later : k ≡ 0 → ⊥ = λ e. omega arith in
    let a : cond (k == 0) FIRST 0 ≡ 0 = cond-false (k == 0) FIRST 0 (ne_eqb k 0 later) in
    let clear : bit_at (cut_header (cut_count (length f)) first k) 6 ≡ 0 =
    subst (λ (x : ℕ). bit_at (x + cond last FINAL 0 + n) 6 ≡ 0) (sym a) (fir_clear last n (number_fits (first + k))) in
    clear_bit (bit_at (cut_header (cut_count (length f)) first k) 6) clear

cut_is_last : (f : List ℕ) (first k : ℕ) → k + 1 ≡ cut_count (length f) → is_last (cut f first k) ≡ true
cut_is_last f first k e =
    let n : ℕ = (first + k) % SEGMENT_NUMBERS in
    let a : cond (k + 1 == cut_count (length f)) FINAL 0 ≡ FINAL =
    cond-true (k + 1 == cut_count (length f)) FINAL 0 (eq-eqb (k + 1) (cut_count (length f)) e) in
    eq-eqb (bit_at (cut_header (cut_count (length f)) first k) 7) 1
    (subst (λ (x : ℕ). bit_at (cond (k == 0) FIRST 0 + x + n) 7 ≡ 1) (sym a) (fin_set (k == 0) n (number_fits (first + k))))

cut_is_other : (f : List ℕ) (first k : ℕ) → (k + 1 ≡ cut_count (length f) → ⊥) → is_last (cut f first k) ≡ false
cut_is_other f first k other =
    let n : ℕ = (first + k) % SEGMENT_NUMBERS in
    let a : cond (k + 1 == cut_count (length f)) FINAL 0 ≡ 0 =
    cond-false (k + 1 == cut_count (length f)) FINAL 0 (ne_eqb (k + 1) (cut_count (length f)) other) in
    let clear : bit_at (cut_header (cut_count (length f)) first k) 7 ≡ 0 =
    subst (λ (x : ℕ). bit_at (cond (k == 0) FIRST 0 + x + n) 7 ≡ 0) (sym a) (fin_clear (k == 0) n (number_fits (first + k))) in
    clear_bit (bit_at (cut_header (cut_count (length f)) first k) 7) clear

cut_is_not_last : (f : List ℕ) (first k : ℕ) → k + 1 < cut_count (length f) → is_last (cut f first k) ≡ false
cut_is_not_last f first k h = cut_is_other f first k (λ e. omega (arith, h, e))

number_of_cut : (f : List ℕ) (first k : ℕ) → number (cut f first k) ≡ (first + k) % SEGMENT_NUMBERS
number_of_cut f first k =
    low_bits (k == 0) (k + 1 == cut_count (length f)) ((first + k) % SEGMENT_NUMBERS) (number_fits (first + k))

next_number : (a k : ℕ) → (a + suc k) % SEGMENT_NUMBERS ≡ ((a + k) % SEGMENT_NUMBERS + 1) % SEGMENT_NUMBERS
next_number a k = omega arith

other_number : (a k : ℕ) → (a + suc k) % SEGMENT_NUMBERS ≡ (a + k) % SEGMENT_NUMBERS → ⊥
other_number a k e = omega arith

first_says : (f : List ℕ) (first k : ℕ) → is_first (cut f first k) ≡ true → k ≡ 0
first_says f first zero h = refl
first_says f first (suc k) h =
    absurd (both_ways (is_first (cut f first (suc k))) (cut_is_not_first f first (suc k) (omega arith)) h)

-- each cut is of a segment's size
cut_sized : (f : List ℕ) (first k : ℕ) → k < cut_count (length f) → has_no_size (cut f first k) ≡ false
cut_sized f first k h =
    let n : length (take SEGMENT_DATA (drop (SEGMENT_DATA * k) f)) ≡ min SEGMENT_DATA (length f - SEGMENT_DATA * k) =
    length-take SEGMENT_DATA (drop (SEGMENT_DATA * k) f) ∙ ap (λ (m : ℕ). min SEGMENT_DATA m) (length-drop (SEGMENT_DATA * k) f) in
    or_from (nat_lt (length (cut f first k)) 2) (nat_lt MAX_SEGMENT (length (cut f first k)))
    (le-ltb (length (cut f first k)) 2 (omega (arith, n, h)))
    (le-ltb MAX_SEGMENT (length (cut f first k)) (omega (arith, n, h)))

-- what the first k + 1 cuts make
record IsSent (f : List ℕ) (first k : ℕ) : Type 0 where
  earlier_kept : kept (begun_cuts f first k) ≡ begun_cuts f first k
  stays : is_left_out (begun_cuts f first k) (cut f first k) ≡ false
  in_series : IsSeries (begun_cuts f first (suc k))
  joined_are : joined (begun_cuts f first (suc k)) ≡ take (SEGMENT_DATA * (k + 1)) f

all_kept : (f : List ℕ) (first k : ℕ) → IsSent f first k → kept (begun_cuts f first (suc k)) ≡ begun_cuts f first (suc k)
all_kept f first k i =
    kept_stays (cut f first k) (begun_cuts f first k)
    (subst (λ (l : List (List ℕ)). is_left_out l (cut f first k) ≡ false) (sym i.earlier_kept) i.stays)
    ∙ ap (λ (l : List (List ℕ)). cut f first k ∷ l) i.earlier_kept

take_two : (m n : ℕ) (l : List ℕ) → take m l ++ take n (drop m l) ≡ take (m + n) l
take_two m n l =
    let p : take m (take (m + n) l) ++ drop m (take (m + n) l) ≡ take (m + n) l = take-append-drop m (take (m + n) l) in
    let q : take m (take (m + n) l) ≡ take m l = take-take m (m + n) l (omega arith) in
    let r : drop m (take (m + n) l) ≡ take n (drop m l) = drop-take m n l in
    cc

is_sent : (f : List ℕ) (first k : ℕ) → k < cut_count (length f) → IsSent f first k
is_sent f first zero h =
    record {
      earlier_kept = refl;
      stays = or_from (has_no_size (cut f first 0)) false (cut_sized f first 0 h) refl;
      in_series = cut_is_first f first 0 refl;
      joined_are = refl;
    }
is_sent f first (suc k) h =
    let i : IsSent f first k = is_sent f first k (omega (arith, h)) in
    let no_first : is_first (cut f first (suc k)) ≡ false = cut_is_not_first f first (suc k) (omega arith) in
    let turn : number (cut f first (suc k)) ≡ (number (cut f first k) + 1) % SEGMENT_NUMBERS =
    number_of_cut f first (suc k) ∙ next_number first k ∙ ap (λ (n : ℕ). (n + 1) % SEGMENT_NUMBERS) (sym (number_of_cut f first k)) in
    let fresh : cut f first (suc k) ≡ cut f first k → ⊥ =
    λ e. other_number first k
    (sym (number_of_cut f first (suc k)) ∙ ap (λ (l : List ℕ). number l) e ∙ number_of_cut f first k) in
    let size : SEGMENT_DATA * (k + 1) ≡ SEGMENT_DATA * suc k = omega arith in
    let more : SEGMENT_DATA * suc k + SEGMENT_DATA ≡ SEGMENT_DATA * (suc k + 1) = omega arith in
    record {
      earlier_kept = all_kept f first k i;
      stays =
          or_from (has_no_size (cut f first (suc k))) (repeats (begun_cuts f first (suc k)) (cut f first (suc k)))
          (cut_sized f first (suc k) h)
          (and_right (not (is_first (cut f first (suc k)))) (bytes_eq (cut f first (suc k)) (cut f first k))
          (false_from_ne_true (bytes_eq (cut f first (suc k)) (cut f first k))
          (λ t. fresh ((bytes_eq-Decides (cut f first (suc k)) (cut f first k)).0 t))));
      in_series =
          (record { unended = cut_is_not_last f first k (omega (arith, h)); no_first = no_first; in_turn = turn }, i.in_series);
      joined_are =
          ap (λ (l : List ℕ). l ++ take SEGMENT_DATA (drop (SEGMENT_DATA * suc k) f)) i.joined_are
          ∙ ap (λ (m : ℕ). take m f ++ take SEGMENT_DATA (drop (SEGMENT_DATA * suc k) f)) size
          ∙ take_two (SEGMENT_DATA * suc k) SEGMENT_DATA f
          ∙ ap (λ (m : ℕ). take m f) more;
    }

-- a series waits until the last cut
sent_open : (f : List ℕ) (first k : ℕ) (before : List (List ℕ)) → length f ≤ MAX_FRAGMENT → k + 1 < cut_count (length f)
    → IsOpen (begun_cuts f first (suc k) ++ before) (begun_cuts f first (suc k))
sent_open f first k before most h =
    let i : IsSent f first k = is_sent f first k (omega (arith, h)) in
    record {
      recent = begun_cuts f first (suc k);
      older = before;
      split = refl;
      kept_are = all_kept f first k i;
      in_series = i.in_series;
      unended = cut_is_not_last f first k h;
      fits = omega (arith, ap length i.joined_are, length-take (SEGMENT_DATA * (k + 1)) f, most);
    }

-- the last cut completes the fragment
sent_whole : (f : List ℕ) (first k : ℕ) (before : List (List ℕ)) → length f ≤ MAX_FRAGMENT → k + 1 ≡ cut_count (length f)
    → IsWhole (begun_cuts f first (suc k) ++ before) f
sent_whole f first k before most h =
    let i : IsSent f first k = is_sent f first k (omega (arith, h)) in
    let back : begun_cuts f first k ≡ kept (begun_cuts f first k) = sym i.earlier_kept in
    record {
      segment = cut f first k;
      recent = begun_cuts f first k;
      older = before;
      split = refl;
      stays = subst (λ (l : List (List ℕ)). is_left_out l (cut f first k) ≡ false) back i.stays;
      in_series = subst (λ (l : List (List ℕ)). IsSeries (cut f first k ∷ l)) back i.in_series;
      ended = cut_is_last f first k h;
      joined_is =
          ap (λ (l : List (List ℕ)). joined (cut f first k ∷ l)) i.earlier_kept
          ∙ i.joined_are
          ∙ take_all (SEGMENT_DATA * (k + 1)) f (omega (arith, h));
      fits = most;
    }

-- the cuts as a list in order

sent_reversed : (f : List ℕ) (first k : ℕ) → reverse (map (cut f first) (range_with_len 0 k)) ≡ begun_cuts f first k
sent_reversed f first zero = refl
sent_reversed f first (suc k) =
    let more : map (cut f first) (range_with_len 0 (suc k)) ≡ map (cut f first) (range_with_len 0 k) ++ cut f first k ∷ [] =
    ap (λ (n : ℕ). map (cut f first) (range_with_len 0 n)) (sym (add-one k))
    ∙ map-range_with_len_more (cut f first) 0 k k (omega arith) in
    ap (λ (l : List (List ℕ)). reverse l) more
    ∙ reverse-append (map (cut f first) (range_with_len 0 k)) (cut f first k ∷ [])
    ∙ ap (λ (l : List (List ℕ)). cut f first k ∷ l) (sent_reversed f first k)

-- the pushes after the first k cuts
after_cuts : (f : List ℕ) (first k : ℕ) (before : List (List ℕ)) → k ≤ cut_count (length f)
    → pushed_after before (take k (cuts f first)) ≡ begun_cuts f first k ++ before
after_cuts f first k before h =
    ap (λ (l : List (List ℕ)). reverse l ++ before) (take-map-range_with_len (cut f first) 0 (cut_count (length f)) k h)
    ∙ ap (λ (l : List (List ℕ)). l ++ before) (sent_reversed f first k)

earlier_nothing : (before : List (List ℕ)) (f : List ℕ) (first k : ℕ) → length f ≤ MAX_FRAGMENT → 0 < k → k < cut_count (length f)
    → IsNothing (pushed_after before (take k (cuts f first)))
earlier_nothing before f first zero most some h = absurd (omega (arith, some))
earlier_nothing before f first (suc k) most some h =
    let o : IsOpen (begun_cuts f first (suc k) ++ before) (begun_cuts f first (suc k)) = sent_open f first k before most (omega (arith, h)) in
    let n : IsNothing (begun_cuts f first (suc k) ++ before) =
    record {
      no_whole = λ g w. open_not_whole (begun_cuts f first (suc k) ++ before) (begun_cuts f first (suc k)) g o w;
      no_drop = λ d. dropped_not_open (begun_cuts f first (suc k) ++ before) (begun_cuts f first (suc k)) d o;
    } in
    subst (λ (l : List (List ℕ)). IsNothing l) (sym (after_cuts f first (suc k) before (omega (arith, h)))) n

last_whole : (before : List (List ℕ)) (f : List ℕ) (first count : ℕ) → length f ≤ MAX_FRAGMENT → 0 < count → count ≡ cut_count (length f)
    → IsWhole (pushed_after before (cuts f first)) f
last_whole before f first zero most some e = absurd (omega (arith, some))
last_whole before f first (suc k) most some e =
    let w : IsWhole (begun_cuts f first (suc k) ++ before) f = sent_whole f first k before most (omega (arith, e)) in
    let all : pushed_after before (cuts f first) ≡ begun_cuts f first (suc k) ++ before =
    ap (λ (l : List (List ℕ)). reverse l ++ before)
    (ap (λ (n : ℕ). map (cut f first) (range_with_len 0 n)) (sym e))
    ∙ ap (λ (l : List (List ℕ)). l ++ before) (sent_reversed f first (suc k)) in
    subst (λ (l : List (List ℕ)). IsWhole l f) (sym all) w

-- the law
pub carries : (before : List (List ℕ)) (f : List ℕ) (first : ℕ) → 0 < length f → length f ≤ MAX_FRAGMENT → IsAssembled before f first
carries before f first some most =
    record {
      earlier = λ k h l. earlier_nothing before f first k most h l;
      last = last_whole before f first (cut_count (length f)) most (omega (arith, some)) refl;
    }

-- what a cut says
last_says : (f : List ℕ) (first k : ℕ) → is_last (cut f first k) ≡ true → k + 1 ≡ cut_count (length f)
last_says f first k h =
    elim (cases_eq (k + 1) (cut_count (length f))) [
      | inl last ↦ last
      | inr other ↦ absurd (both_ways (is_last (cut f first k)) (cut_is_other f first k other) h)
    ]

pub says_its_place : (f : List ℕ) (first k : ℕ) → SaysItsPlace f first k
says_its_place f first k =
    record {
      first_says = (first_says f first k, cut_is_first f first k);
      last_says = (last_says f first k, cut_is_last f first k);
      number_is = number_of_cut f first k;
      carries = refl;
      sized = cut_sized f first k;
    }

pub length-cuts : (f : List ℕ) (first : ℕ) → length (cuts f first) ≡ cut_count (length f)
length-cuts f first = length-map-range_with_len (cut f first) 0 (cut_count (length f))

pub joined_all : (f : List ℕ) (first k : ℕ) → k ≡ cut_count (length f) → joined (begun_cuts f first k) ≡ f
joined_all f first zero e = take_all 0 f (omega (arith, e))
joined_all f first (suc k) e =
    (is_sent f first k (omega (arith, e))).joined_are ∙ take_all (SEGMENT_DATA * (k + 1)) f (omega (arith, e))
