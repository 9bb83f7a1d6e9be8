-- What a segment that comes does to what is half built, and which fragment it completes.
use Rattle.std.proofs.Common.{◌≡◌, ℕ, suc, ◌+◌, ◌%◌, ◌<◌, ◌≤◌, true, false, not, inl, inr, List, [], ◌∷◌, ◌++◌, length, refl, sym, ap, ◌∙◌, subst, arith}
use Rattle.std.proofs.lemmas.Bool.{both_ways, or_cases, and_parts}
use Rattle.std.proofs.lemmas.Slice.Eq.{bytes_eq-Decides}
use Rattle.std.specs.Str.{bytes_eq}
use Rattle.dnp_transport.specs.Cuts.{cut_count, cut, begun_cuts}
use Rattle.dnp_transport.specs.Laws.{LeftOut, Begins, GoesOn, Alone, Ends}
use Rattle.dnp_transport.specs.Segments.{is_first, is_last, number, has_no_size}
use Rattle.dnp_transport.specs.Series.{is_left_out, repeats, newest, joined, Follows, IsOpen, IsWhole}
use Rattle.dnp_line.specs.Flows.{segment_total, IsAt, IsSegment, IsBegun, IsRecent}
use Rattle.dnp_line.specs.steps.Lower.{Lower}
use Rattle.dnp_line.proofs.Splits.{AreSame, same_place}
use Rattle.dnp_line.specs.declared.line.TheConstants.{BROKEN_LOSSES}
use Rattle.dnp_transport.specs.declared.limits.TheConstants.{SEGMENT_NUMBERS}

-- fewer segments are lost in a row than there are numbers
number_again : (place gone lost : ℕ) → place ≤ gone → gone ≤ place + 1 + lost → lost < BROKEN_LOSSES
    → gone % SEGMENT_NUMBERS ≡ place % SEGMENT_NUMBERS → gone ≡ place
number_again place gone lost low high few e = omega (arith, low, high, few, e)

number_next : (place gone lost : ℕ) → place ≤ gone → gone ≤ place + 1 + lost → lost < BROKEN_LOSSES
    → gone % SEGMENT_NUMBERS ≡ (place % SEGMENT_NUMBERS + 1) % SEGMENT_NUMBERS → gone ≡ place + 1
number_next place gone lost low high few e = omega (arith, low, high, few, e)

number_at : Lower → (sent : List (List ℕ)) (p : ℕ) (x : List ℕ) → IsSegment sent p x → number x ≡ p % SEGMENT_NUMBERS
number_at low sent p x i =
    ap (λ (s : List ℕ). number s) i.segment_is ∙ (low.places i.fragment (segment_total i.before) i.k).number_is
    ∙ ap (λ (n : ℕ). n % SEGMENT_NUMBERS) (sym i.at.place_is)

newest_is : (sent : List (List ℕ)) (p : ℕ) (s : List (List ℕ)) (b : IsBegun sent p s) → newest s ≡ cut b.fragment (segment_total b.before) b.k
newest_is sent p s b =
    ap (λ (l : List (List ℕ)). newest l) b.series_is

number_newest : Lower → (sent : List (List ℕ)) (p : ℕ) (s : List (List ℕ)) → IsBegun sent p s → number (newest s) ≡ p % SEGMENT_NUMBERS
number_newest low sent p s b =
    ap (λ (l : List ℕ). number l) (newest_is sent p s b) ∙ (low.places b.fragment (segment_total b.before) b.k).number_is
    ∙ ap (λ (n : ℕ). n % SEGMENT_NUMBERS) (sym b.at.place_is)

sized_at : Lower → (sent : List (List ℕ)) (p : ℕ) (x : List ℕ) → IsSegment sent p x → has_no_size x ≡ false
sized_at low sent p x i =
    ap (λ (s : List ℕ). has_no_size s) i.segment_is ∙ (low.places i.fragment (segment_total i.before) i.k).sized i.at.within

repeats_newest : (t : List (List ℕ)) (x : List ℕ) → repeats t x ≡ true → x ≡ newest t
repeats_newest [] x h = absurd (both_ways false refl h)
repeats_newest (last ∷ t) x h =
    (bytes_eq-Decides x last).0 ((and_parts (not (is_first x)) (bytes_eq x last) h).1)

left_out_newest : (t : List (List ℕ)) (x : List ℕ) → has_no_size x ≡ false → is_left_out t x ≡ true → x ≡ newest t
left_out_newest t x sized h =
    elim (or_cases (has_no_size x) (repeats t x) h) [
      | inl none ↦ absurd (both_ways (has_no_size x) sized none)
      | inr again ↦ repeats_newest t x again
    ]

-- a segment without FIN isn't the last one of its fragment
waits_for_more : Lower → (f : List ℕ) (first k : ℕ) → k < cut_count (length f) → is_last (cut f first k) ≡ false → k + 1 < cut_count (length f)
waits_for_more low f first k h u =
    let ne : k + 1 ≡ cut_count (length f) → ⊥ = λ e. both_ways (is_last (cut f first k)) u ((low.places f first k).last_says.1 e) in
    omega (arith, h, ne)

-- all segments of a fragment join to it
joined_all : Lower → (f : List ℕ) (first k : ℕ) → k + 1 ≡ cut_count (length f) → joined (begun_cuts f first (suc k)) ≡ f
joined_all low f first k e =
    let all : suc k ≡ cut_count (length f) = omega (arith, e) in
    ap (λ (n : ℕ). joined (begun_cuts f first n)) all ∙ low.joins f first

-- the segment at a place, and the series of its fragment's segments up to it
record IsUpTo (sent : List (List ℕ)) (place : ℕ) (x : List ℕ) (series : List (List ℕ)) : Type 0 where
  before : List (List ℕ)
  fragment : List ℕ
  after : List (List ℕ)
  k : ℕ
  at : IsAt sent place before fragment after k
  segment_is : x ≡ cut fragment (segment_total before) k
  series_is : x ∷ series ≡ begun_cuts fragment (segment_total before) (suc k)

-- a first segment begins a fragment
up_to_first : Lower → (sent : List (List ℕ)) (gone : ℕ) (x : List ℕ) → IsSegment sent gone x → is_first x ≡ true → IsUpTo sent gone x []
up_to_first low sent gone x i first =
    let zeroth : i.k ≡ 0 =
    (low.places i.fragment (segment_total i.before) i.k).first_says.0 (sym (ap (λ (s : List ℕ). is_first s) i.segment_is) ∙ first) in
    let x_is : x ≡ cut i.fragment (segment_total i.before) 0 =
    i.segment_is ∙ ap (λ (n : ℕ). cut i.fragment (segment_total i.before) n) zeroth in
    record {
      before = i.before;
      fragment = i.fragment;
      after = i.after;
      k = 0;
      at = record { split = i.at.split; place_is = i.at.place_is ∙ ap (λ (n : ℕ). segment_total i.before + n) zeroth; within = subst (λ (n : ℕ). n < cut_count (length i.fragment)) zeroth i.at.within };
      segment_is = x_is;
      series_is = ap (λ (s : List ℕ). s ∷ []) x_is;
    }

-- the next segment after those of a series that is begun
up_to_next : Lower → (sent : List (List ℕ)) (gone lost : ℕ) (x : List ℕ) (s : List (List ℕ)) → lost < BROKEN_LOSSES → IsSegment sent gone x
    → IsRecent sent gone lost s → Follows (newest s) x → IsUpTo sent gone x s
up_to_next low sent gone lost x s few i r follows =
    let b : IsBegun sent r.place s = r.is_begun in
    let turn : gone % SEGMENT_NUMBERS ≡ (r.place % SEGMENT_NUMBERS + 1) % SEGMENT_NUMBERS =
    sym (number_at low sent gone x i) ∙ follows.in_turn ∙ ap (λ (n : ℕ). (n + 1) % SEGMENT_NUMBERS) (number_newest low sent r.place s b) in
    let next : gone ≡ r.place + 1 = number_next r.place gone lost r.low r.high few turn in
    let at : IsAt sent gone b.before b.fragment b.after (suc b.k) =
    record { split = b.at.split; place_is = omega (arith, next, b.at.place_is); within = omega (arith, b.waits) } in
    let same : AreSame i.before b.before i.fragment b.fragment i.k (suc b.k) =
    same_place sent gone i.before b.before i.fragment b.fragment i.after b.after i.k (suc b.k) i.at at in
    let x_is : x ≡ cut b.fragment (segment_total b.before) (suc b.k) =
    i.segment_is ∙ ap (λ (f : List ℕ). cut f (segment_total i.before) i.k) same.fragments
    ∙ ap (λ (l : List (List ℕ)). cut b.fragment (segment_total l) i.k) same.befores
    ∙ ap (λ (n : ℕ). cut b.fragment (segment_total b.before) n) same.ks in
    record {
      before = b.before;
      fragment = b.fragment;
      after = b.after;
      k = suc b.k;
      at = at;
      segment_is = x_is;
      series_is =
          ap (λ (l : List ℕ). l ∷ s) x_is
          ∙ ap (λ (l : List (List ℕ)). cut b.fragment (segment_total b.before) (suc b.k) ∷ l) b.series_is;
    }

-- without FIN the series waits
begun_up_to : Lower → (sent : List (List ℕ)) (gone : ℕ) (x : List ℕ) (s t : List (List ℕ)) → IsUpTo sent gone x s → is_last x ≡ false → t ≡ x ∷ s
    → IsBegun sent gone t
begun_up_to low sent gone x s t u unended e =
    let first : ℕ = segment_total u.before in
    record {
      before = u.before;
      fragment = u.fragment;
      after = u.after;
      k = u.k;
      at = u.at;
      waits = waits_for_more low u.fragment first u.k u.at.within (sym (ap (λ (l : List ℕ). is_last l) u.segment_is) ∙ unended);
      series_is = e ∙ u.series_is;
    }

-- what is open after the segment has it as its newest
pub open_after : Lower → (sent : List (List ℕ)) (gone lost : ℕ) (x : List ℕ) (before t : List (List ℕ)) → lost < BROKEN_LOSSES → IsSegment sent gone x
    → ((s : List (List ℕ)) → IsOpen before s → IsRecent sent gone lost s) → IsOpen (x ∷ before) t → IsBegun sent gone t
open_after low sent gone lost x before t few i recent o =
    elim (low.opens before t x o) [
      | LeftOut out opened ↦
          let r : IsRecent sent gone lost t = recent t opened in
          let again : gone % SEGMENT_NUMBERS ≡ r.place % SEGMENT_NUMBERS =
          sym (number_at low sent gone x i)
          ∙ ap (λ (l : List ℕ). number l) (left_out_newest t x (sized_at low sent gone x i) out)
          ∙ number_newest low sent r.place t r.is_begun in
          let same : gone ≡ r.place = number_again r.place gone lost r.low r.high few again in
          subst (λ (p : ℕ). IsBegun sent p t) (sym same) r.is_begun
      | Begins first unended e ↦ begun_up_to low sent gone x [] t (up_to_first low sent gone x i first) unended e
      | GoesOn s opened follows unended e ↦
          begun_up_to low sent gone x s t (up_to_next low sent gone lost x s few i (recent s opened) follows) unended e
    ]

-- the fragment that the segment completes has a segment at the place
pub record IsWholeAt (sent : List (List ℕ)) (gone : ℕ) (fragment : List ℕ) : Type 0 where
  pub before : List (List ℕ)
  pub after : List (List ℕ)
  pub split : sent ≡ before ++ fragment ∷ after
  pub low : segment_total before ≤ gone
  pub high : gone < segment_total before + cut_count (length fragment)

whole_up_to : Lower → (sent : List (List ℕ)) (gone : ℕ) (x : List ℕ) (s : List (List ℕ)) (f : List ℕ) → IsUpTo sent gone x s → is_last x ≡ true
    → f ≡ joined (x ∷ s) → IsWholeAt sent gone f
whole_up_to low sent gone x s f u ended e =
    let first : ℕ = segment_total u.before in
    let all : u.k + 1 ≡ cut_count (length u.fragment) =
    (low.places u.fragment first u.k).last_says.0 (sym (ap (λ (l : List ℕ). is_last l) u.segment_is) ∙ ended) in
    let f_is : f ≡ u.fragment = e ∙ ap (λ (l : List (List ℕ)). joined l) u.series_is ∙ joined_all low u.fragment first u.k all in
    subst (λ (g : List ℕ). IsWholeAt sent gone g) (sym f_is)
    record {
      before = u.before;
      after = u.after;
      split = u.at.split;
      low = omega (arith, u.at.place_is);
      high = omega (arith, u.at.place_is, u.at.within);
    }

pub whole_after : Lower → (sent : List (List ℕ)) (gone lost : ℕ) (x : List ℕ) (before : List (List ℕ)) (f : List ℕ) → lost < BROKEN_LOSSES
    → IsSegment sent gone x → ((s : List (List ℕ)) → IsOpen before s → IsRecent sent gone lost s) → IsWhole (x ∷ before) f → IsWholeAt sent gone f
whole_after low sent gone lost x before f few i recent w =
    elim (low.completes before x f w) [
      | Alone first ended e ↦ whole_up_to low sent gone x [] f (up_to_first low sent gone x i first) ended e
      | Ends s opened follows ended e ↦
          whole_up_to low sent gone x s f (up_to_next low sent gone lost x s few i (recent s opened) follows) ended e
    ]
