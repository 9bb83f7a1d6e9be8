-- What the pushed strings determine: one series at most is open, and a push completes a fragment, ends a series or
-- leaves one open, and never two of these.
use Rattle.std.proofs.Common.{◌≡◌, ℕ, ◌+◌, ◌%◌, ◌<◌, ◌≤◌, true, false, not, ◌&&◌, ◌⊎◌, inl, inr, List, [], ◌∷◌, ◌++◌, length, refl, sym, ap, ◌∙◌, subst, arith, length-append}
use Rattle.std.proofs.lemmas.Bool.{cases_Bool, both_ways, cond-true, cond-false, or_left, or_parts, or_from, or_cases, and_left, not_from_true}
use Rattle.std.proofs.lemmas.List.{append-nil}
use Rattle.std.specs.Str.{bytes_eq}
use Rattle.dnp_transport.specs.Segments.{is_first, is_last, number, carried, has_no_size}
use Rattle.dnp_transport.specs.Series.{repeats, is_left_out, kept, Follows, IsSeries, newest, joined, IsOpen, IsWhole, IsDropped}
use Rattle.dnp_transport.specs.declared.limits.TheConstants.{MAX_FRAGMENT, SEGMENT_NUMBERS}

-- a string that is left out changes nothing
pub kept_left_out : (s : List ℕ) (r : List (List ℕ)) → is_left_out (kept r) s ≡ true → kept (s ∷ r) ≡ kept r
kept_left_out s r h = cond-true (is_left_out (kept r) s) (kept r) (s ∷ kept r) h

-- another one is kept
pub kept_stays : (s : List ℕ) (r : List (List ℕ)) → is_left_out (kept r) s ≡ false → kept (s ∷ r) ≡ s ∷ kept r
kept_stays s r h = cond-false (is_left_out (kept r) s) (kept r) (s ∷ kept r) h

-- what stays is of a segment's size
pub stays_sized : (k : List (List ℕ)) (s : List ℕ) → is_left_out k s ≡ false → has_no_size s ≡ false
stays_sized k s h = (or_parts (has_no_size s) (repeats k s) h).0

-- with no segment before it a string is left out for its size alone
left_out_nil : (s : List ℕ) → is_left_out [] s ≡ true → has_no_size s ≡ true
left_out_nil s h = elim (or_cases (has_no_size s) false h) [ inl p ↦ p | inr p ↦ absurd (both_ways false refl p) ]

-- a first segment is no repeat
pub first_stays : (k : List (List ℕ)) (s : List ℕ) → is_first s ≡ true → has_no_size s ≡ false → is_left_out k s ≡ false
first_stays [] s h n = or_from (has_no_size s) false n refl
first_stays (last ∷ k) s h n =
    or_from (has_no_size s) (not (is_first s) && bytes_eq s last) n
    (and_left (not (is_first s)) (bytes_eq s last) (not_from_true (is_first s) h))

-- older segments don't change what is left out
left_out_append : (a b : List (List ℕ)) (s : List ℕ) → IsSeries a → is_left_out (a ++ b) s ≡ is_left_out a s
left_out_append [] b s h = absurd h
left_out_append (x ∷ a) b s h = refl

-- a series goes on from a series, or begins
pub series_front : (s : List ℕ) (k : List (List ℕ)) → IsSeries (s ∷ k) → ((k ≡ []) × (is_first s ≡ true)) ⊎ (Follows (newest k) s × IsSeries k)
series_front s [] h = inl (refl, h)
series_front s (l ∷ k) h = inr (h.0, h.1)

-- strings of which nothing is kept change nothing
kept_nil_append : (r m : List (List ℕ)) → kept r ≡ [] → kept (r ++ m) ≡ kept m
kept_nil_append [] m e = refl
kept_nil_append (s ∷ r) m e =
    elim (cases_Bool (is_left_out (kept r) s)) [
      | inl out ↦
          let nil : kept r ≡ [] = sym (kept_left_out s r out) ∙ e in
          let unsized : has_no_size s ≡ true = left_out_nil s (subst (λ (k : List (List ℕ)). is_left_out k s ≡ true) nil out) in
          kept_left_out s (r ++ m) (or_left (has_no_size s) (repeats (kept (r ++ m)) s) unsized) ∙ kept_nil_append r m nil
      | inr stays ↦
          let some : s ∷ kept r ≡ [] = sym (kept_stays s r stays) ∙ e in
          absurd (cc)
    ]

-- what is kept of the newest strings is a series: then older strings only add to it
kept_append : (r m : List (List ℕ)) → IsSeries (kept r) → kept (r ++ m) ≡ kept r ++ kept m
kept_append [] m h = absurd h
kept_append (s ∷ r) m h =
    elim (cases_Bool (is_left_out (kept r) s)) [
      | inl out ↦
          let k : kept (s ∷ r) ≡ kept r = kept_left_out s r out in
          let series : IsSeries (kept r) = subst (λ (l : List (List ℕ)). IsSeries l) k h in
          let ih : kept (r ++ m) ≡ kept r ++ kept m = kept_append r m series in
          let out' : is_left_out (kept (r ++ m)) s ≡ true =
          ap (λ (l : List (List ℕ)). is_left_out l s) ih ∙ left_out_append (kept r) (kept m) s series ∙ out in
          kept_left_out s (r ++ m) out' ∙ ih ∙ ap (λ (l : List (List ℕ)). l ++ kept m) (sym k)
      | inr stays ↦
          let k : kept (s ∷ r) ≡ s ∷ kept r = kept_stays s r stays in
          elim (series_front s (kept r) (subst (λ (l : List (List ℕ)). IsSeries l) k h)) [
            | inl front ↦
                let stays' : is_left_out (kept (r ++ m)) s ≡ false =
                first_stays (kept (r ++ m)) s front.1 (stays_sized (kept r) s stays) in
                let l : kept (s ∷ r) ≡ s ∷ [] = k ∙ ap (λ (l : List (List ℕ)). s ∷ l) front.0 in
                kept_stays s (r ++ m) stays' ∙ ap (λ (l : List (List ℕ)). s ∷ l) (kept_nil_append r m front.0)
                ∙ ap (λ (l : List (List ℕ)). l ++ kept m) (sym l)
            | inr back ↦
                let ih : kept (r ++ m) ≡ kept r ++ kept m = kept_append r m back.1 in
                let stays' : is_left_out (kept (r ++ m)) s ≡ false =
                ap (λ (l : List (List ℕ)). is_left_out l s) ih ∙ left_out_append (kept r) (kept m) s back.1 ∙ stays in
                kept_stays s (r ++ m) stays' ∙ ap (λ (l : List (List ℕ)). s ∷ l) ih
                ∙ ap (λ (l : List (List ℕ)). l ++ kept m) (sym k)
          ]
    ]

-- a series has one first segment, so it is no part of a longer one
series_append : (a b : List (List ℕ)) → IsSeries a → IsSeries (a ++ b) → b ≡ []
series_append [] b h k = absurd h
series_append (s ∷ []) [] h k = refl
series_append (s ∷ []) (x ∷ b) h k = absurd (both_ways (is_first s) k.0.no_first h)
series_append (s ∷ l ∷ a) b h k = series_append (l ∷ a) b h.1 k.1

-- two ways to split a list
split_two : (a b c d : List (List ℕ)) → a ++ b ≡ c ++ d → ((m : List (List ℕ)) × (c ≡ a ++ m)) ⊎ ((m : List (List ℕ)) × (a ≡ c ++ m))
split_two [] b c d e = inl (c, refl)
split_two (x ∷ a) b [] d e = inr (x ∷ a, refl)
split_two (x ∷ a) b (y ∷ c) d e =
    let heads : x ≡ y = cc in
    let tails : a ++ b ≡ c ++ d = cc in
    elim (split_two a b c d tails) [
      | inl p ↦ let q : c ≡ a ++ p.0 = p.1 in inl (p.0, cc)
      | inr p ↦ let q : a ≡ c ++ p.0 = p.1 in inr (p.0, cc)
    ]

-- what is kept of the newest pushes is this series
pub record Began (pushed series : List (List ℕ)) : Type 0 where
  pub recent : List (List ℕ)
  pub older : List (List ℕ)
  pub split : pushed ≡ recent ++ older
  pub kept_are : kept recent ≡ series
  pub in_series : IsSeries series

began_onto : (a b m : List (List ℕ)) → b ≡ a ++ m → IsSeries (kept a) → IsSeries (kept b) → kept a ≡ kept b
began_onto a b m e h k =
    let longer : kept b ≡ kept a ++ kept m = ap (λ (l : List (List ℕ)). kept l) e ∙ kept_append a m h in
    let nil : kept m ≡ [] = series_append (kept a) (kept m) h (subst (λ (l : List (List ℕ)). IsSeries l) longer k) in
    sym (longer ∙ ap (λ (l : List (List ℕ)). kept a ++ l) nil ∙ append-nil (kept a))

-- the pushes determine the series
began_one : (pushed s t : List (List ℕ)) → Began pushed s → Began pushed t → s ≡ t
began_one pushed s t b c =
    let hb : IsSeries (kept b.recent) = subst (λ (l : List (List ℕ)). IsSeries l) (sym b.kept_are) b.in_series in
    let hc : IsSeries (kept c.recent) = subst (λ (l : List (List ℕ)). IsSeries l) (sym c.kept_are) c.in_series in
    let same : kept b.recent ≡ kept c.recent =
    elim (split_two b.recent b.older c.recent c.older (sym b.split ∙ c.split)) [
      | inl p ↦ began_onto b.recent c.recent p.0 p.1 hb hc
      | inr p ↦ sym (began_onto c.recent b.recent p.0 p.1 hc hb)
    ] in
    sym b.kept_are ∙ same ∙ c.kept_are

open_began : (pushed s : List (List ℕ)) → IsOpen pushed s → Began pushed s
open_began pushed s o =
    record { recent = o.recent; older = o.older; split = o.split; kept_are = o.kept_are; in_series = o.in_series }

whole_began : (pushed : List (List ℕ)) (f : List ℕ) (w : IsWhole pushed f) → Began pushed (w.segment ∷ kept w.recent)
whole_began pushed f w =
    record {
      recent = w.segment ∷ w.recent;
      older = w.older;
      split = w.split;
      kept_are = kept_stays w.segment w.recent w.stays;
      in_series = w.in_series;
    }

-- at most one series is open
pub one_open : (pushed s t : List (List ℕ)) → IsOpen pushed s → IsOpen pushed t → s ≡ t
one_open pushed s t o p = began_one pushed s t (open_began pushed s o) (open_began pushed t p)

-- the pushes determine the fragment
pub one_whole : (pushed : List (List ℕ)) (f g : List ℕ) → IsWhole pushed f → IsWhole pushed g → f ≡ g
one_whole pushed f g w v =
    let e : w.segment ∷ kept w.recent ≡ v.segment ∷ kept v.recent =
    began_one pushed (w.segment ∷ kept w.recent) (v.segment ∷ kept v.recent) (whole_began pushed f w) (whole_began pushed g v) in
    sym w.joined_is ∙ ap (λ (l : List (List ℕ)). joined l) e ∙ v.joined_is

-- no series is open after a push that completes a fragment
pub open_not_whole : (pushed s : List (List ℕ)) (f : List ℕ) → IsOpen pushed s → IsWhole pushed f → ⊥
open_not_whole pushed s f o w =
    let e : s ≡ w.segment ∷ kept w.recent =
    began_one pushed s (w.segment ∷ kept w.recent) (open_began pushed s o) (whole_began pushed f w) in
    both_ways (is_last w.segment) (sym (ap (λ (l : List (List ℕ)). is_last (newest l)) e) ∙ o.unended) w.ended

-- the segment goes on with the series that was open before it
pub record Continues (before : List (List ℕ)) (s : List ℕ) : Type 0 where
  pub series : List (List ℕ)
  pub opened : IsOpen before series
  pub stays : is_left_out series s ≡ false
  pub follows : Follows (newest series) s
  pub fits : length (joined (s ∷ series)) ≤ MAX_FRAGMENT

-- the newest segment of a series begins it or goes on with it
pub begins_or_goes_on : (before r older : List (List ℕ)) (s : List ℕ) → before ≡ r ++ older → is_left_out (kept r) s ≡ false → IsSeries (s ∷ kept r)
    → length (joined (s ∷ kept r)) ≤ MAX_FRAGMENT → ((is_first s ≡ true) × (has_no_size s ≡ false)) ⊎ Continues before s
begins_or_goes_on before r older s e stays h fits =
    elim (series_front s (kept r) h) [
      | inl front ↦ inl (front.1, stays_sized (kept r) s stays)
      | inr back ↦
          let shorter : length (joined (kept r)) ≤ MAX_FRAGMENT = omega (arith, length-append (joined (kept r)) (carried s)) in
          inr record {
            series = kept r;
            opened = record { recent = r; older = older; split = e; kept_are = refl; in_series = back.1; unended = back.0.unended; fits = shorter };
            stays = stays;
            follows = back.0;
            fits = fits;
          }
    ]

-- where a push completes a fragment
pub whole_back : (before : List (List ℕ)) (s f : List ℕ) → IsWhole (s ∷ before) f
    → ((is_first s ≡ true) × (has_no_size s ≡ false)) ⊎ Continues before s
whole_back before s f w =
    let split : s ∷ before ≡ w.segment ∷ (w.recent ++ w.older) = w.split in
    let heads : w.segment ≡ s = cc in
    let tails : before ≡ w.recent ++ w.older = cc in
    let fits : length (joined (w.segment ∷ kept w.recent)) ≤ MAX_FRAGMENT = omega (arith, ap length w.joined_is, w.fits) in
    begins_or_goes_on before w.recent w.older s tails
    (subst (λ (x : List ℕ). is_left_out (kept w.recent) x ≡ false) heads w.stays)
    (subst (λ (x : List ℕ). IsSeries (x ∷ kept w.recent)) heads w.in_series)
    (subst (λ (x : List ℕ). length (joined (x ∷ kept w.recent)) ≤ MAX_FRAGMENT) heads fits)

open_back_at : (before t r older : List (List ℕ)) (s : List ℕ) → s ∷ before ≡ r ++ older → kept r ≡ t → IsSeries t → is_last (newest t) ≡ false
    → length (joined t) ≤ MAX_FRAGMENT → ((is_left_out t s ≡ true) × IsOpen before t) ⊎ (((is_first s ≡ true) × (has_no_size s ≡ false)) ⊎ Continues before s)
open_back_at before t [] older s e k h u f = absurd (subst (λ (l : List (List ℕ)). IsSeries l) (sym k) h)
open_back_at before t (x ∷ r) older s e k h u f =
    let heads : x ≡ s = cc in
    let tails : before ≡ r ++ older = cc in
    let k' : kept (s ∷ r) ≡ t = subst (λ (y : List ℕ). kept (y ∷ r) ≡ t) heads k in
    elim (cases_Bool (is_left_out (kept r) s)) [
      | inl out ↦
          let same : kept r ≡ t = sym (kept_left_out s r out) ∙ k' in
          inl (
            subst (λ (l : List (List ℕ)). is_left_out l s ≡ true) same out,
            record { recent = r; older = older; split = tails; kept_are = same; in_series = h; unended = u; fits = f },
          )
      | inr stays ↦
          let same : t ≡ s ∷ kept r = sym k' ∙ kept_stays s r stays in
          inr
          (begins_or_goes_on before r older s tails stays
          (subst (λ (l : List (List ℕ)). IsSeries l) same h)
          (subst (λ (l : List (List ℕ)). length (joined l) ≤ MAX_FRAGMENT) same f))
    ]

-- where a series is open after a push
pub open_back : (before t : List (List ℕ)) (s : List ℕ) → IsOpen (s ∷ before) t
    → ((is_left_out t s ≡ true) × IsOpen before t) ⊎ (((is_first s ≡ true) × (has_no_size s ≡ false)) ⊎ Continues before s)
open_back before t s o = open_back_at before t o.recent o.older s o.split o.kept_are o.in_series o.unended o.fits

-- a push that ends a series does not continue it
dropped_not_continues : (before series : List (List ℕ)) (s : List ℕ) → IsOpen before series
    → (number s ≡ (number (newest series) + 1) % SEGMENT_NUMBERS → MAX_FRAGMENT < length (joined (s ∷ series))) → Continues before s → ⊥
dropped_not_continues before series s o unfit c =
    let same : c.series ≡ series = one_open before c.series series c.opened o in
    let turn : number s ≡ (number (newest series) + 1) % SEGMENT_NUMBERS =
    subst (λ (l : List (List ℕ)). number s ≡ (number (newest l) + 1) % SEGMENT_NUMBERS) same c.follows.in_turn in
    let fits : length (joined (s ∷ series)) ≤ MAX_FRAGMENT = subst (λ (l : List (List ℕ)). length (joined (s ∷ l)) ≤ MAX_FRAGMENT) same c.fits in
    let long : MAX_FRAGMENT < length (joined (s ∷ series)) = unfit turn in
    omega arith

-- the parts of `IsDropped` at a longer list
pub record Drops (before : List (List ℕ)) (s : List ℕ) : Type 0 where
  pub series : List (List ℕ)
  pub opened : IsOpen before series
  pub stays : is_left_out series s ≡ false
  pub no_first : is_first s ≡ false
  pub unfit : number s ≡ (number (newest series) + 1) % SEGMENT_NUMBERS → MAX_FRAGMENT < length (joined (s ∷ series))

pub drops : (before : List (List ℕ)) (s : List ℕ) → IsDropped (s ∷ before) → Drops before s
drops before s d =
    let split : s ∷ before ≡ d.segment ∷ d.before = d.split in
    let heads : d.segment ≡ s = cc in
    let tails : d.before ≡ before = cc in
    record {
      series = d.series;
      opened = subst (λ (l : List (List ℕ)). IsOpen l d.series) tails d.opened;
      stays = subst (λ (x : List ℕ). is_left_out d.series x ≡ false) heads d.stays;
      no_first = subst (λ (x : List ℕ). is_first x ≡ false) heads d.no_first;
      unfit =
          subst
          (λ (x : List ℕ). number x ≡ (number (newest d.series) + 1) % SEGMENT_NUMBERS → MAX_FRAGMENT < length (joined (x ∷ d.series)))
          heads d.unfit;
    }

-- no series is open after a push that ended one
pub dropped_not_open : (pushed t : List (List ℕ)) → IsDropped pushed → IsOpen pushed t → ⊥
dropped_not_open [] t d o = let e : [] ≡ d.segment ∷ d.before = d.split in cc
dropped_not_open (s ∷ before) t d o =
    let p : Drops before s = drops before s d in
    elim (open_back before t s o) [
      | inl out ↦
          let same : t ≡ p.series = one_open before t p.series out.1 p.opened in
          both_ways (is_left_out p.series s) p.stays
          (subst (λ (l : List (List ℕ)). is_left_out l s ≡ true) same out.0)
      | inr start ↦
          elim start [
            | inl first ↦ both_ways (is_first s) p.no_first first.0
            | inr more ↦ dropped_not_continues before p.series s p.opened p.unfit more
          ]
    ]

-- a push that ends a series completes no fragment
pub whole_not_dropped : (pushed : List (List ℕ)) (f : List ℕ) → IsWhole pushed f → IsDropped pushed → ⊥
whole_not_dropped [] f w d = let e : [] ≡ d.segment ∷ d.before = d.split in cc
whole_not_dropped (s ∷ before) f w d =
    let p : Drops before s = drops before s d in
    elim (whole_back before s f w) [
      | inl first ↦ both_ways (is_first s) p.no_first first.0
      | inr more ↦ dropped_not_continues before p.series s p.opened p.unfit more
    ]
