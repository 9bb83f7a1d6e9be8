-- The index map: what stands above is undone to what stood below, and back.
use Rattle.std.proofs.Common.{rules, ◌≡◌, ℕ, zero, suc, ◌+◌, ◌-◌, ◌<◌, ◌≤◌, Bool, true, false, cond, List, [], ◌∷◌, length, Option, Some, None, refl, sym, ◌∙◌, ap, subst, arith, inl, inr}
use Rattle.std.specs.Prelude.{nat_lt, IfSome}
use Rattle.std.specs.Option.{option_map}
use Rattle.std.proofs.lemmas.Bool.{cases_lt}
use Rattle.std.proofs.lemmas.Bool.Decides.{nat_tests}
use Rattle.std.proofs.lemmas.List.{get_or_past}
use Rattle.dnp_pointdb.specs.declared.limits.TheConstants.{INDICES}
use Rattle.dnp_concentrator.specs.declared.index_kind.IndexKind.{IndexKind}
use Rattle.dnp_concentrator.specs.declared.index_kind.IndexKind.TheVariants.{Binary, Counter, Analog, Output, Setpoint}
use Rattle.dnp_concentrator.specs.declared.span.Span.{Span}
use Rattle.dnp_concentrator.specs.declared.span.Spans.{Spans}
use Rattle.dnp_concentrator.specs.IndexMap.{HasIndex, IsApart, IsMap, index_above, index_below, is_in, no_spans, one_on, span_at, span_of}

-- ---- one substation's

pub record StandsAt (span : Span) (index above : ℕ) : Type 0 where
  pub low : index < span.count
  pub at : span.base + index ≡ above

some_is : (a b : ℕ) → Some a ≡ Some b → a ≡ b
some_is a b e = grind (arith, e)

none_is_not : (b : ℕ) → None ≡ Some b → ⊥
none_is_not b e = grind (arith, e)

pub above_stands : (spans : List Spans) (substation : ℕ) (kind : IndexKind) (index above : ℕ) → index_above spans substation kind index ≡ Some above
    → StandsAt (span_at spans substation kind) index above
above_stands spans substation kind index above e = by (nat_lt index (span_at spans substation kind).count) refl e
  where
    by : (b : Bool) → nat_lt index (span_at spans substation kind).count ≡ b → cond b (Some ((span_at spans substation kind).base + index)) None ≡ Some above
        → StandsAt (span_at spans substation kind) index above
    by true low e = record { low = grind (arith, nat_tests); at = some_is ((span_at spans substation kind).base + index) above e }
    by false high e = absurd (none_is_not above e)

pub stands_above : (spans : List Spans) (substation : ℕ) (kind : IndexKind) (index : ℕ) → HasIndex spans substation kind index
    → index_above spans substation kind index ≡ Some ((span_at spans substation kind).base + index)
stands_above spans substation kind index low = by (nat_lt index (span_at spans substation kind).count) refl
  where
    by : (b : Bool) → nat_lt index (span_at spans substation kind).count ≡ b
        → cond b (Some ((span_at spans substation kind).base + index)) None ≡ Some ((span_at spans substation kind).base + index)
    by true is = refl
    by false is = absurd (grind (arith, nat_tests))

in_span : (span : Span) (index : ℕ) → index < span.count → is_in span (span.base + index) ≡ true
in_span span index low = grind (arith, nat_tests)

-- ---- up and down

apart_later : (kind : IndexKind) (s : Spans) (more : List Spans) → IsApart kind (s ∷ more) → IsApart kind more
apart_later kind s more apart a b index h k =
    let same : suc a ≡ suc b = apart (suc a) (suc b) index h k in
    omega (arith, same)

none_of : (kind : IndexKind) (index : ℕ) → index < (span_of no_spans kind).count → ⊥
none_of Binary index low = absurd (omega (arith, low))
none_of Counter index low = absurd (omega (arith, low))
none_of Analog index low = absurd (omega (arith, low))
none_of Output index low = absurd (omega (arith, low))
none_of Setpoint index low = absurd (omega (arith, low))

undone : (kind : IndexKind) (spans : List Spans) (substation index : ℕ) → IsApart kind spans → HasIndex spans substation kind index
    → index_below spans kind ((span_at spans substation kind).base + index) ≡ Some (substation, index)
undone kind [] substation index apart low = absurd (none_of kind index low)
undone kind (s ∷ more) zero index apart low =
    let span : Span = span_of s kind in
    let back : (span.base + index) - span.base ≡ index = omega arith in
    ap (λ (b : Bool). cond b (Some (zero, (span.base + index) - span.base)) (option_map one_on (index_below more kind (span.base + index))))
    (in_span span index low)
    ∙ ap (λ (n : ℕ). Some (zero, n)) back
undone kind (s ∷ more) (suc substation) index apart low =
    let span : Span = span_of s kind in
    let place : ℕ = (span_at more substation kind).base + index in
    let rest : index_below more kind place ≡ Some (substation, index) = undone kind more substation index (apart_later kind s more apart) low in
    ap (λ (b : Bool). cond b (Some (zero, place - span.base)) (option_map one_on (index_below more kind place))) (not_here (is_in span place) refl)
    ∙ ap (λ (o : Option (ℕ × ℕ)). option_map one_on o) rest
  where
    not_here : (b : Bool) → is_in (span_of s kind) ((span_at more substation kind).base + index) ≡ b → b ≡ false
    not_here true e =
        let same : zero ≡ suc substation =
        apart zero (suc substation) ((span_at more substation kind).base + index) e (in_span (span_at more substation kind) index low) in
        absurd (omega (arith, same))
    not_here false e = refl

pub up_and_down : (spans : List Spans) (kind : IndexKind) (substation index above : ℕ) → IsMap spans
    → index_above spans substation kind index ≡ Some above → index_below spans kind above ≡ Some (substation, index)
up_and_down spans kind substation index above m e =
    let stands : StandsAt (span_at spans substation kind) index above = above_stands spans substation kind index above e in
    ap (λ (n : ℕ). index_below spans kind n) (sym stands.at) ∙ undone kind spans substation index (m.apart kind) stands.low

-- ---- down and up

-- what a look-up below finds
pub below_stands : (spans : List Spans) (kind : IndexKind) (substation index above : ℕ) → index_below spans kind above ≡ Some (substation, index)
    → StandsAt (span_at spans substation kind) index above
below_stands [] kind substation index above e = absurd (grind (arith, e))
below_stands (s ∷ more) kind substation index above e = by (is_in (span_of s kind) above) refl e (below_stands more kind)
  where
    first : (substation index n : ℕ) → ◌≡◌ {A = Option (ℕ × ℕ)} (Some (zero, n)) (Some (substation, index)) → (zero ≡ substation) × (n ≡ index)
    first substation index n e = grind (arith, e)

    here : is_in (span_of s kind) above ≡ true → (substation index : ℕ) → zero ≡ substation → above - (span_of s kind).base ≡ index
        → StandsAt (span_at (s ∷ more) substation kind) index above
    here has substation index zero_is is =
        subst (λ (n : ℕ). StandsAt (span_at (s ∷ more) n kind) index above) zero_is
        (record { low = grind (arith, nat_tests); at = grind (arith, nat_tests) })

    later : (o : Option (ℕ × ℕ)) → index_below more kind above ≡ o → option_map one_on o ≡ Some (substation, index)
        → ((substation index above : ℕ) → index_below more kind above ≡ Some (substation, index) → StandsAt (span_at more substation kind) index above)
        → StandsAt (span_at (s ∷ more) substation kind) index above
    later None found e rest = absurd (grind (arith, e))
    later (Some p) found e rest =
        let number : suc p.0 ≡ substation = grind (arith, e) in
        let same : p.1 ≡ index = grind (arith, e) in
        subst (λ (n : ℕ). StandsAt (span_at (s ∷ more) n kind) index above) number
        (subst (λ (n : ℕ). StandsAt (span_at more p.0 kind) n above) same (rest p.0 p.1 above found))

    by : (b : Bool) → is_in (span_of s kind) above ≡ b
        → cond b (Some (zero, above - (span_of s kind).base)) (option_map one_on (index_below more kind above)) ≡ Some (substation, index)
        → ((substation index above : ℕ) → index_below more kind above ≡ Some (substation, index) → StandsAt (span_at more substation kind) index above)
        → StandsAt (span_at (s ∷ more) substation kind) index above
    by true has e rest =
        let parts : (zero ≡ substation) × (above - (span_of s kind).base ≡ index) = first substation index (above - (span_of s kind).base) e in
        here has substation index parts.0 parts.1
    by false lacks e rest = later (index_below more kind above) refl e rest

pub down_and_up : (spans : List Spans) (kind : IndexKind) (substation index above : ℕ)
    → index_below spans kind above ≡ Some (substation, index) → index_above spans substation kind index ≡ Some above
down_and_up spans kind substation index above e =
    let stands : StandsAt (span_at spans substation kind) index above = below_stands spans kind substation index above e in
    stands_above spans substation kind index stands.low ∙ ap (λ (n : ℕ). Some n) stands.at

-- ---- what follows

pub injective : (spans : List Spans) (kind : IndexKind) (a b i j above : ℕ) → IsMap spans
    → index_above spans a kind i ≡ Some above → index_above spans b kind j ≡ Some above → (a ≡ b) × (i ≡ j)
injective spans kind a b i j above m of_a of_b =
    let same : ◌≡◌ {A = Option (ℕ × ℕ)} (Some (a, i)) (Some (b, j)) =
    sym (up_and_down spans kind a i above m of_a) ∙ up_and_down spans kind b j above m of_b in
    grind (arith, same)

pub in_range : (spans : List Spans) (kind : IndexKind) (substation index above : ℕ) → IsMap spans
    → index_above spans substation kind index ≡ Some above → above < INDICES
in_range spans kind substation index above m e =
    let stands : StandsAt (span_at spans substation kind) index above = above_stands spans substation kind index above e in
    elim (cases_lt substation (length spans)) [
      | inl there ↦ omega (arith, m.narrow kind substation no_spans there, stands.low, stands.at)
      | inr past ↦
          let nobody : index < (span_of no_spans kind).count =
          subst (λ (s : Spans). index < (span_of s kind).count) (get_or_past spans substation no_spans past) stands.low in
          absurd (none_of kind index nobody)
    ]

-- what a look-up finds is of a substation
there_in : (spans : List Spans) (kind : IndexKind) (substation index above : ℕ) → StandsAt (span_at spans substation kind) index above
    → substation < length spans
there_in spans kind substation index above stands = elim (cases_lt substation (length spans)) [
  | inl low ↦ low
  | inr past ↦
      let nobody : index < (span_of no_spans kind).count =
      subst (λ (s : Spans). index < (span_of s kind).count) (get_or_past spans substation no_spans past) stands.low in
      absurd (none_of kind index nobody)
]

pub station_below : (spans : List Spans) (kind : IndexKind) (above : ℕ) (o : Option (ℕ × ℕ)) (most : ℕ) → index_below spans kind above ≡ o
    → length spans ≤ most → IfSome o (λ p. p.0 < most)
station_below spans kind above None most e few = search rules
station_below spans kind above (Some p) most e few =
    let there : p.0 < length spans = there_in spans kind p.0 p.1 above (below_stands spans kind p.0 p.1 above e) in
    let low : p.0 < most = omega arith in
    search rules
