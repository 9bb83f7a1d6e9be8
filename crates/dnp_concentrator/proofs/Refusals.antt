-- Why a plan has no index map, by what its substations have.
use Rattle.std.proofs.Common.{◌≡◌, ℕ, zero, suc, ◌+◌, ◌-◌, ◌<◌, ◌≤◌, ◌↔◌, Bool, true, List, [], ◌∷◌, length, map, get_or, drop, take, refl, sym, ◌∙◌, ap, subst, arith, inl, inr}
use Rattle.std.specs.Prelude.{IsTrue}
use Rattle.std.specs.List.{Any}
use Rattle.std.proofs.lemmas.Bool.{cases_lt, cases_order}
use Rattle.std.proofs.lemmas.Bool.Decides.{nat_tests}
use Rattle.std.proofs.lemmas.List.{get_or-drop, get_or-map, get_or_default, get_or_past, length-drop, length-map, take_all}
use Rattle.dnp_pointdb.specs.declared.limits.TheConstants.{INDICES}
use Rattle.dnp_concentrator.specs.declared.index_kind.IndexKind.{IndexKind}
use Rattle.dnp_concentrator.specs.declared.index_kind.IndexKind.TheVariants.{Binary, Counter, Analog, Output, Setpoint}
use Rattle.dnp_concentrator.specs.declared.plan.SubPlan.{SubPlan}
use Rattle.dnp_concentrator.specs.declared.span.Span.{Span}
use Rattle.dnp_concentrator.specs.declared.span.Spans.{Spans}
use Rattle.dnp_concentrator.specs.IndexMap.{IsMap, IsTooWide, Meet, Overlaps, ShareIndex, is_in, no_span, no_spans, span_at, span_of}
use Rattle.dnp_concentrator.specs.Plan.{spans_of}

abbrev pub kinds : List IndexKind
kinds = Binary ∷ Counter ∷ Analog ∷ Output ∷ Setpoint ∷ []

-- a kind of which something is so is one of the list
pub any_kind : (P : IndexKind → Type 0) (found : Bool) (all : List IndexKind) → all ≡ kinds → (IsTrue found ↔ Any P all)
    → IsTrue found ↔ ((kind : IndexKind) × P kind)
any_kind P found all same is =
    (λ h. let of = is.0 h in (of.1, of.4), λ h. is.1 (subst (λ (ks : List IndexKind). Any P ks) (sym same) (listed h.0 h.1)))
  where
    listed : (kind : IndexKind) → P kind → Any P kinds
    listed Binary p = (0, Binary, omega arith, refl, p)
    listed Counter p = (1, Counter, omega arith, refl, p)
    listed Analog p = (2, Analog, omega arith, refl, p)
    listed Output p = (3, Output, omega arith, refl, p)
    listed Setpoint p = (4, Setpoint, omega arith, refl, p)

-- ---- one cause in a substation is one in the list of where its indices stand

pub any_mapped : (P : Spans → Type 0) (subs : List SubPlan) → Any (λ s. P (spans_of s)) subs → Any P (map spans_of subs)
any_mapped P subs found = (
  found.0,
  spans_of found.1,
  omega (arith, found.2, length-map subs spans_of),
  get_or-map spans_of subs found.0 found.1 (spans_of found.1) found.2 ∙ ap spans_of found.3,
  found.4,
)

pub mapped_any : (P : Spans → Type 0) (subs : List SubPlan) → Any P (map spans_of subs) → Any (λ s. P (spans_of s)) subs
mapped_any P [] found = absurd (omega (arith, found.2))
mapped_any P (s ∷ subs) (zero, x, lt, at, p) = (0, s, omega arith, refl, subst P (sym at) p)
mapped_any P (s ∷ subs) (suc i, x, lt, at, p) =
    let later : Any (λ s. P (spans_of s)) subs = mapped_any P subs (i, x, omega arith, at, p) in
    (suc later.0, later.1, omega (arith, later.2), later.3, later.4)

-- ---- shared indices

-- the substations from a number on, as a slice takes them
pub rest_is : (subs : List SubPlan) (n : ℕ) → take (length subs - n) (drop n subs) ≡ drop n subs
rest_is subs n = take_all (length subs - n) (drop n subs) (omega (arith, length-drop n subs))

-- no substation before this number has an index of the kind above in common with a later one
abbrev pub NoneBefore : IndexKind → List SubPlan → ℕ → Type 0
NoneBefore kind subs n =
    (i j index : ℕ) (d : Spans) → i < n → i < j → j < length subs
    → is_in (span_of (get_or (map spans_of subs) i d) kind) index ≡ true → is_in (span_of (get_or (map spans_of subs) j d) kind) index ≡ true → ⊥

-- one of the substations has an index of the kind above in common with the span
abbrev pub IsMet : IndexKind → Span → List SubPlan → Type 0
IsMet kind one subs = Any (λ s. Meet one (span_of (spans_of s) kind)) subs

pub met_shares : (kind : IndexKind) (subs : List SubPlan) (n : ℕ) (s : SubPlan) (one : Span) → n < length subs → s ≡ get_or subs n s
    → one ≡ span_of (spans_of s) kind → IsMet kind one (drop (n + 1) subs) → ShareIndex kind (map spans_of subs)
met_shares kind subs n s one lt is one_is met =
    let as_many : length (map spans_of subs) ≡ length subs = length-map subs spans_of in
    let rest : length (drop (n + 1) subs) ≡ length subs - (n + 1) = length-drop (n + 1) subs in
    let inside : (n + 1) + met.0 < length subs = omega (arith, met.2) in
    let first : (e : Spans) → get_or (map spans_of subs) n e ≡ spans_of s = λ e. get_or-map spans_of subs n s e lt ∙ ap spans_of (sym is) in
    let second : (e : Spans) → get_or (map spans_of subs) ((n + 1) + met.0) e ≡ spans_of met.1 =
    λ e. get_or-map spans_of subs ((n + 1) + met.0) met.1 e inside ∙ ap spans_of (sym (get_or-drop (n + 1) subs met.0 met.1) ∙ met.3) in
    record {
      first = n;
      second = (n + 1) + met.0;
      index = met.4.index;
      in_order = omega arith;
      in_list = omega arith;
      of_first = λ e. subst (λ (x : Spans). is_in (span_of x kind) met.4.index ≡ true) (sym (first e))
          (subst (λ (x : Span). is_in x met.4.index ≡ true) one_is met.4.in_one);
      of_second = λ e. subst (λ (x : Spans). is_in (span_of x kind) met.4.index ≡ true) (sym (second e)) met.4.in_other;
    }

pub none_before_more : (kind : IndexKind) (subs : List SubPlan) (n : ℕ) (s : SubPlan) (one : Span) → NoneBefore kind subs n → n < length subs
    → s ≡ get_or subs n s → one ≡ span_of (spans_of s) kind → (IsMet kind one (drop (n + 1) subs) → ⊥) → NoneBefore kind subs (n + 1)
none_before_more kind subs n s one before lt is one_is none i j index d low later inside of_i of_j =
    elim (cases_lt i n) [
      | inl earlier ↦ before i j index d earlier later inside of_i of_j
      | inr past ↦
          let same : i ≡ n = omega arith in
          let k : ℕ = j - (n + 1) in
          let place : (n + 1) + k ≡ j = omega arith in
          let x : SubPlan = get_or subs j s in
          let rest : length (drop (n + 1) subs) ≡ length subs - (n + 1) = length-drop (n + 1) subs in
          let at : get_or (drop (n + 1) subs) k x ≡ x =
          get_or-drop (n + 1) subs k x ∙ ap (λ (m : ℕ). get_or subs m x) place ∙ get_or_default subs j x s inside in
          let first : get_or (map spans_of subs) i d ≡ spans_of s =
          ap (λ (m : ℕ). get_or (map spans_of subs) m d) same ∙ get_or-map spans_of subs n s d lt ∙ ap spans_of (sym is) in
          let second : get_or (map spans_of subs) j d ≡ spans_of x = get_or-map spans_of subs j s d inside in
          none (
            k,
            x,
            omega arith,
            at,
            record {
              index = index;
              in_one = subst (λ (y : Span). is_in y index ≡ true) (sym one_is) (subst (λ (y : Spans). is_in (span_of y kind) index ≡ true) first of_i);
              in_other = subst (λ (y : Spans). is_in (span_of y kind) index ≡ true) second of_j;
            },
          )
    ]

pub none_shared : (kind : IndexKind) (subs : List SubPlan) (n : ℕ) → NoneBefore kind subs n → length subs ≤ n
    → ShareIndex kind (map spans_of subs) → ⊥
none_shared kind subs n before all shared =
    let as_many : length (map spans_of subs) ≡ length subs = length-map subs spans_of in
    before shared.first shared.second shared.index no_spans (omega (arith, shared.in_order, shared.in_list)) shared.in_order (omega (arith, shared.in_list))
    (shared.of_first no_spans) (shared.of_second no_spans)

-- ---- what is left is a map

in_list : (spans : List Spans) (substation : ℕ) (kind : IndexKind) (index : ℕ) → is_in (span_at spans substation kind) index ≡ true → substation < length spans
in_list spans substation kind index has =
    elim (cases_lt substation (length spans)) [
      | inl low ↦ low
      | inr past ↦
          let nobody : is_in (span_of no_spans kind) index ≡ true =
          subst (λ (s : Spans). is_in (span_of s kind) index ≡ true) (get_or_past spans substation no_spans past) has in
          absurd (none_in kind index nobody)
    ]
  where
    none : (index : ℕ) → is_in no_span index ≡ true → ⊥
    none index h = grind (arith, nat_tests)

    none_in : (kind : IndexKind) (index : ℕ) → is_in (span_of no_spans kind) index ≡ true → ⊥
    none_in Binary index h = none index h
    none_in Counter index h = none index h
    none_in Analog index h = none index h
    none_in Output index h = none index h
    none_in Setpoint index h = none index h

one_station : (kind : IndexKind) (spans : List Spans) → (ShareIndex kind spans → ⊥) → (a b index : ℕ) → a < b
    → is_in (span_at spans a kind) index ≡ true → is_in (span_at spans b kind) index ≡ true → ⊥
one_station kind spans none a b index lt of_a of_b =
    let inside : b < length spans = in_list spans b kind index of_b in
    let inside_a : a < length spans = omega arith in
    none (record {
      first = a;
      second = b;
      index = index;
      in_order = lt;
      in_list = inside;
      of_first = λ e. subst (λ (s : Spans). is_in (span_of s kind) index ≡ true) (get_or_default spans a no_spans e inside_a) of_a;
      of_second = λ e. subst (λ (s : Spans). is_in (span_of s kind) index ≡ true) (get_or_default spans b no_spans e inside) of_b;
    })

pub is_map : (spans : List Spans) → (IsTooWide spans → ⊥) → (Overlaps spans → ⊥) → IsMap spans
is_map spans not_wide no_overlap = record {
  narrow = λ kind i d lt. elim (cases_lt INDICES ((span_of (get_or spans i d) kind).base + (span_of (get_or spans i d) kind).count)) [
    | inl wide ↦ absurd (not_wide (kind, (i, get_or spans i d, lt, sym (get_or_default spans i d (get_or spans i d) lt), wide)))
    | inr narrow ↦ narrow
  ];
  apart = λ kind a b index of_a of_b. elim (cases_order a b) [
    | inl same ↦ same
    | inr (inl lt) ↦ absurd (one_station kind spans (λ shared. no_overlap (kind, shared)) a b index lt of_a of_b)
    | inr (inr gt) ↦ absurd (one_station kind spans (λ shared. no_overlap (kind, shared)) b a index gt of_b of_a)
  ];
}
