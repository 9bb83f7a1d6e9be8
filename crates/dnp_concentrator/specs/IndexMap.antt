-- Definition: the index map between substations and the station above them: a substation's index of a kind stands
-- above as its base of that kind plus the index, and no index above is of two substations.
use Rattle.std.specs.Prelude.{◌≡◌, ℕ, suc, ◌+◌, ◌-◌, ◌<◌, ◌≤◌, Bool, true, ◌&&◌, nat_lt, nat_le, if◌then◌else◌, List, [], ◌∷◌, length, Option, Some, None, All, Any, slice_index_or}
use Rattle.std.specs.Option.{option_map}
use Rattle.std.specs.List.{HoldsAt}
use Rattle.dnp_pointdb.specs.declared.limits.TheConstants.{INDICES}
use Rattle.dnp_concentrator.specs.declared.index_kind.IndexKind.{IndexKind}
use Rattle.dnp_concentrator.specs.declared.index_kind.IndexKind.TheVariants.{Binary, Counter, Analog, Output, Setpoint}
use Rattle.dnp_concentrator.specs.declared.span.Span.{Span}
use Rattle.dnp_concentrator.specs.declared.span.Spans.{Spans}

-- ---- where a substation's indices stand above

abbrev pub span_of : Spans → IndexKind → Span
span_of spans Binary = spans.binary
span_of spans Counter = spans.counter
span_of spans Analog = spans.analog
span_of spans Output = spans.output
span_of spans Setpoint = spans.setpoint

abbrev pub is_in : Span → ℕ → Bool
is_in span index = nat_le span.base index && nat_lt index (span.base + span.count)

-- a number that is no substation's has no index
abbrev pub no_span : Span
no_span = record { base = 0; count = 0 }

abbrev pub no_spans : Spans
no_spans = record { binary = no_span; counter = no_span; analog = no_span; output = no_span; setpoint = no_span }

-- those of the substation with this number
abbrev pub span_at : List Spans → ℕ → IndexKind → Span
span_at spans substation kind = span_of (slice_index_or spans substation no_spans) kind

-- ---- both directions

-- the substation has this index
abbrev pub HasIndex : List Spans → ℕ → IndexKind → ℕ → Type 0
HasIndex spans substation kind index = index < (span_at spans substation kind).count

-- an index of a substation whose indices stand so, as it stands above, if the substation has it
abbrev pub above_in : Spans → IndexKind → ℕ → Option ℕ
above_in spans kind index = (if nat_lt index (span_of spans kind).count then Some ((span_of spans kind).base + index) else None)

-- a substation's index as it stands above, if the substation has it
abbrev pub index_above : List Spans → ℕ → IndexKind → ℕ → Option ℕ
index_above spans substation kind index = above_in (slice_index_or spans substation no_spans) kind index

-- the same of the next substation
abbrev pub one_on : ℕ × ℕ → ℕ × ℕ
one_on p = (suc p.0, p.1)

-- whose index an index above is, and which one there, if it is somebody's
abbrev pub index_below : List Spans → IndexKind → ℕ → Option (ℕ × ℕ)
index_below [] kind index = None
index_below (spans ∷ more) kind index =
    (if is_in (span_of spans kind) index
    then Some (0, index - (span_of spans kind).base)
    else option_map one_on (index_below more kind index))

-- ---- what is a map

-- no index above is of two substations
abbrev pub IsApart : IndexKind → List Spans → Type 0
IsApart kind spans =
    (a b index : ℕ) → is_in (span_at spans a kind) index ≡ true → is_in (span_at spans b kind) index ≡ true → a ≡ b

-- indices end at 65,535
abbrev pub IsWide : IndexKind → Spans → Type 0
IsWide kind spans = INDICES < (span_of spans kind).base + (span_of spans kind).count

-- for each kind
pub record IsMap (spans : List Spans) : Type 0 where
  pub narrow : (kind : IndexKind) → All (λ s. (span_of s kind).base + (span_of s kind).count ≤ INDICES) spans
  pub apart : (kind : IndexKind) → IsApart kind spans

-- ---- causes to refuse a map

-- an index of some kind would be over 65,535
abbrev pub IsTooWide : List Spans → Type 0
IsTooWide spans = (kind : IndexKind) × Any (IsWide kind) spans

-- this index is in both
pub record Meet (one other : Span) : Type 0 where
  pub index : ℕ
  pub in_one : is_in one index ≡ true
  pub in_other : is_in other index ≡ true

-- two substations would have this index of this kind in common
pub record ShareIndex (kind : IndexKind) (spans : List Spans) : Type 0 where
  pub first : ℕ
  pub second : ℕ
  pub index : ℕ
  pub in_order : first < second
  pub in_list : second < length spans
  pub of_first : HoldsAt (λ s. is_in (span_of s kind) index ≡ true) spans first
  pub of_second : HoldsAt (λ s. is_in (span_of s kind) index ≡ true) spans second

abbrev pub Overlaps : List Spans → Type 0
Overlaps spans = (kind : IndexKind) × ShareIndex kind spans
