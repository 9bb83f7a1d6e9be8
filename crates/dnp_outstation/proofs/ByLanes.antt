-- The event rows among items are those of all lanes, but for order.
use Rattle.std.proofs.Common.{◌≡◌, ◌⊎◌, inl, inr, Bool, if◌then◌else◌, refl, sym, ◌∙◌, ap, subst, ℕ, zero, suc, ◌+◌, ◌<◌, ◌≤◌, List, [], ◌∷◌, ◌++◌, map, arith, None, Some, eq-eqb, ne_eqb}
use Rattle.std.specs.List.{AllByRecursion, cons_option, flat_map, range_with_len}
use Rattle.std.specs.List.Sorted.{IsPermutation}
use Rattle.std.proofs.lemmas.Bool.{cases_eq}
use Rattle.std.proofs.lemmas.List.Sorted.{IsPermutation-refl, IsPermutation-sym, IsPermutation-cons, IsPermutation-trans, IsPermutation-append_right, IsPermutation-middle}
use Rattle.dnp_eventbuf.specs.declared.numbered.Numbered.{Numbered}
use Rattle.dnp_eventbuf.specs.EventBuffer.{row_of}
use Rattle.dnp_objects.specs.declared.limits.TheConstants.{LANES}
use Rattle.dnp_objects.specs.declared.row.Row.{Row}
use Rattle.dnp_outstation.specs.Items.{Thing, Item}
use Rattle.dnp_outstation.specs.Items.Thing.{Event, Present}
use Rattle.dnp_outstation.specs.Laws.{rows_in_lane, lane_numbers, rows_by_lane}
use Rattle.dnp_outstation.specs.Said.{events_in}
use Rattle.dnp_outstation.proofs.LaneRows.{IsApart}

-- the lane stands among these exactly once
abbrev IsAmong : ℕ → List ℕ → Type 0
IsAmong lane [] = ⊥
IsAmong lane (number ∷ numbers) = ((number ≡ lane) × IsApart lane numbers) ⊎ ((number ≡ lane → ⊥) × IsAmong lane numbers)

apart_behind : (lane from n : ℕ) → lane < from → IsApart lane (range_with_len from n)
apart_behind lane from zero low = tt
apart_behind lane from (suc n) low = ((λ e. omega arith), apart_behind lane (from + 1) n (omega arith))

among_range : (lane from n : ℕ) → from ≤ lane → lane < from + n → IsAmong lane (range_with_len from n)
among_range lane from zero low high = absurd (omega arith)
among_range lane from (suc n) low high = by (cases_eq from lane) (λ next. among_range lane (from + 1) n next (omega arith))
  where
    by : (from ≡ lane) ⊎ (from ≡ lane → ⊥) → (from + 1 ≤ lane → IsAmong lane (range_with_len (from + 1) n)) → IsAmong lane (range_with_len from (suc n))
    by (inl same) behind = inl (same, apart_behind lane (from + 1) n (omega arith))
    by (inr other) behind = inr (other, behind (omega arith))

among_lanes : (lane : ℕ) → lane < LANES → IsAmong lane lane_numbers
among_lanes lane low = among_range lane 0 LANES (omega arith) (omega arith)

abbrev rows_over : List Item → List ℕ → List Row
rows_over items numbers = flat_map (λ lane. map row_of (rows_in_lane lane items)) numbers

-- one event more
one_at : (header lane number : ℕ) (row : Numbered) (xs : List Item) → number ≡ lane
    → rows_in_lane number ((record { header = header; thing = Event lane row }) ∷ xs) ≡ row ∷ rows_in_lane number xs
one_at header lane number row xs same = ap (λ (b : Bool). cons_option (if b then Some row else None) (rows_in_lane number xs)) (eq-eqb lane number (sym same))

one_off : (header lane number : ℕ) (row : Numbered) (xs : List Item) → (number ≡ lane → ⊥)
    → rows_in_lane number ((record { header = header; thing = Event lane row }) ∷ xs) ≡ rows_in_lane number xs
one_off header lane number row xs other =
    ap (λ (b : Bool). cons_option (if b then Some row else None) (rows_in_lane number xs)) (ne_eqb lane number (λ e. other (sym e)))

not_there : (header lane : ℕ) (row : Numbered) (xs : List Item) (numbers : List ℕ) → IsApart lane numbers
    → rows_over ((record { header = header; thing = Event lane row }) ∷ xs) numbers ≡ rows_over xs numbers
not_there header lane row xs [] apart = refl
not_there header lane row xs (number ∷ numbers) apart =
    ap (λ (rows : List Numbered). map row_of rows ++ rows_over ((record { header = header; thing = Event lane row }) ∷ xs) numbers)
    (one_off header lane number row xs apart.0)
    ∙ ap (λ (rest : List Row). map row_of (rows_in_lane number xs) ++ rest) (not_there header lane row xs numbers apart.1)

once_more : (header lane : ℕ) (row : Numbered) (xs : List Item) (numbers : List ℕ) → IsAmong lane numbers
    → IsPermutation (row.row ∷ rows_over xs numbers) (rows_over ((record { header = header; thing = Event lane row }) ∷ xs) numbers)
once_more header lane row xs [] among = absurd among
once_more header lane row xs (number ∷ numbers) (inl here) =
    let more : List Item = (record { header = header; thing = Event lane row }) ∷ xs in
    let is : rows_over more (number ∷ numbers) ≡ row.row ∷ rows_over xs (number ∷ numbers) =
    ap (λ (rows : List Numbered). map row_of rows ++ rows_over more numbers) (one_at header lane number row xs here.0)
    ∙ ap (λ (rest : List Row). row.row ∷ (map row_of (rows_in_lane number xs) ++ rest)) (not_there header lane row xs numbers here.1)
    in
    subst (λ (rows : List Row). IsPermutation (row.row ∷ rows_over xs (number ∷ numbers)) rows) (sym is)
    (IsPermutation-refl (row.row ∷ rows_over xs (number ∷ numbers)))
once_more header lane row xs (number ∷ numbers) (inr there) =
    let more : List Item = (record { header = header; thing = Event lane row }) ∷ xs in
    let own = map row_of (rows_in_lane number xs) in
    let is : rows_over more (number ∷ numbers) ≡ own ++ rows_over more numbers =
    ap (λ (rows : List Numbered). map row_of rows ++ rows_over more numbers) (one_off header lane number row xs there.0)
    in
    subst (λ (rows : List Row). IsPermutation (row.row ∷ rows_over xs (number ∷ numbers)) rows) (sym is)
    (IsPermutation-trans (row.row ∷ (own ++ rows_over xs numbers)) (own ++ row.row ∷ rows_over xs numbers) (own ++ rows_over more numbers)
    (IsPermutation-sym (own ++ row.row ∷ rows_over xs numbers) (row.row ∷ (own ++ rows_over xs numbers))
    (IsPermutation-middle own row.row (rows_over xs numbers)))
    (IsPermutation-append_right own (row.row ∷ rows_over xs numbers) (rows_over more numbers) (once_more header lane row xs numbers there.1)))

-- an event is in one of the nine lanes
abbrev pub IsLow : Item → Type 0
IsLow x = of x.thing
  where
    of : Thing → Type 0
    of (Event lane row) = lane < LANES
    of (Present static) = Unit {0}

pub same_by_lanes : (items : List Item) → AllByRecursion IsLow items → IsPermutation (events_in items) (rows_by_lane items)
same_by_lanes [] low = IsPermutation-refl []
same_by_lanes (x ∷ xs) low = go x.header x.thing low.0 (same_by_lanes xs low.1)
  where
    go : (header : ℕ) (thing : Thing) → (let y : Item = record { header = header; thing = thing } in
        IsLow y → IsPermutation (events_in xs) (rows_by_lane xs) → IsPermutation (events_in (y ∷ xs)) (rows_by_lane (y ∷ xs)))
    go header (Event lane row) small behind =
        let more : List Item = (record { header = header; thing = Event lane row }) ∷ xs in
        IsPermutation-trans (row.row ∷ events_in xs) (row.row ∷ rows_by_lane xs) (rows_by_lane more)
        (IsPermutation-cons row.row (events_in xs) (rows_by_lane xs) behind)
        (once_more header lane row xs lane_numbers (among_lanes lane small))
    go header (Present static) small behind = behind
