-- What is left of the lanes that a header asks for once their first row was given: the others, in order.
use Rattle.std.proofs.Common.{◌≡◌, refl, sym, ◌∙◌, ap, ℕ, zero, suc, ◌+◌, ◌-◌, ◌<◌, nat_le, nat_lt, List, [], ◌∷◌, ◌++◌, map, take, drop, length, get_or, arith, Option, None, Some}
use Rattle.std.specs.Prelude.{slice_set}
use Rattle.std.specs.List.{filter}
use Rattle.std.proofs.lemmas.List.{get_or-set_same, get_or-set_other}
use Rattle.dnp_eventbuf.specs.declared.numbered.Numbered.{Numbered}
use Rattle.dnp_eventbuf.specs.EventBuffer.{EventBuffer, lane_at}
use Rattle.dnp_outstation.specs.Items.{Item, at_most, less, rows_left, event_of, event_items}
use Rattle.dnp_outstation.proofs.LaneRows.{IsApart, IsOnce, AreLow, left_behind}
use Rattle.dnp_outstation.proofs.Rising.{Rising}

-- ---- the first of a beginning

-- the first row was given: one less at most is left
record Cut (most : Option ℕ) (rows : List Numbered) (r : Numbered) (rs : List Numbered) : Type 0 where
  pub others : List Numbered
  pub is : rows ≡ r ∷ others
  pub rest : at_most (less most 1) others ≡ rs

cut : (most : Option ℕ) (rows : List Numbered) (r : Numbered) (rs : List Numbered) → at_most most rows ≡ r ∷ rs → Cut most rows r rs
cut None rows r rs is = record { others = rs; is = is; rest = refl }
cut (Some zero) [] r rs is = cc
cut (Some zero) (x ∷ xs) r rs is = cc
cut (Some (suc n)) [] r rs is = cc
cut (Some (suc n)) (x ∷ xs) r rs is = record {
  others = xs;
  is = ap (λ (y : Numbered). y ∷ xs) (ap (λ (l : List Numbered). get_or l 0 x) is);
  rest = ap (λ (k : ℕ). take k xs) (let same : suc n - 1 ≡ n = omega arith in same) ∙ ap (drop 1) is;
}

-- where none is given, none is left of one fewer
none_of_fewer : (most : Option ℕ) (rows : List Numbered) → at_most most rows ≡ [] → at_most (less most 1) rows ≡ []
none_of_fewer None rows none = none
none_of_fewer (Some zero) [] none = refl
none_of_fewer (Some zero) (x ∷ xs) none = ap (λ (k : ℕ). take k (x ∷ xs)) (let same : 0 - 1 ≡ 0 = omega arith in same)
none_of_fewer (Some (suc n)) [] none = ap (λ (k : ℕ). take k (let l : List Numbered = [] in l)) (let same : suc n - 1 ≡ n = omega arith in same) ∙ nothing n
  where
    nothing : (n : ℕ) → take n (let l : List Numbered = [] in l) ≡ []
    nothing zero = refl
    nothing (suc n) = refl
none_of_fewer (Some (suc n)) (x ∷ xs) none = absurd (cc)

less_both : (most : Option ℕ) (n : ℕ) → less (less most 1) n ≡ less most (suc n)
less_both None n = refl
less_both (Some m) n = ap (λ (k : ℕ). Some k) (let same : m - 1 - n ≡ m - suc n = omega arith in same)

pub less_count : (most : Option ℕ) (n : ℕ) → less (less most n) 1 ≡ less most (n + 1)
less_count None n = refl
less_count (Some m) n = ap (λ (k : ℕ). Some k) (let same : m - n - 1 ≡ m - (n + 1) = omega arith in same)

-- ---- the rows of a lane

module _ (s : EventBuffer) (stood : ℕ) (header : ℕ) where
  next_left : (given : List ℕ) (lane : ℕ) (r : Numbered) (rs : List Numbered) → Rising 0 (lane_at s lane).rows → lane < length given
      → rows_left s stood given lane ≡ r ∷ rs → rows_left s stood (slice_set given lane r.id) lane ≡ rs
  next_left given lane r rs rising low is =
      left_behind s stood given (slice_set given lane r.id) lane (r ∷ []) rs rising (get_or-set_same given lane r.id 0 low) is

  others_left : (given : List ℕ) (lane number id : ℕ) → (lane ≡ number → ⊥)
      → rows_left s stood (slice_set given lane id) number ≡ rows_left s stood given number
  others_left given lane number id other =
      ap (λ (after : ℕ). filter (λ x. nat_le x.id stood) (filter (λ x. nat_lt after x.id) (lane_at s number).rows))
      (get_or-set_other given lane number id 0 (λ e. other (sym e)))

  apart_left : (given : List ℕ) (lane id : ℕ) (most : Option ℕ) (numbers : List ℕ) → IsApart lane numbers
      → event_items s stood (slice_set given lane id) header most numbers ≡ event_items s stood given header most numbers
  apart_left given lane id most [] apart = refl
  apart_left given lane id most (number ∷ numbers) apart =
      let same = others_left given lane number id (λ e. apart.0 (sym e)) in
      ap (λ (rows : List Numbered). map (event_of header number) (at_most most rows)
      ++ event_items s stood (slice_set given lane id) header (less most (length (at_most most rows))) numbers) same
      ∙ ap (λ (l : List Item). map (event_of header number) (at_most most (rows_left s stood given number)) ++ l)
      (apart_left given lane id (less most (length (at_most most (rows_left s stood given number)))) numbers apart.1)

  -- the first item of these lanes, and what is left once it was given
  pub record Next (given : List ℕ) (most : Option ℕ) (numbers : List ℕ) (x : Item) (xs : List Item) : Type 0 where
    pub lane : ℕ
    pub row : Numbered
    pub is : x ≡ event_of header lane row
    pub away : (number : ℕ) → IsApart number numbers → lane ≡ number → ⊥
    pub rest : event_items s stood (slice_set given lane row.id) header (less most 1) numbers ≡ xs

  pub event_next : (given : List ℕ) (most : Option ℕ) (numbers : List ℕ) (x : Item) (xs : List Item)
      → ((lane : ℕ) → lane < length given → Rising 0 (lane_at s lane).rows) → AreLow (length given) numbers → ((lane : ℕ) → IsOnce lane numbers)
      → event_items s stood given header most numbers ≡ x ∷ xs → Next given most numbers x xs
  event_next given most [] x xs rising low once is = cc
  event_next given most (number ∷ numbers) x xs rising low once is =
      by (at_most most (rows_left s stood given number)) refl (event_next given most numbers x xs rising low.1 (λ lane. (once lane).1))
    where
      left : List Numbered
      left = rows_left s stood given number

      split : (rows : List Numbered) → at_most most left ≡ rows
          → map (event_of header number) rows ++ event_items s stood given header (less most (length rows)) numbers ≡ x ∷ xs
      split rows rows_are =
          sym (ap (λ (l : List Numbered). map (event_of header number) l ++ event_items s stood given header (less most (length l)) numbers) rows_are) ∙ is

      by : (rows : List Numbered) → at_most most left ≡ rows
          → (event_items s stood given header most numbers ≡ x ∷ xs → Next given most numbers x xs) → Next given most (number ∷ numbers) x xs
      by [] none deeper =
          let next = deeper (sym (ap (λ (m : Option ℕ). event_items s stood given header m numbers) (less_nothing most)) ∙ split [] none) in
          let other : next.lane ≡ number → ⊥ = next.away number ((once number).0 refl) in
          let given' = slice_set given next.lane next.row.id in
          let still : at_most (less most 1) (rows_left s stood given' number) ≡ [] =
          ap (at_most (less most 1)) (others_left given next.lane number next.row.id other) ∙ none_of_fewer most left none in
          record {
            lane = next.lane;
            row = next.row;
            is = next.is;
            away = λ n apart. next.away n apart.1;
            rest = ap (λ (l : List Numbered). map (event_of header number) l ++ event_items s stood given' header (less (less most 1) (length l)) numbers) still
                ∙ ap (λ (m : Option ℕ). event_items s stood given' header m numbers) (less_nothing (less most 1))
                ∙ next.rest;
          }
        where
          less_nothing : (m : Option ℕ) → less m 0 ≡ m
          less_nothing None = refl
          less_nothing (Some n) = ap (λ (k : ℕ). Some k) (let same : n - 0 ≡ n = omega arith in same)
      by (r ∷ rs) some deeper =
          let first = cut most left r rs some in
          let given' = slice_set given number r.id in
          let all = split (r ∷ rs) some in
          let now : rows_left s stood given' number ≡ first.others =
          next_left given number r first.others (rising number low.0) low.0 first.is in
          let rows_now : at_most (less most 1) (rows_left s stood given' number) ≡ rs = ap (at_most (less most 1)) now ∙ first.rest in
          record {
            lane = number;
            row = r;
            is = sym (ap (λ (l : List Item). get_or l 0 x) all);
            away = λ n apart. apart.0;
            rest = ap (λ (l : List Numbered). map (event_of header number) l ++ event_items s stood given' header (less (less most 1) (length l)) numbers)
                rows_now
                ∙ ap (λ (m : Option ℕ). map (event_of header number) rs ++ event_items s stood given' header m numbers) (less_both most (length rs))
                ∙ ap (λ (l : List Item). map (event_of header number) rs ++ l)
                (apart_left given number r.id (less most (suc (length rs))) numbers ((once number).0 refl))
                ∙ ap (drop 1) all;
          }
