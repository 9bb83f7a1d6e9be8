-- The places of the substations by rising base, and looking an index up among them, from what is known of blocks.
use Rattle.std.proofs.Common.{◌≡◌, ℕ, suc, ◌+◌, ◌-◌, ◌<◌, ◌≤◌, Bool, true, false, cond, List, [], ◌∷◌, ◌++◌, length, map, get_or, Option, Some, None, refl, sym, ◌∙◌, ap, subst, arith}
use Rattle.std.specs.Prelude.{nat_le}
use Rattle.std.specs.Option.{option_map}
use Rattle.std.specs.List.Sorted.{IsPermutation, IsPartitionPoint, IsNonDecreasingBy}
use Rattle.std.proofs.lemmas.Bool.Decides.{nat_tests}
use Rattle.std.proofs.lemmas.List.{get_or-map, length-map, map-append}
use Rattle.std.proofs.lemmas.List.Sorted.{IsPermutation-map}
use Rattle.dnp_pointdb.specs.declared.order.BlockPlace.{BlockPlace}
use Rattle.dnp_pointdb.specs.steps.Order.{Extent, AreApart, covers, place_in}
use Rattle.dnp_pointdb.specs.steps.Order as blocks
use Rattle.dnp_pointdb.proofs.Orders.{Placed, placed_push, placed_skip, placed_sorted}
use Rattle.dnp_concentrator.specs.declared.index_kind.IndexKind.{IndexKind}
use Rattle.dnp_concentrator.specs.declared.order.SpanPlace.{SpanPlace}
use Rattle.dnp_concentrator.specs.declared.span.Spans.{Spans}
use Rattle.dnp_concentrator.specs.IndexMap.{IsApart, index_below, is_in, no_spans, one_on, span_of}
use Rattle.dnp_concentrator.specs.steps.Order.{IsOrder, as_block, extent}

-- ---- places as those of blocks

extent_at : (kind : IndexKind) (spans : List Spans) (n : ℕ) (d : Spans) (e : Extent) → n < length spans
    → get_or (map (extent kind) spans) n e ≡ extent kind (get_or spans n d)
extent_at kind spans n d e lt = get_or-map (extent kind) spans n d e lt

block_at : (order : List SpanPlace) (n : ℕ) (d : SpanPlace) (e : BlockPlace) → n < length order
    → get_or (map as_block order) n e ≡ as_block (get_or order n d)
block_at order n d e lt = get_or-map as_block order n d e lt

-- an index is looked up as that of a block
below_is : (kind : IndexKind) (spans : List Spans) (index : ℕ) → index_below spans kind index ≡ place_in (map (extent kind) spans) index
below_is kind [] index = refl
below_is kind (s ∷ more) index =
    ap (λ (o : Option (ℕ × ℕ)). cond (is_in (span_of s kind) index) (Some (0, index - (span_of s kind).base)) (option_map one_on o))
    (below_is kind more index)

-- spans that are apart are extents that are
pub extents_apart : (kind : IndexKind) (spans : List Spans) → IsApart kind spans → AreApart (map (extent kind) spans)
extents_apart kind spans apart i j index d d' before lt of_i of_j =
    let as_many : length (map (extent kind) spans) ≡ length spans = length-map spans (extent kind) in
    let here : is_in (span_of (get_or spans i no_spans) kind) index ≡ true =
    subst (λ (e : Extent). covers e index ≡ true) (extent_at kind spans i no_spans d (omega arith)) of_i in
    let there : is_in (span_of (get_or spans j no_spans) kind) index ≡ true =
    subst (λ (e : Extent). covers e index ≡ true) (extent_at kind spans j no_spans d' (omega arith)) of_j in
    let same : i ≡ j = apart i j index here there in
    omega arith

-- ---- the order, substation after substation

pub IsPlaced : IndexKind → List Spans → ℕ → List SpanPlace → Type 0
IsPlaced kind spans n order = Placed (map (extent kind) spans) n (map as_block order)

pub none_placed : (kind : IndexKind) (spans : List Spans) → IsPlaced kind spans 0 []
unfolding IsPlaced
none_placed kind spans = record { listed = λ k d lt. absurd (omega arith); complete = λ j lt. absurd (omega arith) }

pub place_pushed : (kind : IndexKind) (spans : List Spans) (n : ℕ) (order : List SpanPlace) (place : SpanPlace) (s : Spans) → IsPlaced kind spans n order
    → n < length spans → place.substation ≡ n → 0 < place.count
    → place.first ≡ (span_of (get_or spans n s) kind).base → place.count ≡ (span_of (get_or spans n s) kind).count
    → IsPlaced kind spans (n + 1) (order ++ place ∷ [])
unfolding IsPlaced
place_pushed kind spans n order place s p lt number some first count =
    subst (λ (ps : List BlockPlace). Placed (map (extent kind) spans) (n + 1) ps) (sym (map-append as_block order (place ∷ [])))
    (placed_push (map (extent kind) spans) n (map as_block order) (as_block place) p (omega (arith, length-map spans (extent kind))) number some (λ d.
    (ap (λ (e : Extent). e.first) (extent_at kind spans n s d lt) ∙ sym first, ap (λ (e : Extent). e.count) (extent_at kind spans n s d lt) ∙ sym count)))

pub place_skipped : (kind : IndexKind) (spans : List Spans) (n : ℕ) (order : List SpanPlace) (s : Spans) → IsPlaced kind spans n order
    → n < length spans → (span_of (get_or spans n s) kind).count ≡ 0 → IsPlaced kind spans (n + 1) order
unfolding IsPlaced
place_skipped kind spans n order s p lt none =
    placed_skip (map (extent kind) spans) n (map as_block order) p (λ d. ap (λ (e : Extent). e.count) (extent_at kind spans n s d lt) ∙ none)

rising_blocks : (order : List SpanPlace) → IsNonDecreasingBy (λ place. place.first) order → IsNonDecreasingBy (λ place. place.first) (map as_block order)
rising_blocks order rising i j d le lt =
    let as_many : length (map as_block order) ≡ length order = length-map order as_block in
    let e : SpanPlace = record { first = d.first; count = d.count; substation = d.block } in
    let of_i : (get_or (map as_block order) i d).first ≡ (get_or order i e).first = ap (λ (p : BlockPlace). p.first) (block_at order i e d (omega arith)) in
    let of_j : (get_or (map as_block order) j d).first ≡ (get_or order j e).first = ap (λ (p : BlockPlace). p.first) (block_at order j e d (omega arith)) in
    let low : (get_or order i e).first ≤ (get_or order j e).first = rising i j e le (omega arith) in
    omega arith

pub order_sorted : (kind : IndexKind) (spans : List Spans) (n : ℕ) (order order' : List SpanPlace) → IsPlaced kind spans n order → length spans ≤ n
    → IsPermutation order order' → IsNonDecreasingBy (λ place. place.first) order' → IsApart kind spans → IsOrder kind spans order'
unfolding IsPlaced
order_sorted kind spans n order order' p all moves rising apart =
    placed_sorted (map (extent kind) spans) n (map as_block order) (map as_block order') p (omega (arith, length-map spans (extent kind)))
    (IsPermutation-map as_block order order' moves) (rising_blocks order' rising) (extents_apart kind spans apart)

-- the other way
pub order_rising : (kind : IndexKind) (spans : List Spans) (order : List SpanPlace) → IsOrder kind spans order → IsNonDecreasingBy (λ place. place.first) order
order_rising kind spans order o i j d le lt =
    let as_many : length (map as_block order) ≡ length order = length-map order as_block in
    let e : BlockPlace = as_block d in
    let of_i : (get_or (map as_block order) i e).first ≡ (get_or order i d).first = ap (λ (p : BlockPlace). p.first) (block_at order i d e (omega arith)) in
    let of_j : (get_or (map as_block order) j e).first ≡ (get_or order j d).first = ap (λ (p : BlockPlace). p.first) (block_at order j d e (omega arith)) in
    let low : (get_or (map as_block order) i e).first ≤ (get_or (map as_block order) j e).first = o.rising i j e le (omega arith) in
    omega arith

-- ---- looking an index up

-- where the places that begin up to an index end
abbrev pub begins : ℕ → SpanPlace → Bool
begins index place = nat_le place.first index

pub begun_below : (order : List SpanPlace) (index n : ℕ) → IsPartitionPoint (λ p. begins index p ≡ true) (λ p. begins index p ≡ false) order n
    → (k : ℕ) (e : SpanPlace) → k < n → (get_or order k e).first ≤ index
begun_below order index n split k e lt =
    let at : begins index (get_or order k e) ≡ true = split.0 k e (omega arith) lt in
    grind (arith, nat_tests)

pub begun_above : (order : List SpanPlace) (index n : ℕ) → IsPartitionPoint (λ p. begins index p ≡ true) (λ p. begins index p ≡ false) order n
    → (k : ℕ) (e : SpanPlace) → n ≤ k → k < length order → index < (get_or order k e).first
begun_above order index n split k e le lt =
    let at : begins index (get_or order k e) ≡ false = split.1 k e le lt in
    grind (arith, nat_tests)

-- what the law of orders of blocks says of looking an index up
pub record FindsEach : Type 0 where
  pub found : (es : List Extent) (order : List BlockPlace) (index m : ℕ) (d : BlockPlace) → blocks.IsOrder es order → m < length order
      → (get_or order m d).first ≤ index → index < (get_or order m d).first + (get_or order m d).count
      → place_in es index ≡ Some ((get_or order m d).block, index - (get_or order m d).first)
  pub behind : (es : List Extent) (order : List BlockPlace) (index n m : ℕ) (d : BlockPlace) → blocks.IsOrder es order → n ≡ m + 1 → n ≤ length order
      → ((k : ℕ) → n ≤ k → k < length order → index < (get_or order k d).first)
      → (get_or order m d).first ≤ index → (get_or order m d).first + (get_or order m d).count ≤ index → place_in es index ≡ None
  pub before : (es : List Extent) (order : List BlockPlace) (index : ℕ) (d : BlockPlace) → blocks.IsOrder es order
      → ((k : ℕ) → k < length order → index < (get_or order k d).first) → place_in es index ≡ None

-- the place at m has the index
pub found_below : FindsEach → (kind : IndexKind) (spans : List Spans) (order : List SpanPlace) (index m : ℕ) (d : SpanPlace) → IsOrder kind spans order
    → m < length order
    → (get_or order m d).first ≤ index → index < (get_or order m d).first + (get_or order m d).count
    → Some ((get_or order m d).substation, index - (get_or order m d).first) ≡ index_below spans kind index
found_below law kind spans order index m d o lt low high =
    let e : BlockPlace = as_block d in
    let at : get_or (map as_block order) m e ≡ as_block (get_or order m d) = block_at order m d e lt in
    let first : (get_or (map as_block order) m e).first ≡ (get_or order m d).first = ap (λ (p : BlockPlace). p.first) at in
    let count : (get_or (map as_block order) m e).count ≡ (get_or order m d).count = ap (λ (p : BlockPlace). p.count) at in
    ap (λ (p : BlockPlace). Some (p.block, index - p.first)) (sym at)
    ∙ sym (law.found (map (extent kind) spans) (map as_block order) index m e o (omega (arith, length-map order as_block)) (omega arith) (omega arith))
    ∙ sym (below_is kind spans index)

-- none has it if those that begin up to it, of which m is the last, end before it
pub missed_below : FindsEach → (kind : IndexKind) (spans : List Spans) (order : List SpanPlace) (index n m : ℕ) (d : SpanPlace) → IsOrder kind spans order
    → n ≡ suc m → n ≤ length order → ((k : ℕ) → n ≤ k → k < length order → index < (get_or order k d).first)
    → (get_or order m d).first ≤ index → (get_or order m d).first + (get_or order m d).count ≤ index
    → None ≡ index_below spans kind index
missed_below law kind spans order index n m d o after within above low high =
    let e : BlockPlace = as_block d in
    let as_many : length (map as_block order) ≡ length order = length-map order as_block in
    let at : get_or (map as_block order) m e ≡ as_block (get_or order m d) = block_at order m d e (omega arith) in
    let first : (get_or (map as_block order) m e).first ≡ (get_or order m d).first = ap (λ (p : BlockPlace). p.first) at in
    let count : (get_or (map as_block order) m e).count ≡ (get_or order m d).count = ap (λ (p : BlockPlace). p.count) at in
    sym (law.behind (map (extent kind) spans) (map as_block order) index n m e o (omega (arith, after)) (omega arith) (λ k le lt.
    let inside : k < length order = omega arith in
    let there : (get_or (map as_block order) k e).first ≡ (get_or order k d).first = ap (λ (p : BlockPlace). p.first) (block_at order k d e inside) in
    omega (arith, above k le inside)) (omega arith) (omega arith))
    ∙ sym (below_is kind spans index)

-- nor if none begins up to it
pub missed_all : FindsEach → (kind : IndexKind) (spans : List Spans) (order : List SpanPlace) (index : ℕ) (d : SpanPlace) → IsOrder kind spans order
    → ((k : ℕ) → k < length order → index < (get_or order k d).first) → None ≡ index_below spans kind index
missed_all law kind spans order index d o above =
    let e : BlockPlace = as_block d in
    let as_many : length (map as_block order) ≡ length order = length-map order as_block in
    sym (law.before (map (extent kind) spans) (map as_block order) index e o (λ k lt.
    let inside : k < length order = omega arith in
    let there : (get_or (map as_block order) k e).first ≡ (get_or order k d).first = ap (λ (p : BlockPlace). p.first) (block_at order k d e inside) in
    omega (arith, above k inside)))
    ∙ sym (below_is kind spans index)
