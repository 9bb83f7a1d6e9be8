-- The order of the blocks by rising base: how it comes to be, and what leaves it as it is.
use Rattle.std.proofs.Common.{◌≡◌, ℕ, ◌+◌, ◌<◌, ◌≤◌, true, List, [], ◌∷◌, ◌++◌, length, map, get_or, set, refl, sym, ◌∙◌, ap, subst, arith, inl, inr}
use Rattle.std.specs.List.{Any, All, HoldsAt, Contains}
use Rattle.std.specs.List.Sorted.{IsPermutation, IsNonDecreasingBy}
use Rattle.std.proofs.lemmas.Bool.{cases_lt}
use Rattle.std.proofs.lemmas.List.{get_or-map, length-map, length-set, map-set, set-get_or}
use Rattle.std.proofs.lemmas.List.Elements.{All-push, Contains-append_left}
use Rattle.std.proofs.lemmas.List.Quantifiers.{Any-push}
use Rattle.std.proofs.lemmas.List.Sorted.{All-permutation, Contains-permutation}
use Rattle.dnp_pointdb.specs.declared.order.BlockPlace.{BlockPlace}
use Rattle.dnp_pointdb.specs.declared.point.Block.{Block}
use Rattle.dnp_pointdb.specs.declared.state.PointState.{PointState}
use Rattle.dnp_pointdb.specs.declared.state.BlockState.{BlockState}
use Rattle.dnp_pointdb.specs.Database.{new_block, restarted_block, lost_block, new_state, restarted_state, lost_state}
use Rattle.dnp_pointdb.specs.Blocks.{HasIndex, ShareIndex}
use Rattle.dnp_pointdb.specs.steps.Order.{Extent, extent_of, extent, extents, covers, IsPlaceOf, IsOrder, AreApart}
use Rattle.dnp_pointdb.proofs.Places.{covers_low, covers_high}

-- ---- the places, block after block

-- those of the first n blocks that have points
pub record Placed (es : List Extent) (n : ℕ) (order : List BlockPlace) : Type 0 where
  pub listed : All (IsPlaceOf es) order
  pub complete : (j : ℕ) → j < n → HoldsAt (λ e. 0 < e.count → Any (λ place. place.block ≡ j) order) es j

any_more : (P : BlockPlace → Type 0) (xs ys : List BlockPlace) → Any P xs → Any P (xs ++ ys)
any_more P xs ys found =
    let more : Contains (xs ++ ys) found.1 = Contains-append_left xs ys found.1 (found.0, found.2, found.3) in
    (more.0, found.1, more.1, more.2, found.4)

pub placed_push : (es : List Extent) (n : ℕ) (order : List BlockPlace) (place : BlockPlace) → Placed es n order → n < length es
    → place.block ≡ n → 0 < place.count → HoldsAt (λ e. (e.first ≡ place.first) × (e.count ≡ place.count)) es n
    → Placed es (n + 1) (order ++ place ∷ [])
placed_push es n order place p lt number some is = record {
  listed = All-push (IsPlaceOf es) order place p.listed (
    some,
    subst (λ (m : ℕ). m < length es) (sym number) lt,
    subst (λ (m : ℕ). HoldsAt (λ e. (e.first ≡ place.first) × (e.count ≡ place.count)) es m) (sym number) is,
  );
  complete = λ j before d has. elim (cases_lt j n) [
    | inl earlier ↦ any_more (λ q. q.block ≡ j) order (place ∷ []) (p.complete j earlier d has)
    | inr past ↦
        let same : n ≡ j = omega arith in
        Any-push (λ q. q.block ≡ j) order place (number ∙ same)
  ];
}

pub placed_skip : (es : List Extent) (n : ℕ) (order : List BlockPlace) → Placed es n order
    → HoldsAt (λ e. e.count ≡ 0) es n → Placed es (n + 1) order
placed_skip es n order p empty = record {
  listed = p.listed;
  complete = λ j before d has. elim (cases_lt j n) [
    | inl earlier ↦ p.complete j earlier d has
    | inr past ↦
        let same : j ≡ n = omega arith in
        let none : (get_or es j d).count ≡ 0 = ap (λ (m : ℕ). (get_or es m d).count) same ∙ empty d in
        absurd (omega arith)
  ];
}

any_moved : (P : BlockPlace → Type 0) (xs ys : List BlockPlace) → IsPermutation xs ys → Any P xs → Any P ys
any_moved P xs ys moves found =
    let moved : Contains ys found.1 = Contains-permutation xs ys found.1 moves (found.0, found.2, found.3) in
    (moved.0, found.1, moved.1, moved.2, found.4)

pub placed_sorted : (es : List Extent) (n : ℕ) (order order' : List BlockPlace) → Placed es n order → length es ≤ n
    → IsPermutation order order' → IsNonDecreasingBy (λ place. place.first) order' → AreApart es → IsOrder es order'
placed_sorted es n order order' p all moves rising apart = record {
  rising = rising;
  listed = All-permutation (IsPlaceOf es) order order' moves p.listed;
  complete = λ j lt d has. any_moved (λ q. q.block ≡ j) order order' moves (p.complete j (omega arith) d has);
  apart = apart;
}

-- ---- the extents of blocks

-- that of the block at n
pub extent_at : (blocks : List Block) (n : ℕ) (b : Block) (d : Extent) → n < length blocks → b ≡ get_or blocks n b
    → get_or (map extent_of blocks) n d ≡ extent_of b
extent_at blocks n b d lt is =
    get_or-map extent_of blocks n b d lt ∙ ap (λ (x : Block). extent_of x) (sym is)

-- another block in its place with as many points
pub extents-set : (blocks : List BlockState) (n : ℕ) (b : BlockState) (d : BlockState) → n < length blocks
    → extent b ≡ extent (get_or blocks n d) → extents (set blocks n b) ≡ extents blocks
extents-set blocks n b d lt same =
    map-set extent blocks n b
    ∙ ap (λ (e : Extent). set (map extent blocks) n e) (same ∙ sym (get_or-map extent blocks n d (extent d) lt))
    ∙ set-get_or (map extent blocks) n (extent d)

-- after a restart
pub extents-restarted : (blocks : List BlockState) → extents (map restarted_block blocks) ≡ extents blocks
extents-restarted [] = refl
extents-restarted (b ∷ bs) =
    let count : length (map restarted_state b.points) ≡ length b.points = length-map b.points restarted_state in
    ap (λ (n : ℕ). record { first = b.base; count = n } ∷ extents (map restarted_block bs)) count
    ∙ ap (λ (es : List Extent). extent b ∷ es) (extents-restarted bs)

-- those of the blocks of a plan
pub extents-new : (blocks : List Block) → extents (map new_block blocks) ≡ map extent_of blocks
extents-new [] = refl
extents-new (b ∷ bs) =
    let count : length (map new_state b.points) ≡ length b.points = length-map b.points new_state in
    ap (λ (n : ℕ). record { first = b.base; count = n } ∷ extents (map new_block bs)) count
    ∙ ap (λ (es : List Extent). extent_of b ∷ es) (extents-new bs)

has_from : (blocks : List Block) (i index : ℕ) (d : Extent) → i < length blocks
    → covers (get_or (map extent_of blocks) i d) index ≡ true → HoldsAt (λ block. HasIndex block index) blocks i
has_from blocks i index d lt has x =
    let there : covers (extent_of (get_or blocks i x)) index ≡ true =
    subst (λ (e : Extent). covers e index ≡ true) (get_or-map extent_of blocks i x d lt) has in
    record {
      from_base = covers_low (extent_of (get_or blocks i x)) index there;
      before_end = covers_high (extent_of (get_or blocks i x)) index there;
    }

-- they share no index
pub apart_plan : (blocks : List Block) → (ShareIndex blocks → ⊥) → AreApart (map extent_of blocks)
apart_plan blocks none i j index d d' before lt of_i of_j =
    let inside : j < length blocks = omega (arith, length-map blocks extent_of) in
    none (record {
      first = i;
      second = j;
      index = index;
      in_order = before;
      in_list = inside;
      of_first = has_from blocks i index d (omega arith) of_i;
      of_second = has_from blocks j index d' inside of_j;
    })

pub apart_new : (blocks : List Block) → (ShareIndex blocks → ⊥) → AreApart (extents (map new_block blocks))
apart_new blocks none = subst (λ (es : List Extent). AreApart es) (sym (extents-new blocks)) (apart_plan blocks none)

-- ---- what leaves the order as it is

pub order_kept : (before after : List BlockState) (order : List BlockPlace) → IsOrder (extents before) order
    → extents after ≡ extents before → IsOrder (extents after) order
order_kept before after order o same = subst (λ (es : List Extent). IsOrder es order) (sym same) o

pub extents-put : (blocks : List BlockState) (n : ℕ) (b r : BlockState) (p : ℕ) (s : PointState) → n < length blocks
    → r ≡ get_or blocks n r → b ≡ record r { points = set r.points p s } → extents (set blocks n b) ≡ extents blocks
extents-put blocks n b r p s lt is put =
    let count : length (set r.points p s) ≡ length r.points = length-set r.points p s in
    extents-set blocks n b r lt (
    ap (λ (x : BlockState). extent x) put
    ∙ ap (λ (m : ℕ). record { first = r.base; count = m }) count
    ∙ ap (λ (x : BlockState). extent x) is
    )

pub extents-lost : (blocks : List BlockState) (n : ℕ) (b r : BlockState) → n < length blocks
    → r ≡ get_or blocks n r → b ≡ lost_block r → extents (set blocks n b) ≡ extents blocks
extents-lost blocks n b r lt is lost =
    let count : length (map lost_state r.points) ≡ length r.points = length-map r.points lost_state in
    extents-set blocks n b r lt (
    ap (λ (x : BlockState). extent x) lost
    ∙ ap (λ (m : ℕ). record { first = r.base; count = m }) count
    ∙ ap (λ (x : BlockState). extent x) is
    )
