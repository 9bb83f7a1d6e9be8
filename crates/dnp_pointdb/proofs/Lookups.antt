-- What stands at the place that a look-up finds.
use Rattle.std.proofs.Common.{◌≡◌, ℕ, zero, suc, ◌+◌, ◌-◌, ◌<◌, ◌≤◌, Bool, true, false, cond, List, [], ◌∷◌, length, get_or, set, Option, Some, None, refl, sym, ◌∙◌, ap, subst, arith}
use Rattle.std.specs.Option.{option_map}
use Rattle.std.specs.List.{slice_get}
use Rattle.std.proofs.lemmas.List.{get_or-map, length-map}
use Rattle.dnp_pointdb.specs.declared.state.PointState.{PointState}
use Rattle.dnp_pointdb.specs.declared.state.BlockState.{BlockState}
use Rattle.dnp_pointdb.specs.Database.{has_index, state_in, updated, updated_in}
use Rattle.dnp_pointdb.specs.steps.Order.{AreApart, Extent, covers, extent, extents, place_in}
use Rattle.dnp_pointdb.proofs.Places.{covers_low, covers_high, covers_true, found_in}

-- ---- one member of a list

pub slice_get-in : {A : Type 0} (xs : List A) (p : ℕ) (d : A) → p < length xs → slice_get xs p ≡ Some (get_or xs p d)
slice_get-in [] p d lt = absurd (omega arith)
slice_get-in (x ∷ xs) zero d lt = refl
slice_get-in (x ∷ xs) (suc p) d lt = slice_get-in xs p d (omega arith)

pub updated-in : {A : Type 0} (f : A → A) (xs : List A) (p : ℕ) (d : A) → p < length xs → updated f xs p ≡ set xs p (f (get_or xs p d))
updated-in f [] p d lt = absurd (omega arith)
updated-in f (x ∷ xs) zero d lt = refl
updated-in {A} f (x ∷ xs) (suc p) d lt = ap (λ (ys : List A). x ∷ ys) (updated-in f xs p d (omega arith))

pub updated-past : {A : Type 0} (f : A → A) (xs : List A) (p : ℕ) → length xs ≤ p → updated f xs p ≡ xs
updated-past f [] p le = refl
updated-past f (x ∷ xs) zero le = absurd (omega arith)
updated-past {A} f (x ∷ xs) (suc p) le = ap (λ (ys : List A). x ∷ ys) (updated-past f xs p (omega arith))

-- ---- a point that is there

-- the point stands at place p of block n
pub record Found (blocks : List BlockState) (index n p : ℕ) : Type 0 where
  pub in_blocks : n < length blocks
  pub in_points : (d : BlockState) → p < length (get_or blocks n d).points
  pub state : (d : BlockState) (e : PointState) → state_in blocks index ≡ Some (get_or (get_or blocks n d).points p e)
  pub change : (f : PointState → PointState) (d : BlockState) (e : PointState)
      → updated_in f blocks index
      ≡ set blocks n (record (get_or blocks n d) { points = set (get_or blocks n d).points p (f (get_or (get_or blocks n d).points p e)) })

found_here : (b : BlockState) (bs : List BlockState) (index : ℕ) → has_index b index ≡ true → Found (b ∷ bs) index 0 (index - b.base)
found_here b bs index has =
    let low : b.base ≤ index = covers_low (extent b) index has in
    let high : index < b.base + length b.points = covers_high (extent b) index has in
    let inside : index - b.base < length b.points = omega arith in
    record {
      in_blocks = omega arith;
      in_points = λ d. inside;
      state = λ d e.
          ap (λ (t : Bool). cond t (slice_get b.points (index - b.base)) (state_in bs index)) has
          ∙ slice_get-in b.points (index - b.base) e inside;
      change = λ f d e.
          ap (λ (t : Bool). cond t (record b { points = updated f b.points (index - b.base) } ∷ bs) (b ∷ updated_in f bs index)) has
          ∙ ap (λ (ps : List PointState). record b { points = ps } ∷ bs) (updated-in f b.points (index - b.base) e inside);
    }

found_later : (b : BlockState) (bs : List BlockState) (index n p : ℕ) → has_index b index ≡ false → Found bs index n p
    → Found (b ∷ bs) index (suc n) p
found_later b bs index n p lacks found = record {
  in_blocks = omega (arith, found.in_blocks);
  in_points = λ d. found.in_points d;
  state = λ d e.
      ap (λ (t : Bool). cond t (slice_get b.points (index - b.base)) (state_in bs index)) lacks ∙ found.state d e;
  change = λ f d e.
      ap (λ (t : Bool). cond t (record b { points = updated f b.points (index - b.base) } ∷ bs) (b ∷ updated_in f bs index)) lacks
      ∙ ap (λ (cs : List BlockState). b ∷ cs) (found.change f d e);
}

-- the place of a longer list, from that of its tail
abbrev next : Option (ℕ × ℕ) → Option (ℕ × ℕ)
next place = option_map (λ (p : ℕ × ℕ). (suc p.0, p.1)) place

pub lookup_found : (blocks : List BlockState) (index : ℕ) (at : ℕ × ℕ) → place_in (extents blocks) index ≡ Some at
    → Found blocks index at.0 at.1
lookup_found [] index at is = absurd (cc)
lookup_found (b ∷ bs) index at is = by_test (λ q was. lookup_found bs index q was) (has_index b index) refl
  where
    in_tail : ((q : ℕ × ℕ) → place_in (extents bs) index ≡ Some q → Found bs index q.0 q.1) → (tail : Option (ℕ × ℕ)) → place_in (extents bs) index ≡ tail → next tail ≡ Some at → has_index b index ≡ false
        → Found (b ∷ bs) index at.0 at.1
    in_tail rest None was same lacks = absurd (cc)
    in_tail rest (Some q) was same lacks =
        let pair : (suc q.0, q.1) ≡ at = cc in
        subst (λ (a : ℕ × ℕ). Found (b ∷ bs) index a.0 a.1) pair (found_later b bs index q.0 q.1 lacks (rest q was))

    by_test : ((q : ℕ × ℕ) → place_in (extents bs) index ≡ Some q → Found bs index q.0 q.1) → (t : Bool) → has_index b index ≡ t → Found (b ∷ bs) index at.0 at.1
    by_test rest true has =
        let here : Some (0, index - b.base) ≡ Some at =
        sym (ap (λ (t : Bool). cond t (Some (0, index - b.base)) (next (place_in (extents bs) index))) has) ∙ is in
        let pair : (0, index - b.base) ≡ at = cc in
        subst (λ (a : ℕ × ℕ). Found (b ∷ bs) index a.0 a.1) pair (found_here b bs index has)
    by_test rest false lacks =
        let later : next (place_in (extents bs) index) ≡ Some at =
        sym (ap (λ (t : Bool). cond t (Some (0, index - b.base)) (next (place_in (extents bs) index))) lacks) ∙ is in
        in_tail rest (place_in (extents bs) index) refl later lacks

-- by a look at one block alone
pub lookup_block : (blocks : List BlockState) (index n : ℕ) (b : BlockState) → AreApart (extents blocks) → n < length blocks → b ≡ get_or blocks n b
    → b.base ≤ index → index - b.base < length b.points → place_in (extents blocks) index ≡ Some (n, index - b.base)
lookup_block blocks index n b apart inside is low high =
    let there : get_or (extents blocks) n (extent b) ≡ extent b =
    get_or-map extent blocks n b (extent b) inside ∙ ap (λ (x : BlockState). extent x) (sym is) in
    let lt : n < length (extents blocks) = simp length-map inside in
    let has : covers (get_or (extents blocks) n (extent b)) index ≡ true =
    ap (λ (e : Extent). covers e index) there ∙ covers_true (extent b) index low (omega arith) in
    found_in (extents blocks) index n (extent b) apart lt has ∙ ap (λ (e : Extent). Some (n, index - e.first)) there

-- ---- a point that is not there

pub record Lacks (blocks : List BlockState) (index : ℕ) : Type 0 where
  pub state : state_in blocks index ≡ None
  pub change : (f : PointState → PointState) → updated_in f blocks index ≡ blocks

pub lookup_lacks : (blocks : List BlockState) (index : ℕ) → place_in (extents blocks) index ≡ None → Lacks blocks index
lookup_lacks [] index is = record { state = refl; change = λ f. refl }
lookup_lacks (b ∷ bs) index is = by_test (λ was. lookup_lacks bs index was) (has_index b index) refl
  where
    in_tail : (place_in (extents bs) index ≡ None → Lacks bs index) → (tail : Option (ℕ × ℕ)) → place_in (extents bs) index ≡ tail → next tail ≡ None → has_index b index ≡ false
        → Lacks (b ∷ bs) index
    in_tail rest (Some q) was same lacks = absurd (cc)
    in_tail rest None was same lacks =
        let tail : Lacks bs index = rest was in
        record {
          state = ap (λ (t : Bool). cond t (slice_get b.points (index - b.base)) (state_in bs index)) lacks ∙ tail.state;
          change = λ f.
              ap (λ (t : Bool). cond t (record b { points = updated f b.points (index - b.base) } ∷ bs) (b ∷ updated_in f bs index)) lacks
              ∙ ap (λ (cs : List BlockState). b ∷ cs) (tail.change f);
        }

    by_test : (place_in (extents bs) index ≡ None → Lacks bs index) → (t : Bool) → has_index b index ≡ t → Lacks (b ∷ bs) index
    by_test rest true has =
        let here : Some (0, index - b.base) ≡ None =
        sym (ap (λ (t : Bool). cond t (Some (0, index - b.base)) (next (place_in (extents bs) index))) has) ∙ is in
        absurd (cc)
    by_test rest false lacks =
        let later : next (place_in (extents bs) index) ≡ None =
        sym (ap (λ (t : Bool). cond t (Some (0, index - b.base)) (next (place_in (extents bs) index))) lacks) ∙ is in
        in_tail rest (place_in (extents bs) index) refl later lacks
