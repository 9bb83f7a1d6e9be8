-- Looking an index up among the extents of the blocks, and among their places by rising base.
use Rattle.std.proofs.Common.{◌≡◌, ℕ, zero, suc, ◌+◌, ◌-◌, ◌<◌, ◌≤◌, Bool, true, false, cond, ◌⊎◌, List, [], ◌∷◌, length, get_or, Option, Some, None, refl, sym, ◌∙◌, ap, arith, inl, inr}
use Rattle.std.specs.Prelude.{nat_le}
use Rattle.std.specs.Option.{option_map}
use Rattle.std.specs.List.{Any}
use Rattle.std.specs.List.Sorted.{IsPartitionPoint}
use Rattle.std.proofs.lemmas.Bool.{cases_lt, cases_order}
use Rattle.std.proofs.lemmas.List.{get_or_default}
use Rattle.std.proofs.lemmas.Bool.Decides.{nat_tests}
use Rattle.dnp_pointdb.specs.declared.order.BlockPlace.{BlockPlace}
use Rattle.dnp_pointdb.specs.steps.Order.{Extent, covers, place_in, IsOrder, AreApart}

-- ---- the test

pub covers_true : (e : Extent) (index : ℕ) → e.first ≤ index → index < e.first + e.count → covers e index ≡ true
covers_true e index low high = grind (arith, nat_tests)

pub covers_low : (e : Extent) (index : ℕ) → covers e index ≡ true → e.first ≤ index
covers_low e index h = grind (arith, nat_tests)

pub covers_high : (e : Extent) (index : ℕ) → covers e index ≡ true → index < e.first + e.count
covers_high e index h = grind (arith, nat_tests)

-- either way
pub covers_cases : (e : Extent) (index : ℕ) → (covers e index ≡ true) ⊎ (covers e index ≡ false)
covers_cases e index =
    let P : Bool → Type 0 = λ b. (b ≡ true) ⊎ (b ≡ false) in
    elim (covers e index) as P [ true ↦ inl refl | false ↦ inr refl ]

-- ---- the first block that has the index

pub place_in-none : (es : List Extent) (index : ℕ)
    → ((j : ℕ) (d : Extent) → j < length es → covers (get_or es j d) index ≡ false)
    → place_in es index ≡ None
place_in-none [] index none = refl
place_in-none (e ∷ es) index none =
    let here : covers e index ≡ false = none 0 e (omega arith) in
    let rest : place_in es index ≡ None = place_in-none es index (λ j d lt. none (suc j) d (omega arith)) in
    ap (λ (b : Bool). cond b (Some (0, index - e.first)) (option_map (λ (p : ℕ × ℕ). (suc p.0, p.1)) (place_in es index))) here
    ∙ ap (λ (o : Option (ℕ × ℕ)). option_map (λ (p : ℕ × ℕ). (suc p.0, p.1)) o) rest

pub place_in-some : (es : List Extent) (index j : ℕ) (d : Extent) → j < length es
    → covers (get_or es j d) index ≡ true
    → ((i : ℕ) (d' : Extent) → i < j → covers (get_or es i d') index ≡ false)
    → place_in es index ≡ Some (j, index - (get_or es j d).first)
place_in-some [] index j d lt here before = absurd (omega arith)
place_in-some (e ∷ es) index zero d lt here before =
    ap (λ (b : Bool). cond b (Some (0, index - e.first)) (option_map (λ (p : ℕ × ℕ). (suc p.0, p.1)) (place_in es index))) here
place_in-some (e ∷ es) index (suc j) d lt here before =
    let not_here : covers e index ≡ false = before 0 e (omega arith) in
    let rest : place_in es index ≡ Some (j, index - (get_or es j d).first) =
    place_in-some es index j d (omega arith) here (λ i d' h. before (suc i) d' (omega arith)) in
    ap (λ (b : Bool). cond b (Some (0, index - e.first)) (option_map (λ (p : ℕ × ℕ). (suc p.0, p.1)) (place_in es index))) not_here
    ∙ ap (λ (o : Option (ℕ × ℕ)). option_map (λ (p : ℕ × ℕ). (suc p.0, p.1)) o) rest

-- ---- by the order

-- a block that no other meets is the first one that has the index
only_one : (es : List Extent) (index j : ℕ) (d : Extent) → AreApart es → j < length es
    → covers (get_or es j d) index ≡ true → (i : ℕ) (d' : Extent) → i < j → covers (get_or es i d') index ≡ false
only_one es index j d apart lt here i d' before =
    elim (covers_cases (get_or es i d') index) [
      | inr lacks ↦ lacks
      | inl has ↦ absurd (apart i j index d' d before lt has here)
    ]

-- so that a look at one block alone finds the index, if that block has it
pub found_in : (es : List Extent) (index j : ℕ) (d : Extent) → AreApart es → j < length es
    → covers (get_or es j d) index ≡ true → place_in es index ≡ Some (j, index - (get_or es j d).first)
found_in es index j d apart lt here = place_in-some es index j d lt here (only_one es index j d apart lt here)

-- two blocks that have an index in common are one block
one_block : (es : List Extent) (index i j : ℕ) (d d' : Extent) → AreApart es → i < length es → j < length es
    → covers (get_or es i d) index ≡ true → covers (get_or es j d') index ≡ true → i ≡ j
one_block es index i j d d' apart i_in j_in of_i of_j =
    elim (cases_order i j) [
      | inl same ↦ same
      | inr (inl lt) ↦ absurd (apart i j index d d' lt j_in of_i of_j)
      | inr (inr gt) ↦ absurd (apart j i index d' d gt i_in of_j of_i)
    ]

-- a place of the order is of a block that begins and ends where it says
listed_first : (es : List Extent) (order : List BlockPlace) (m : ℕ) (d : BlockPlace) (e : Extent) → IsOrder es order → m < length order
    → (get_or es (get_or order m d).block e).first ≡ (get_or order m d).first
listed_first es order m d e o lt = ((o.listed m d lt).2 e).0

listed_count : (es : List Extent) (order : List BlockPlace) (m : ℕ) (d : BlockPlace) (e : Extent) → IsOrder es order → m < length order
    → (get_or es (get_or order m d).block e).count ≡ (get_or order m d).count
listed_count es order m d e o lt = ((o.listed m d lt).2 e).1

listed_in : (es : List Extent) (order : List BlockPlace) (m : ℕ) (d : BlockPlace) → IsOrder es order → m < length order
    → (get_or order m d).block < length es
listed_in es order m d o lt = (o.listed m d lt).1

listed_some : (es : List Extent) (order : List BlockPlace) (m : ℕ) (d : BlockPlace) → IsOrder es order → m < length order
    → 0 < (get_or order m d).count
listed_some es order m d o lt = (o.listed m d lt).0

-- an extent with nothing in it, where one is wanted past the end of a list
nothing : Extent
nothing = record { first = 0; count = 0 }

-- the place at m has the index
pub found_at : (es : List Extent) (order : List BlockPlace) (index m : ℕ) (d : BlockPlace) → IsOrder es order → m < length order
    → (get_or order m d).first ≤ index → index < (get_or order m d).first + (get_or order m d).count
    → place_in es index ≡ Some ((get_or order m d).block, index - (get_or order m d).first)
found_at es order index m d o lt low high =
    let b : ℕ = (get_or order m d).block in
    let first : (get_or es b nothing).first ≡ (get_or order m d).first = listed_first es order m d nothing o lt in
    let count : (get_or es b nothing).count ≡ (get_or order m d).count = listed_count es order m d nothing o lt in
    let inside : b < length es = listed_in es order m d o lt in
    let here : covers (get_or es b nothing) index ≡ true = covers_true (get_or es b nothing) index (omega arith) (omega arith) in
    place_in-some es index b nothing inside here (only_one es index b nothing o.apart inside here)
    ∙ ap (λ (n : ℕ). Some (b, index - n)) first

-- a block that has points stands in the order
pub record Standing (es : List Extent) (order : List BlockPlace) (j : ℕ) : Type 0 where
  pub at : ℕ
  pub in_order : at < length order
  pub block_is : (e : BlockPlace) → (get_or order at e).block ≡ j

standing : (es : List Extent) (order : List BlockPlace) (j : ℕ) (d : Extent) → IsOrder es order → j < length es
    → 0 < (get_or es j d).count → Standing es order j
standing es order j d o lt some =
    let found : Any (λ place. place.block ≡ j) order = o.complete j lt d some in
    record {
      at = found.0;
      in_order = found.2;
      block_is = λ e. ap (λ (p : BlockPlace). p.block) (get_or_default order found.0 e found.1 found.2 ∙ found.3) ∙ found.4;
    }

-- no block has the index if those that begin up to it end before it; m is the last of them
not_this : (es : List Extent) (order : List BlockPlace) (index n m j : ℕ) (d : Extent) (e : BlockPlace) → IsOrder es order → j < length es
    → n ≡ suc m → n ≤ length order
    → ((k : ℕ) → n ≤ k → k < length order → index < (get_or order k e).first)
    → (get_or order m e).first ≤ index → (get_or order m e).first + (get_or order m e).count ≤ index
    → covers (get_or es j d) index ≡ true → ⊥
not_this es order index n m j d e o lt after n_in above low high has =
    let begun : (get_or es j d).first ≤ index = covers_low (get_or es j d) index has in
    let ended : index < (get_or es j d).first + (get_or es j d).count = covers_high (get_or es j d) index has in
    let s : Standing es order j = standing es order j d o lt (omega arith) in
    let q_in : s.at < length order = s.in_order in
    let m_in : m < length order = omega arith in
    let same : (get_or es j d).first ≡ (get_or order s.at e).first =
    ap (λ (b : ℕ). (get_or es b d).first) (sym (s.block_is e)) ∙ listed_first es order s.at e d o q_in in
    let below : s.at < n = elim (cases_lt s.at n) [
      | inl before ↦ before
      | inr past ↦ absurd (omega (arith, above s.at past q_in))
    ] in
    let rising : (get_or order s.at e).first ≤ (get_or order m e).first = o.rising s.at m e (omega arith) m_in in
    let b : ℕ = (get_or order m e).block in
    let first : (get_or es b d).first ≡ (get_or order m e).first = listed_first es order m e d o m_in in
    let count : (get_or es b d).count ≡ (get_or order m e).count = listed_count es order m e d o m_in in
    let some : 0 < (get_or order m e).count = listed_some es order m e o m_in in
    let of_b : covers (get_or es b d) (get_or order m e).first ≡ true =
    covers_true (get_or es b d) (get_or order m e).first (omega arith) (omega arith) in
    let of_j : covers (get_or es j d) (get_or order m e).first ≡ true =
    covers_true (get_or es j d) (get_or order m e).first (omega arith) (omega arith) in
    let one : b ≡ j = one_block es (get_or order m e).first b j d d o.apart (listed_in es order m e o m_in) lt of_b of_j in
    let one_first : (get_or es b d).first ≡ (get_or es j d).first = ap (λ (i : ℕ). (get_or es i d).first) one in
    let one_count : (get_or es b d).count ≡ (get_or es j d).count = ap (λ (i : ℕ). (get_or es i d).count) one in
    omega arith

pub missed_at : (es : List Extent) (order : List BlockPlace) (index n m : ℕ) (e : BlockPlace) → IsOrder es order
    → n ≡ suc m → n ≤ length order
    → ((k : ℕ) → n ≤ k → k < length order → index < (get_or order k e).first)
    → (get_or order m e).first ≤ index → (get_or order m e).first + (get_or order m e).count ≤ index
    → place_in es index ≡ None
missed_at es order index n m e o after n_in above low high =
    place_in-none es index (λ j d lt. elim (covers_cases (get_or es j d) index) [
      | inr lacks ↦ lacks
      | inl has ↦ absurd (not_this es order index n m j d e o lt after n_in above low high has)
    ])

-- nor if none begins up to it
before_all : (es : List Extent) (order : List BlockPlace) (index j : ℕ) (d : Extent) (e : BlockPlace) → IsOrder es order → j < length es
    → ((k : ℕ) → k < length order → index < (get_or order k e).first)
    → covers (get_or es j d) index ≡ true → ⊥
before_all es order index j d e o lt above has =
    let begun : (get_or es j d).first ≤ index = covers_low (get_or es j d) index has in
    let ended : index < (get_or es j d).first + (get_or es j d).count = covers_high (get_or es j d) index has in
    let s : Standing es order j = standing es order j d o lt (omega arith) in
    let same : (get_or es j d).first ≡ (get_or order s.at e).first =
    ap (λ (b : ℕ). (get_or es b d).first) (sym (s.block_is e)) ∙ listed_first es order s.at e d o s.in_order in
    omega (arith, above s.at s.in_order)

pub missed_before : (es : List Extent) (order : List BlockPlace) (index : ℕ) (e : BlockPlace) → IsOrder es order
    → ((k : ℕ) → k < length order → index < (get_or order k e).first)
    → place_in es index ≡ None
missed_before es order index e o above =
    place_in-none es index (λ j d lt. elim (covers_cases (get_or es j d) index) [
      | inr lacks ↦ lacks
      | inl has ↦ absurd (before_all es order index j d e o lt above has)
    ])

-- ---- where the places that begin up to an index end

abbrev pub begins : ℕ → BlockPlace → Bool
begins index place = nat_le place.first index

pub begun_below : (order : List BlockPlace) (index n : ℕ) → IsPartitionPoint (λ p. begins index p ≡ true) (λ p. begins index p ≡ false) order n
    → (k : ℕ) (e : BlockPlace) → k < n → (get_or order k e).first ≤ index
begun_below order index n split k e lt =
    let at : begins index (get_or order k e) ≡ true = split.0 k e (omega arith) lt in
    grind (arith, nat_tests)

pub begun_above : (order : List BlockPlace) (index n : ℕ) → IsPartitionPoint (λ p. begins index p ≡ true) (λ p. begins index p ≡ false) order n
    → (k : ℕ) (e : BlockPlace) → n ≤ k → k < length order → index < (get_or order k e).first
begun_above order index n split k e le lt =
    let at : begins index (get_or order k e) ≡ false = split.1 k e le lt in
    grind (arith, nat_tests)
