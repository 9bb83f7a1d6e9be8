-- Private steps: how a point is looked up: the blocks that have points, by rising base. What a look-up has to find
-- is said in Database.antt.
use Rattle.std.specs.Prelude.{◌≡◌, ℕ, suc, ◌+◌, ◌-◌, ◌<◌, Bool, ◌&&◌, nat_lt, nat_le, if◌then◌else◌, List, [], ◌∷◌, map, length, Option, Some, None, All, Any, true, slice_index_or}
use Rattle.std.specs.Option.{option_map}
use Rattle.std.specs.List.{HoldsAt}
use Rattle.std.specs.List.Sorted.{IsNonDecreasingBy}
use Rattle.dnp_objects.specs.declared.row.Kind.{Kind}
use Rattle.dnp_objects.specs.Lanes.{kind_number}
use Rattle.dnp_pointdb.specs.declared.point.Block.{Block}
use Rattle.dnp_pointdb.specs.declared.order.SortedBlocks.{SortedBlocks}
use Rattle.dnp_pointdb.specs.declared.order.BlockPlace.{BlockPlace}
use Rattle.dnp_pointdb.specs.declared.state.BlockState.{BlockState}
use Rattle.dnp_pointdb.specs.Plan.{Plan, blocks_of}

-- where a block begins, and how many points it has
pub record Extent : Type 0 where
  pub first : ℕ
  pub count : ℕ

abbrev pub extent_of : Block → Extent
extent_of block = record { first = block.base; count = length block.points }

abbrev pub extent : BlockState → Extent
extent block = record { first = block.base; count = length block.points }

abbrev pub extents : List BlockState → List Extent
extents blocks = map extent blocks

abbrev pub covers : Extent → ℕ → Bool
covers e index = nat_le e.first index && nat_lt index (e.first + e.count)

-- the first block that has the index, by number, and the point's place in it
abbrev pub place_in : List Extent → ℕ → Option (ℕ × ℕ)
place_in [] index = None
place_in (e ∷ es) index =
    (if covers e index then Some (0, index - e.first) else option_map (λ p. (suc p.0, p.1)) (place_in es index))

-- the place is that of its block
abbrev pub IsPlaceOf : List Extent → BlockPlace → Type 0
IsPlaceOf es place =
    (0 < place.count)
    × (place.block < length es)
    × HoldsAt (λ e. (e.first ≡ place.first) × (e.count ≡ place.count)) es place.block

-- no two blocks have an index in common
abbrev pub AreApart : List Extent → Type 0
AreApart es =
    (i j index : ℕ) (d d' : Extent) → i < j → j < length es
    → covers (slice_index_or es i d) index ≡ true → covers (slice_index_or es j d') index ≡ true → ⊥

-- the places of the blocks that have points, by rising base
pub record IsOrder (es : List Extent) (order : List BlockPlace) : Type 0 where
  pub rising : IsNonDecreasingBy (λ place. place.first) order
  pub listed : All (IsPlaceOf es) order
  pub complete : (j : ℕ) → j < length es → HoldsAt (λ e. 0 < e.count → Any (λ place. place.block ≡ j) order) es j
  pub apart : AreApart es

-- the order of a kind
abbrev pub order_in : SortedBlocks → Kind → List BlockPlace
order_in orders kind = slice_index_or (map (λ order. order.items) orders.of_kinds) (kind_number kind) []

-- each kind's is one of its blocks
abbrev pub AreOrders : Plan → SortedBlocks → Type 0
AreOrders plan orders = (kind : Kind) → IsOrder (map extent_of (blocks_of plan kind)) (order_in orders kind)
