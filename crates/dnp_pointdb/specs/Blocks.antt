-- Definition: points and their indices (IEEE Std 1815-2012, object library: a point has a number within its
-- kind). A block gives its points the indices from its base on.
use Rattle.std.specs.Prelude.{ℕ, ◌+◌, ◌<◌, ◌≤◌, List, length}
use Rattle.std.specs.List.{HoldsAt}
use Rattle.dnp_pointdb.specs.declared.point.Block.{Block}

-- one of the block's points has this index
pub record HasIndex (block : Block) (index : ℕ) : Type 0 where
  pub from_base : block.base ≤ index
  pub before_end : index < block.base + length block.points

-- two blocks of the list, at these places, have this index in common
pub record ShareIndex (blocks : List Block) : Type 0 where
  pub first : ℕ
  pub second : ℕ
  pub index : ℕ
  pub in_order : first < second
  pub in_list : second < length blocks
  pub of_first : HoldsAt (λ block. HasIndex block index) blocks first
  pub of_second : HoldsAt (λ block. HasIndex block index) blocks second
