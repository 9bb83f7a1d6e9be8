-- Definition: the classes of points, as a plan gives them (IEEE Std 1815-2012, application layer:
-- event classes).
use Rattle.std.specs.Prelude.{ℕ, ◌+◌, ◌-◌, Bool, ◌&&◌, nat_lt, nat_le, if◌then◌else◌, List, [], ◌∷◌, length, Option, None, slice_get}
use Rattle.std.specs.Option.{option_map}
use Rattle.dnp_objects.specs.declared.row.Kind.{Kind}
use Rattle.dnp_pointdb.specs.declared.point.Point.{Point}
use Rattle.dnp_pointdb.specs.declared.point.Block.{Block}
use Rattle.dnp_pointdb.specs.Plan.{Plan, blocks_of}

-- whether one of the block's points has this index
abbrev pub has_index : Block → ℕ → Bool
has_index block index = nat_le block.base index && nat_lt index (block.base + length block.points)

-- the point of this index, in the first block that has the index
abbrev pub point_in : List Block → ℕ → Option Point
point_in [] index = None
point_in (block ∷ blocks) index =
    (if has_index block index then slice_get block.points (index - block.base) else point_in blocks index)

-- the class of the point of this kind and index, if the plan has it
abbrev pub class_at : Plan → Kind → ℕ → Option ℕ
class_at plan kind index = option_map (λ point. point.class) (point_in (blocks_of plan kind) index)
