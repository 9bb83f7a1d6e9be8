-- Definition: where the point of an index stands, so that it is looked up but once.
use Rattle.std.specs.Prelude.{◌≡◌, ℕ, List, Some}
use Rattle.dnp_objects.specs.declared.row.Kind.{Kind}
use Rattle.dnp_pointdb.specs.declared.place.PointPlace.{PointPlace}
use Rattle.dnp_pointdb.specs.declared.state.BlockState.{BlockState}
use Rattle.dnp_pointdb.specs.Database.{Database, blocks_of}
use Rattle.dnp_pointdb.specs.steps.Order.{extents, place_in}

-- in these blocks
abbrev pub IsPlaceIn : List BlockState → ℕ → PointPlace → Type 0
IsPlaceIn blocks index at = place_in (extents blocks) index ≡ Some (at.block, at.place)

abbrev pub IsPlace : Database → Kind → ℕ → PointPlace → Type 0
IsPlace database kind index at = IsPlaceIn (blocks_of database kind) index at
