-- Definition: what is so of every database, and so what a caller may rest on without a test: its points have
-- classes, its readings can be written, and each index is one point's (IEEE Std 1815-2012,
-- application layer: event classes; object library: point indices, ranges of values and times).
use Rattle.std.specs.Prelude.{◌≡◌, ℕ, ◌+◌, ◌≤◌, true, List, length, All}
use Rattle.std.specs.List.{AllPairs}
use Rattle.dnp_objects.specs.declared.limits.TheConstants.{CLASSES}
use Rattle.dnp_pointdb.specs.declared.limits.TheConstants.{INDICES, MAX_POINTS}
use Rattle.dnp_objects.specs.declared.row.Kind.{Kind}
use Rattle.dnp_objects.specs.declared.row.Kind.TheVariants.{Binary, Counter, Analog}
use Rattle.dnp_pointdb.specs.declared.state.PointState.{PointState}
use Rattle.dnp_pointdb.specs.declared.state.BlockState.{BlockState}
use Rattle.dnp_pointdb.specs.Ranges.{is_carried, is_in_time}
use Rattle.dnp_pointdb.specs.Database.{Database, blocks_of, has_index}

-- a point of this kind has a class from 0 to 3, and its reading is one that it may be changed to
pub record IsSoundPoint (kind : Kind) (state : PointState) : Type 0 where
  pub class : state.point.class ≤ CLASSES
  pub carried : is_carried kind state.reading ≡ true
  pub in_time : is_in_time state.reading.time ≡ true

-- a block of this kind has at most 1,024 points, all sound, with indices up to 65,535
pub record IsSoundBlock (kind : Kind) (block : BlockState) : Type 0 where
  pub few : length block.points ≤ MAX_POINTS
  pub narrow : block.base + length block.points ≤ INDICES
  pub points : All (IsSoundPoint kind) block.points

-- no index belongs to both blocks
abbrev pub ShareNoIndex : BlockState → BlockState → Type 0
ShareNoIndex block other =
    (index : ℕ) → has_index block index ≡ true → has_index other index ≡ true → ⊥

-- the blocks of a kind are sound, and each index belongs to one of them at most
pub record AreSoundBlocks (kind : Kind) (blocks : List BlockState) : Type 0 where
  pub each : All (IsSoundBlock kind) blocks
  pub apart : AllPairs ShareNoIndex blocks

-- and so in each kind
abbrev pub IsSoundDatabase : Database → Type 0
IsSoundDatabase database = (kind : Kind) → AreSoundBlocks kind (blocks_of database kind)

-- the object that a present value of this kind is written as, by group and variation, where this variation was asked
-- for, 0 for any: whatever was, the one with flags and the widest value
abbrev pub static_object : Kind → ℕ → ℕ × ℕ
static_object Binary asked = (1, 2)
static_object Counter asked = (20, 1)
static_object Analog asked = (30, 1)
