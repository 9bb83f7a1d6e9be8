-- Private steps: rows that are held while a row is appended, and the rows of the lanes after it.
use Rattle.std.specs.Prelude.{◌≡◌, ◌<◌, ◌≤◌, ◌+◌, ◌*◌, ◌==◌, ◌&&◌, ℕ, Bool, true, false, if◌then◌else◌, List, [], ◌∷◌, take, drop, All, slice_index_or, Option, None, Some}
use Rattle.dnp_objects.specs.declared.lane.LaneRow.{LaneRow}
use Rattle.dnp_objects.specs.Events.{IsEvent}
use Rattle.dnp_objects.specs.Lanes.{lane_number}
use Rattle.dnp_objects.specs.declared.limits.TheConstants.{MAX_FRAGMENT}
use Rattle.dnp_objects.specs.declared.row.Kind.{Kind}
use Rattle.dnp_eventbuf.specs.declared.numbered.Numbered.{Numbered}
use Rattle.dnp_eventbuf.specs.Sound.{IsSoundBuffer}
use Rattle.dnp_eventbuf.specs.EventBuffer.{EventBuffer, lane_at, is_full}
use Rattle.dnp_outstation.specs.declared.held.HeldClass.{HeldClass}
use Rattle.dnp_outstation.specs.declared.held.HeldRows.{HeldRows}
use Rattle.dnp_outstation.specs.declared.held.NewRow.{NewRow}
use Rattle.dnp_outstation.specs.steps.Putting.{least_octets}

-- ---- what is held

-- the first rows of a lane, which are of one kind: over those that a fragment has room for, with those that may wait, one
-- at least, and one beside it, which may be dropped
pub record AreFirst (all rows : List Numbered) : Type 0 where
  pub kind : Kind
  pub of_kind : All (λ x. x.row.kind ≡ kind) rows
  pub most : ℕ
  pub enough : (n : ℕ) → least_octets kind * n ≤ MAX_FRAGMENT + 7 → n + 1 < most
  pub is : rows ≡ take most all

-- those of a lane are held
abbrev pub IsLaneHeld : EventBuffer → ℕ → List Numbered → Type 0
IsLaneHeld s lane rows = AreFirst (lane_at s lane).rows rows

pub record IsClassHeld (s : EventBuffer) (class : ℕ) (held : HeldClass) : Type 0 where
  pub binary : IsLaneHeld s (3 * class) held.binary.items
  pub counter : IsLaneHeld s (3 * class + 1) held.counter.items
  pub analog : IsLaneHeld s (3 * class + 2) held.analog.items

-- so they are of the classes that are enabled
pub record IsHeld (s : EventBuffer) (enabled : List Bool) (held : HeldRows) : Type 0 where
  pub sound : IsSoundBuffer s
  pub first : slice_index_or enabled 0 false ≡ true → IsClassHeld s 0 held.first
  pub second : slice_index_or enabled 1 false ≡ true → IsClassHeld s 1 held.second
  pub third : slice_index_or enabled 2 false ≡ true → IsClassHeld s 2 held.third

pub record AreClassEvents (held : HeldClass) : Type 0 where
  pub binary : All (λ x. IsEvent x.row) held.binary.items
  pub counter : All (λ x. IsEvent x.row) held.counter.items
  pub analog : All (λ x. IsEvent x.row) held.analog.items

pub record AreEvents (held : HeldRows) : Type 0 where
  pub first : AreClassEvents held.first
  pub second : AreClassEvents held.second
  pub third : AreClassEvents held.third

-- ---- the row that is appended

-- the row as its lane has it then, and whether that lane dropped its oldest row for it
abbrev pub new_of : EventBuffer → Option LaneRow → Option NewRow
new_of s None = None
new_of s (Some x) = Some (record {
  lane = lane_number x.lane;
  row = record { id = s.last_id + 1; row = x.row };
  has_dropped = is_full (lane_at s (lane_number x.lane));
})

-- what a lane keeps of its rows
abbrev pub kept_of : List Numbered → Option NewRow → ℕ → List Numbered
kept_of rows None lane = rows
kept_of rows (Some new) lane = if new.lane == lane && new.has_dropped then drop 1 rows else rows

-- the row that it takes, if it takes one
abbrev pub more_of : Option NewRow → ℕ → List Numbered
more_of None lane = []
more_of (Some new) lane = if new.lane == lane then new.row ∷ [] else []
