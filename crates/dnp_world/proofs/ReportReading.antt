-- What a report reads, lane by lane and row by row.
use Rattle.std.proofs.Common.{◌≡◌, Bool, ℕ, ◌-◌, ◌^◌, ◌<◌, ◌≤◌, List, [], ◌∷◌, ◌++◌, length, take, refl, ap, ◌∙◌, arith}
use Rattle.std.specs.Prelude.{All, filter, map, min, nat_lt}
use Rattle.std.specs.List.{flat_map, sum_by}
use Rattle.std.proofs.lemmas.List.{map-append, take_all}
use Rattle.dnp_objects.specs.declared.row.Row.{Row}
use Rattle.dnp_eventbuf.proofs.Archives.{all_from_0}
use Rattle.dnp_eventbuf.specs.Sound.{IsSoundBuffer}
use Rattle.dnp_eventbuf.specs.EventBuffer.{LaneState, EventBuffer, lane_rows, row_of, rows_in}
use Rattle.dnp_eventbuf.specs.declared.numbered.Numbered.{Numbered}
use Rattle.dnp_world.specs.ReportShown.{all_in}

-- ---- lanes

-- rows by lanes are those of the lanes
pub all_rows_in : (s : EventBuffer) → map row_of (all_in s) ≡ rows_in s
all_rows_in s = by_lane s.lanes
  where
    by_lane : (lanes : List LaneState) → map row_of (flat_map (λ (lane : LaneState). lane.rows) lanes) ≡ lane_rows lanes
    by_lane [] = refl
    by_lane (lane ∷ lanes) =
        map-append row_of lane.rows (flat_map (λ (l : LaneState). l.rows) lanes) ∙ ap (λ (rows : List Row). map row_of lane.rows ++ rows) (by_lane lanes)

-- as many as there are of the rows with an id over 0 are all of them
pub all_over_0 : (rows : List Numbered) (count : ℕ) → All (λ x. 1 ≤ x.id) rows → count ≡ length rows
    → take count (filter (λ x. nat_lt 0 x.id) rows) ≡ rows
all_over_0 rows count from_1 counted =
    ap (λ (xs : List Numbered). take count xs) (all_from_0 rows from_1) ∙ take_all count rows (omega (arith, counted))

-- the rows of the first lanes were gathered
pub record IsGathering {L Place : Type 0} (honest : L → Type 0) (is_stopped : L → Bool) (contents : L → EventBuffer) (beside : L → List EventBuffer)
    (place : L → Place)
    (start lanes : L) (rows : List Numbered) (number : ℕ) : Type 0 where
  pub stands : place lanes ≡ place start
  pub held : honest lanes → honest start
  pub kept : honest lanes → beside lanes ≡ beside start
  pub same : honest lanes → contents lanes ≡ contents start
  pub sound : honest lanes → 0 < number → IsSoundBuffer (contents lanes)
  pub gathered : honest lanes → rows ≡ flat_map (λ lane. lane.rows) (take number (contents lanes).lanes)
  pub runs_on : is_stopped lanes ≡ is_stopped start

-- what the first lanes lost was counted
pub record IsLosing {L : Type 0} (honest : L → Type 0) (contents : L → EventBuffer) (start lanes : L) (lost number : ℕ) : Type 0 where
  pub same : lanes ≡ start
  pub sound : honest lanes → 0 < number → IsSoundBuffer (contents lanes)
  pub counted : honest lanes → lost ≡ min (sum_by (λ lane. lane.lost) (take number (contents lanes).lanes)) (2 ^ 64 - 1)
