-- What the calls of lanes are to a link, by what `dnp_eventbuf` promises of them.
use Rattle.std.proofs.Common.{◌≡◌, ℕ, ◌<◌, ◌≤◌, not, List, [], ◌∷◌, ◌++◌, length, map, refl, sym, ap, ◌∙◌, subst, arith}
use Rattle.std.specs.List.{All, count_by, filter}
use Rattle.std.specs.List.Sorted.{IsPermutation}
use Rattle.std.proofs.lemmas.List.{map-append}
use Rattle.std.proofs.lemmas.List.Sorted.{IsPermutation-refl}
use Rattle.dnp_objects.specs.declared.lane.LaneRow.{LaneRow}
use Rattle.dnp_objects.specs.declared.row.Row.{Row}
use Rattle.dnp_eventbuf.specs.Buffered.{Buffered, buffered_in, buffered_next, buffered_row, is_named, is_upto}
use Rattle.dnp_eventbuf.specs.Sound.{IsSoundBuffer}
use Rattle.dnp_eventbuf.specs.EventBuffer.{EventBuffer, with_rows, without, without_all, all_up_to}
use Rattle.dnp_world.specs.LawLink.{LawLink}
use Rattle.dnp_world.specs.Moves.{Move, Append, Drop, Moves, Done, Then, appended, released}
use Rattle.dnp_world.specs.Standing.{IsFresh}
use Rattle.dnp_world.specs.Lanes.{HasLanes, fresh_link, dropped_for, lane_appended, lanes_emptied}

-- what `dnp_eventbuf` promises of the rows of all lanes as one list
pub record Laws : Type 0 where
  pub left : (s : EventBuffer) (upto : List ℕ) → length upto ≡ length s.lanes
      → buffered_in (without s upto) ≡ filter (λ x. not (is_upto upto x)) (buffered_in s)
  pub given : (s : EventBuffer) (upto : List ℕ) → length upto ≡ length s.lanes
      → all_up_to s upto ≡ map buffered_row (filter (is_upto upto) (buffered_in s))
  pub appended : (s : EventBuffer) (x : LaneRow) → IsSoundBuffer s
      → IsPermutation (buffered_in s ++ buffered_next s x ∷ []) (buffered_in (with_rows s (x ∷ [])) ++ dropped_for s x)
  pub once : (s : EventBuffer) (id lane : ℕ) → IsSoundBuffer s → count_by (is_named id lane) (buffered_in s) ≤ 1
  pub ids : (s : EventBuffer) → IsSoundBuffer s → All (λ x. (1 ≤ x.id) × (x.id ≤ s.last_id)) (buffered_in s)
  pub emptied : (s : EventBuffer) → buffered_in (without_all s) ≡ []

pub sound_fresh : Laws → (s : EventBuffer) → IsSoundBuffer s → IsFresh (fresh_link s)
sound_fresh laws s sound =
    record {
      closed = refl;
      stood = refl;
      once = λ id lane. laws.once s id lane sound;
      ids = laws.ids s sound;
      took = refl;
      released = refl;
      left = refl;
      performed = refl;
      up = refl;
      current = refl;
      reported = refl;
    }

pub append_moves : Laws → (s : EventBuffer) (x : LaneRow) (l : LawLink) → IsSoundBuffer s → HasLanes s l
    → Moves l (lane_appended s x l) × HasLanes (with_rows s (x ∷ [])) (lane_appended s x l)
append_moves laws s x l sound h =
    let row : Buffered = buffered_next s x in
    let newer : l.last_id < row.id = omega (arith, h.last_id) in
    let parts : IsPermutation (l.lanes ++ row ∷ []) (buffered_in (with_rows s (x ∷ [])) ++ dropped_for s x) =
    subst (λ (xs : List Buffered). IsPermutation (xs ++ row ∷ []) (buffered_in (with_rows s (x ∷ [])) ++ dropped_for s x)) (sym h.rows)
    (laws.appended s x sound) in
    let comes : Move l (appended row l) = Append row newer refl in
    let leaves : Move (appended row l) (lane_appended s x l) = Drop (buffered_in (with_rows s (x ∷ []))) (dropped_for s x) parts refl in
    (Then (Then Done comes) leaves, record { rows = refl; last_id = refl })

pub empty_moves : Laws → (s : EventBuffer) (l : LawLink) → HasLanes s l
    → Move l (lanes_emptied s l) × HasLanes (without_all s) (lanes_emptied s l)
empty_moves laws s l h =
    let same : IsPermutation l.lanes (buffered_in s) = subst (IsPermutation l.lanes) h.rows (IsPermutation-refl l.lanes) in
    (Drop [] (buffered_in s) same refl, record { rows = sym (laws.emptied s); last_id = h.last_id })

pub release_moves : Laws → (s : EventBuffer) (upto : List ℕ) (l : LawLink) → length upto ≡ length s.lanes → HasLanes s l
    → HasLanes (without s upto) (released upto l)
release_moves laws s upto l long h =
    record {
      rows = ap (λ (xs : List Buffered). filter (λ x. not (is_upto upto x)) xs) h.rows ∙ sym (laws.left s upto long);
      last_id = h.last_id;
    }

pub release_gives : Laws → (s : EventBuffer) (upto : List ℕ) (l : LawLink) → length upto ≡ length s.lanes → HasLanes s l
    → map buffered_row (released upto l).released ≡ map buffered_row l.released ++ all_up_to s upto
release_gives laws s upto l long h =
    map-append buffered_row l.released (filter (is_upto upto) l.lanes)
    ∙ ap (λ (xs : List Buffered). map buffered_row l.released ++ map buffered_row (filter (is_upto upto) xs)) h.rows
    ∙ ap (λ (rows : List Row). map buffered_row l.released ++ rows) (sym (laws.given s upto long))
