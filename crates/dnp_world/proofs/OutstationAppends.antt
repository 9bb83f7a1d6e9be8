-- Rows that anybody appends to the lanes of an outstation, as moves of its link.
use Rattle.std.proofs.Common.{◌≡◌, ℕ, zero, suc, ◌+◌, ◌<◌, Bool, true, false, if◌then◌else◌, nat_lt, List, [], ◌∷◌, ◌++◌, refl, sym, ap, ◌∙◌, subst, arith, append-nil, slice_set, slice_index_or}
use Rattle.std.specs.List.{All, list_any}
use Rattle.std.proofs.lemmas.Bool.{both_ways, false_from_ne_true, lt-ltb, ltb-true, or_from, or_parts}
use Rattle.std.proofs.lemmas.List.Elements.{All-nil, All-cons, All-head, All-tail}
use Rattle.dnp_objects.specs.Lanes.{lane_number}
use Rattle.dnp_objects.specs.declared.lane.LaneRow.{LaneRow}
use Rattle.dnp_objects.specs.declared.limits.TheConstants.{MAX_ID}
use Rattle.dnp_objects.specs.declared.row.Row.{Row}
use Rattle.dnp_eventbuf.specs.FitsLane.{FitsLane}
use Rattle.dnp_eventbuf.specs.Sound.{IsSoundBuffer}
use Rattle.dnp_eventbuf.specs.EventBuffer.{LaneState, EventBuffer, no_lane, lane_at, is_full, put_in, moved_on, added_in, arriving, with_row, with_rows, dropped_by, is_past, exhausts}
use Rattle.dnp_eventbuf.specs.declared.numbered.Numbered.{Numbered}
use Rattle.dnp_outstation.specs.State.{State, nothing}
use Rattle.dnp_outstation.specs.Tidy.{LeavesNothing}
use Rattle.dnp_world.specs.Lanes.{HasLanes, lane_appended}
use Rattle.dnp_world.specs.LawLink.{LawLink}
use Rattle.dnp_world.specs.OutstationSeen.{Shows, Simulates}
use Rattle.dnp_world.proofs.OutstationChanges.{RowLaws, appended_grows}
use Rattle.dnp_world.proofs.OutstationSteps.{Grown, grown_none, grown_both, goes_simulates}

-- ---- lanes that are not past their limits were not so before

less_before : (most n : ℕ) → nat_lt most (n + 1) ≡ false → nat_lt most n ≡ false
less_before most n e =
    false_from_ne_true (nat_lt most n) (λ is.
    let over : most < n = ltb-true most n is in
    both_ways (nat_lt most (n + 1)) e (lt-ltb most (n + 1) (omega (arith, over))))

any_before : (p : LaneState → Bool) (lanes : List LaneState) (n : ℕ) (lane : LaneState) → (p (slice_index_or lanes n no_lane) ≡ true → p lane ≡ true)
    → list_any p (slice_set lanes n lane) ≡ false → list_any p lanes ≡ false
any_before p [] n lane h e = refl
any_before p (x ∷ lanes) zero lane h e =
    let parts : (p lane ≡ false) × (list_any p lanes ≡ false) = or_parts (p lane) (list_any p lanes) e in
    or_from (p x) (list_any p lanes) (false_from_ne_true (p x) (λ is. both_ways (p lane) parts.0 (h is))) parts.1
any_before p (x ∷ lanes) (suc n) lane h e =
    let parts : (p x ≡ false) × (list_any p (slice_set lanes n lane) ≡ false) = or_parts (p x) (list_any p (slice_set lanes n lane)) e in
    or_from (p x) (list_any p lanes) parts.0 (any_before p lanes n lane h parts.1)

lost_grows : (lane : LaneState) (x : Numbered) → nat_lt MAX_ID lane.lost ≡ true → nat_lt MAX_ID (put_in lane x).lost ≡ true
lost_grows lane x is = by (is_full lane)
  where
    by : (b : Bool) → nat_lt MAX_ID (if b then moved_on lane x else added_in lane x).lost ≡ true
    by true = let over : MAX_ID < lane.lost = ltb-true MAX_ID lane.lost is in lt-ltb MAX_ID (lane.lost + 1) (omega (arith, over))
    by false = is

past_before : (s : EventBuffer) (x : LaneRow) → is_past (with_row s x) ≡ false → is_past s ≡ false
past_before s x e =
    let p : LaneState → Bool = λ lane. nat_lt MAX_ID lane.lost in
    let number : ℕ = lane_number x.lane in
    let row : Numbered = record { id = s.last_id + 1; row = x.row } in
    let parts : (nat_lt MAX_ID (s.last_id + 1) ≡ false) × (list_any p (with_row s x).lanes ≡ false) =
    or_parts (nat_lt MAX_ID (s.last_id + 1)) (list_any p (with_row s x).lanes) e in
    or_from (nat_lt MAX_ID s.last_id) (list_any p s.lanes) (less_before MAX_ID s.last_id parts.0)
    (any_before p s.lanes number (put_in (lane_at s number) row) (lost_grows (lane_at s number) row) parts.1)

rows_before : (s : EventBuffer) (rows : List LaneRow) → is_past (with_rows s rows) ≡ false → is_past s ≡ false
rows_before s [] e = e
rows_before s (x ∷ rows) e = past_before s x (rows_before (with_row s x) rows e)

-- ---- rows one after the other

pub record AppendLaws : Type 0 where
  pub rows : RowLaws
  pub sound : (s : EventBuffer) (rows : List LaneRow) → IsSoundBuffer s → All FitsLane rows → exhausts s rows ≡ false → IsSoundBuffer (with_rows s rows)
  pub tidy : (s : State) (rows : List LaneRow) → LeavesNothing s → LeavesNothing (record s { lanes = with_rows s.lanes rows })

record Appended (s : EventBuffer) (rows : List LaneRow) (l : LawLink) : Type 0 where
  link : LawLink
  grown : Grown l link (arriving rows) [] [] (dropped_by s rows) []
  lanes : HasLanes (with_rows s rows) link
  outstation : link.outstation ≡ l.outstation

appends : AppendLaws → (s : EventBuffer) (rows : List LaneRow) (l : LawLink) → IsSoundBuffer s → All FitsLane rows → exhausts s rows ≡ false → HasLanes s l
    → Appended s rows l
appends laws s [] l sound carried fits seen = record { link = l; grown = grown_none l; lanes = seen; outstation = refl }
appends laws s (x ∷ rows) l sound carried fits seen =
    let next : LawLink = lane_appended s x l in
    let one : All FitsLane (x ∷ []) = All-cons FitsLane x [] (All-head FitsLane x rows carried) (All-nil FitsLane) in
    let sound' : IsSoundBuffer (with_row s x) = laws.sound s (x ∷ []) sound one (rows_before (with_row s x) rows fits) in
    let rest : Appended (with_row s x) rows next =
    appends laws (with_row s x) rows next sound' (All-tail FitsLane x rows carried) fits (laws.rows.appended s x l sound seen).1 in
    let gone : dropped_by s (x ∷ []) ++ dropped_by (with_row s x) rows ≡ dropped_by s (x ∷ rows) =
    ap (λ (xs : List Row). xs ++ dropped_by (with_row s x) rows) (append-nil _) in
    record {
      link = rest.link;
      grown = subst (λ (xs : List Row). Grown l rest.link (arriving (x ∷ rows)) [] [] xs []) gone
          (grown_both l next rest.link (arriving (x ∷ [])) (arriving rows) [] [] [] [] (dropped_by s (x ∷ [])) (dropped_by (with_row s x) rows) [] []
          (appended_grows laws.rows s x l sound seen) rest.grown);
      lanes = rest.lanes;
      outstation = rest.outstation;
    }

pub appends_simulate : AppendLaws → (s : State) (rows : List LaneRow) (l : LawLink) → All FitsLane rows → exhausts s.lanes rows ≡ false → Shows s l
    → Simulates s (arriving rows) (record {
      state = record s { lanes = with_rows s.lanes rows };
      does = record nothing { overwritten = dropped_by s.lanes rows };
    }) l
appends_simulate laws s rows l carried fits shows =
    let all : Appended s.lanes rows l = appends laws s.lanes rows l shows.well.lanes carried fits shows.lanes in
    goes_simulates s (arriving rows) [] (record {
      state = record s { lanes = with_rows s.lanes rows };
      does = record nothing { overwritten = dropped_by s.lanes rows };
    }) l (sym (append-nil s.performed)) shows.well.order (laws.tidy s rows shows.well.tidy) record {
      link = all.link;
      sent = [];
      grown = all.grown;
      sees = record {
        outstation = shows.outstation ∙ sym all.outstation;
        lanes = all.lanes;
        sound = laws.sound s.lanes rows shows.well.lanes carried fits;
        points = shows.well.points;
        ids = shows.well.ids;
      };
      octets = refl;
    }
