-- An outstation that is opened, closed or restarted, as moves of its link.
use Rattle.std.proofs.Common.{◌≡◌, ℕ, ◌+◌, ◌<◌, ◌≤◌, Bool, true, false, List, [], ◌∷◌, ◌++◌, length, map, inl, inr, ◌⊎◌, refl, sym, ap, ◌∙◌, subst, arith, append-nil}
use Rattle.std.proofs.lemmas.List.{map-append}
use Rattle.dnp_objects.specs.declared.command.Command.{Command}
use Rattle.dnp_objects.specs.declared.row.Row.{Row}
use Rattle.dnp_eventbuf.specs.Buffered.{buffered_as, buffered_from, buffered_in, buffered_row}
use Rattle.dnp_eventbuf.specs.Sound.{IsSoundBuffer}
use Rattle.dnp_eventbuf.specs.EventBuffer.{LaneState, EventBuffer, lane_rows, rows_in, row_of, without_all}
use Rattle.dnp_eventbuf.specs.declared.numbered.Numbered.{Numbered}
use Rattle.dnp_pointdb.specs.Database.{Database, restarted}
use Rattle.dnp_pointdb.specs.Sound as points
use Rattle.dnp_pointdb.specs.declared.times.Times.{Times}
use Rattle.dnp_outstation.specs.Calls.{opened_of, restarted_core, restart_of, emptied_of}
use Rattle.dnp_outstation.specs.Connection.{closed, starts, at_end, unsolicited_of}
use Rattle.dnp_outstation.specs.Content.{plain}
use Rattle.dnp_outstation.specs.Items.{no_ids}
use Rattle.dnp_outstation.specs.Links.{Reports, IsInOrder, begun}
use Rattle.dnp_outstation.specs.State.{State, Step, nothing, still}
use Rattle.dnp_outstation.specs.Station.{new_core}
use Rattle.dnp_outstation.specs.Tidy.{LeavesNothing}
use Rattle.dnp_world.specs.Lanes.{HasLanes, fresh_link, lanes_emptied}
use Rattle.dnp_world.specs.LawLink.{LawOutstation, LawLink}
use Rattle.dnp_world.specs.Moves.{Move, Open, CloseOutstation, opened, with_outstation}
use Rattle.dnp_world.specs.Standing.{CarriesLaw}
use Rattle.dnp_world.specs.OutstationSeen.{outstation_seen, Shows, Simulates}
use Rattle.dnp_world.proofs.Keeping.{move_stands}
use Rattle.dnp_world.proofs.OutstationLaws.{EndLaws}
use Rattle.dnp_world.proofs.OutstationSteps.{Grown, grown_quiet, grown_both, one_move, Sees, shown_sees, Goes, goes_still, goes_simulates, goes_starts, goes_end}
use Rattle.dnp_world.proofs.OutstationTimers.{close_goes}

-- ---- a new one

pub new_shown : (database : Database) (times : Times) (lanes : EventBuffer) (performed : List Command) → points.IsSoundDatabase database → IsSoundBuffer lanes
    → Shows (record { core = new_core database times; lanes = lanes; performed = performed }) (fresh_link lanes)
new_shown database times lanes performed sound_points sound = record {
  outstation = refl;
  lanes = record { rows = refl; last_id = refl };
  well = record {
    lanes = sound;
    points = sound_points;
    order = record { number = omega arith; classes = omega arith; held = λ holds. absurd (cc); several = λ more. absurd (cc) };
    tidy = record { awaited = tt; first = tt; unsolicited = tt };
    ids = record { awaited = tt; first = tt };
  };
}

-- ---- an opening

pub record OpenLaws : Type 0 where
  pub opens : (s : State) (now : ℕ) → s.core.times.unsolicited ≡ true → s.core.announced ≡ false
      → opened_of s now ≡ starts (still (begun s)) now (plain 0 [])
  pub opens_again : (s : State) (now : ℕ) → (s.core.times.unsolicited ≡ false) ⊎ (s.core.announced ≡ true)
      → opened_of s now ≡ at_end now (still (begun s))
  pub first : (s : State) → IsSoundBuffer s.lanes → s.core.session.next < 16
      → Reports s.lanes (unsolicited_of s (plain 0 [])) (record { fir = true; fin = true; con = true; uns = true; seq = s.core.session.next }) no_ids
  pub performed : (s : State) (now : ℕ) → (opened_of s now).state.performed ≡ s.performed
  pub order : (s : State) (now : ℕ) → IsInOrder s.core → IsInOrder (opened_of s now).state.core
  pub tidy : (s : State) (now : ℕ) → LeavesNothing (opened_of s now).state

begun_sees : (s : State) (l : LawLink) → Sees s l → Sees (begun s) (opened l)
begun_sees s l sees = record {
  outstation = refl;
  lanes = record { rows = sees.lanes.rows; last_id = sees.lanes.last_id };
  sound = sees.sound;
  points = sees.points;
  ids = record { awaited = tt; first = tt };
}

module _ (ends : EndLaws) (laws : OpenLaws) (s : State) (now : ℕ) (l : LawLink) (shows : Shows s l) (stands : CarriesLaw l) where
  begins : Goes [] [] (still (begun s)) (opened l)
  begins = goes_still (begun s) (opened l) (begun_sees s l (shown_sees s l shows))

  again : (s.core.times.unsolicited ≡ false) ⊎ (s.core.announced ≡ true) → Goes [] [] (opened_of s now) (opened l)
  again why =
      let same : opened_of s now ≡ at_end now (still (begun s)) = laws.opens_again s now why in
      let classes : length (opened_of s now).state.core.enabled ≤ 3 = (laws.order s now shows.well.order).classes in
      subst (λ (x : Step). Goes [] [] x (opened l)) (sym same)
      (goes_end ends [] [] now (still (begun s)) (opened l) (move_stands l (opened l) (Open refl) stands)
      (subst (λ (x : Step). length x.state.core.enabled ≤ 3) same classes) begins)

  first_time : s.core.times.unsolicited ≡ true → s.core.announced ≡ false → Goes [] [] (opened_of s now) (opened l)
  first_time on new =
      subst (λ (x : Step). Goes [] [] x (opened l)) (sym (laws.opens s now on new))
      (goes_starts [] [] now (still (begun s)) (plain 0 []) (opened l) refl (laws.first (begun s) shows.well.lanes (omega arith)) begins)

  by_tests : (on announced : Bool) → s.core.times.unsolicited ≡ on → s.core.announced ≡ announced → Goes [] [] (opened_of s now) (opened l)
  by_tests false announced on said = again (inl on)
  by_tests true true on said = again (inr said)
  by_tests true false on said = first_time on said

  pub opening_simulates : Simulates s [] (opened_of s now) (opened l)
  opening_simulates =
      goes_simulates s [] [] (opened_of s now) (opened l) (laws.performed s now ∙ sym (append-nil s.performed)) (laws.order s now shows.well.order)
      (laws.tidy s now) (by_tests s.core.times.unsolicited s.core.announced refl refl)

-- ---- a hang-up and a restart

pub record CloseLaws : Type 0 where
  pub lanes_emptied : (s : EventBuffer) (l : LawLink) → HasLanes s l → Move l (lanes_emptied s l) × HasLanes (without_all s) (lanes_emptied s l)
  pub emptied : (s : EventBuffer) → IsSoundBuffer s → IsSoundBuffer (without_all s)
  pub points : (database : Database) → points.IsSoundDatabase database → points.IsSoundDatabase (restarted database)
  pub order : (s : State) → IsInOrder s.core → IsInOrder (closed s.core)
  pub tidy : (s : State) → LeavesNothing (record s { core = closed s.core })
  pub restart_order : (s : State) (keep : Bool) → IsInOrder (restart_of s keep).core
  pub restart_tidy : (s : State) (keep : Bool) → LeavesNothing (restart_of s keep)

pub closing_simulates : CloseLaws → (s : State) (l : LawLink) → Shows s l → Simulates s [] (still (record s { core = closed s.core })) l
closing_simulates laws s l shows =
    goes_simulates s [] [] (still (record s { core = closed s.core })) l (sym (append-nil s.performed)) (laws.order s shows.well.order) (laws.tidy s)
    (close_goes s false l (shown_sees s l shows))

-- the rows of all lanes, without their names
rows_as : (number : ℕ) (xs : List Numbered) → map buffered_row (map (buffered_as number) xs) ≡ map row_of xs
rows_as number [] = refl
rows_as number (x ∷ xs) = ap (λ (rows : List Row). x.row ∷ rows) (rows_as number xs)

pub rows_from : (number : ℕ) (lanes : List LaneState) → map buffered_row (buffered_from number lanes) ≡ lane_rows lanes
rows_from number [] = refl
rows_from number (lane ∷ lanes) =
    map-append buffered_row (map (buffered_as number) lane.rows) (buffered_from (number + 1) lanes)
    ∙ ap (λ (rows : List Row). rows ++ map buffered_row (buffered_from (number + 1) lanes)) (rows_as number lane.rows)
    ∙ ap (λ (rows : List Row). map row_of lane.rows ++ rows) (rows_from (number + 1) lanes)

abbrev restarting : State → Bool → Step
restarting s keep = record { state = restart_of s keep; does = record nothing { overwritten = emptied_of s keep } }

restarted_closes : (s : State) (l : LawLink) → Sees s l → Grown l (with_outstation (outstation_seen (restarted_core s.core)) l) [] [] [] [] []
restarted_closes s l sees =
    let o : LawOutstation = outstation_seen (restarted_core s.core) in
    grown_quiet l (with_outstation o l) (CloseOutstation o refl refl) (record { master = refl; down = refl; took = refl; asked = refl })
    refl refl refl refl refl

restart_goes : CloseLaws → (s : State) (keep : Bool) (l : LawLink) → Sees s l → Goes [] [] (restarting s keep) l
restart_goes laws s true l sees = record {
  link = with_outstation (outstation_seen (restarted_core s.core)) l;
  sent = [];
  grown = restarted_closes s l sees;
  sees = record {
    outstation = refl;
    lanes = record { rows = sees.lanes.rows; last_id = sees.lanes.last_id };
    sound = sees.sound;
    points = laws.points s.core.points sees.points;
    ids = record { awaited = tt; first = tt };
  };
  octets = refl;
}
restart_goes laws s false l sees =
    let next : LawLink = with_outstation (outstation_seen (restarted_core s.core)) l in
    let new : LawLink = lanes_emptied s.lanes next in
    let seen : HasLanes s.lanes next = record { rows = sees.lanes.rows; last_id = sees.lanes.last_id } in
    let drops : Move next new × HasLanes (without_all s.lanes) new = laws.lanes_emptied s.lanes next seen in
    let second : Grown next new [] [] [] (rows_in s.lanes) [] = record {
      moves = one_move next new drops.0;
      master = record { master = refl; down = refl; took = refl; asked = refl };
      stood = sym (append-nil (map buffered_row next.stood));
      up = sym (append-nil next.up);
      released = sym (append-nil (map buffered_row next.released));
      left = map-append buffered_row next.left (buffered_in s.lanes)
          ∙ ap (λ (rows : List Row). map buffered_row next.left ++ rows) (rows_from 0 s.lanes.lanes);
      performed = sym (append-nil next.performed);
    } in
    record {
      link = new;
      sent = [];
      grown = grown_both l next new [] [] [] [] [] [] [] (rows_in s.lanes) [] [] (restarted_closes s l sees) second;
      sees = record {
        outstation = refl;
        lanes = drops.1;
        sound = laws.emptied s.lanes sees.sound;
        points = laws.points s.core.points sees.points;
        ids = record { awaited = tt; first = tt };
      };
      octets = refl;
    }

pub restart_simulates : CloseLaws → (s : State) (keep : Bool) (l : LawLink) → Shows s l → Simulates s [] (restarting s keep) l
restart_simulates laws s keep l shows =
    goes_simulates s [] [] (restarting s keep) l (sym (append-nil s.performed)) (laws.restart_order s keep) (laws.restart_tidy s keep)
    (restart_goes laws s keep l (shown_sees s l shows))
