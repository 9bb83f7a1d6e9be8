use Rattle.std.proofs.Common.{◌≡◌, ◌∙◌, ℕ, ◌+◌, ◌<◌, ◌≤◌, ◌||◌, ◌++◌, ◌∷◌, Bool, List, [], drop, length, get_or, ap, sym, subst, rules, arith, refl, add-one, drop-cons, vec_len, vec_capacity}
use Rattle.std.proofs.lemmas.Grind.{common_steps}
use Rattle.std.proofs.lemmas.List.{drop_all}
use Rattle.dnp_objects.specs.declared.limits.TheConstants.{MAX_ID}
use Rattle.dnp_objects.specs.Lanes.{lane_number}
use Rattle.dnp_objects.specs.declared.lane.LaneRow.{LaneRow}
use Rattle.dnp_eventbuf.specs.FitsLane.{FitsLane}
use Rattle.dnp_eventbuf.specs.Sound.{IsSoundLane}
use Rattle.dnp_eventbuf.specs.EventBuffer.{LaneState, EventBuffer, lane_at, is_full, dropped_from}
use Rattle.dnp_eventbuf.proofs.LaneNumbers.{lane_number-low, lane_read}
use Rattle.dnp_eventbuf.proofs.Puts.{all_put, goes_on, is_with_row, next_has_room}
use Rattle.dnp_eventbuf.proofs.nine_steps.put_all.Goals as goal

next_row : (rows : List LaneRow) (i : ℕ) (x : LaneRow) → x ≡ get_or rows i x → i < length rows → drop i rows ≡ x ∷ drop (i + 1) rows
next_row rows i x is low =
    let first : drop i rows ≡ get_or rows i x ∷ drop (i + 1) rows = rw (add-one, drop-cons rows i x) in
    first ∙ ap (λ (y : LaneRow). y ∷ drop (i + 1) rows) (sym is)

pub loop-x-init : goal.loop-x-init
loop-x-init g c = record { sound = c.requires.sound; done = refl; told = refl; room = c.requires.room }

pub put-requires : goal.put-requires
put-requires g c =
    let i = c.loop-x.x-index in
    let rows = c.args.rows.now in
    let x = c.x-item.result in
    let n = lane_number x.lane in
    let is : drop i rows ≡ x ∷ drop (i + 1) rows = next_row rows i x c.x-item.is c.loop-x-test.true in
    let s : EventBuffer = record { lanes = c.loop-x.lanes; overflow = c.loop-x.overflow; last_id = c.loop-x.last_id } in
    let begin : EventBuffer = record { lanes = c.args.lanes.now; overflow = c.args.overflow.now; last_id = c.args.last_id.now } in
    let lane : LaneState = c.index-lanes-number.result in
    let read : lane ≡ lane_at s n = lane_read s c.number.result x.lane lane c.index-lanes-number.is c.number.ensures.value c.number.ensures.range c.loop-x.invariant.sound.nine in
    let back : lane_at s n ≡ get_or c.loop-x.lanes c.number.result lane = sym read ∙ c.index-lanes-number.is in
    let sound : IsSoundLane n s.last_id (lane_at s n) = c.loop-x.invariant.sound.each n (lane_number-low x.lane) in
    record {
      takes_one = subst (λ (l : LaneState). 1 ≤ l.capacity) back sound.takes_one;
      counted = subst (λ (l : LaneState). l.lost ≤ MAX_ID) back sound.lost_at_most;
      room = subst (λ (l : LaneState). vec_len c.loop-x.dropped + length (dropped_from l) ≤ vec_capacity c.loop-x.dropped) back
          (next_has_room begin rows c.args.dropped.now.items s x (drop i rows) (drop (i + 1) rows) c.loop-x.dropped.items _ _ is c.loop-x.invariant);
    }

pub loop-x-preserved : goal.loop-x-preserved
loop-x-preserved g c =
    let i = c.loop-x.x-index in
    let rows = c.args.rows.now in
    let x = c.x-item.result in
    let low : i < length rows = c.loop-x-test.true in
    let is : drop i rows ≡ x ∷ drop (i + 1) rows = next_row rows i x c.x-item.is low in
    let s : EventBuffer = record { lanes = c.loop-x.lanes; overflow = c.loop-x.overflow; last_id = c.loop-x.last_id } in
    let begin : EventBuffer = record { lanes = c.args.lanes.now; overflow = c.args.overflow.now; last_id = c.args.last_id.now } in
    let lane : LaneState = c.index-lanes-number.result in
    let place : lane ≡ lane_at s (lane_number x.lane) =
    lane_read s c.number.result x.lane lane c.index-lanes-number.is c.number.ensures.value c.number.ensures.range c.loop-x.invariant.sound.nine in
    let was : is_full lane ≡ is_full (lane_at s (lane_number x.lane)) = ap is_full place in
    let carried : FitsLane x = subst FitsLane (sym c.x-item.is) (c.requires.carried i x low) in
    let told : c.is_full-was_full.result ≡ is_full lane = search rules in
    let full : (c.loop-x.overflow || c.is_full-was_full.result) ≡ (s.overflow || is_full (lane_at s (lane_number x.lane))) =
    ap (λ (b : Bool). c.loop-x.overflow || b) (told ∙ was) in
    let left : c.put.new.dropped.items ≡ c.loop-x.dropped.items ++ dropped_from lane = search rules in
    let count : vec_len c.put.new.dropped ≡ vec_len c.loop-x.dropped + length (dropped_from lane) = search rules in
    let more : c.put.new.dropped.items ≡ c.loop-x.dropped.items ++ dropped_from (lane_at s (lane_number x.lane)) =
    left ∙ ap (λ (l : LaneState). c.loop-x.dropped.items ++ dropped_from l) place in
    let longer : vec_len c.put.new.dropped ≡ vec_len c.loop-x.dropped + length (dropped_from (lane_at s (lane_number x.lane))) =
    count ∙ ap (λ (l : LaneState). vec_len c.loop-x.dropped + length (dropped_from l)) place in
    goes_on begin rows c.args.dropped.now.items s _ x (drop i rows) (drop (i + 1) rows) c.loop-x.dropped.items c.put.new.dropped.items
    (vec_len c.loop-x.dropped) (vec_len c.put.new.dropped) (vec_capacity c.loop-x.dropped) (vec_capacity c.put.new.dropped)
    is (is_with_row s x _ _ _ (grind (arith, common_steps)) full refl) carried c.requires.fits more longer c.put.ensures.capacity c.loop-x.invariant

pub returns : goal.returns
returns g c =
    let rows = c.args.rows.now in
    let none : drop c.loop-x.x-index rows ≡ [] = drop_all c.loop-x.x-index rows c.loop-x-test.false in
    let s : EventBuffer = record { lanes = c.loop-x.lanes; overflow = c.loop-x.overflow; last_id = c.loop-x.last_id } in
    let begin : EventBuffer = record { lanes = c.args.lanes.now; overflow = c.args.overflow.now; last_id = c.args.last_id.now } in
    let put = all_put begin rows c.args.dropped.now.items s _ c.loop-x.dropped.items _ _ none c.loop-x.invariant in
    record { sound = c.loop-x.invariant.sound; with = put.0; dropped = put.1 }
