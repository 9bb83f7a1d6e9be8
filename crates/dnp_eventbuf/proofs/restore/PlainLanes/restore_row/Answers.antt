use Rattle.std.proofs.Common.{◌≡◌, ◌<◌, ◌≤◌, true, false, not, ◌&&◌, nat_lt, arith, refl, get_or, sym, ap, subst, ◌∙◌}
use Rattle.std.proofs.lemmas.Grind.{common_steps}
use Rattle.std.proofs.lemmas.List.{get_or_read_under}
use Rattle.dnp_objects.specs.declared.limits.TheConstants.{LANES}
use Rattle.dnp_objects.specs.Lanes.{lane_number}
use Rattle.dnp_eventbuf.specs.EventBuffer.{EventBuffer, LaneState, lane_at, no_lane, is_full, last_of}
use Rattle.dnp_eventbuf.specs.Restored.{with_old_row}
use Rattle.dnp_eventbuf.proofs.Restoring.{IsSoundBuffer-with_old_row, has_room, is_above}
use Rattle.dnp_eventbuf.proofs.Soundness.{IsSoundBuffer-same_lanes}
use Rattle.dnp_eventbuf.proofs.restore.PlainLanes.restore_row.Goals as goal

pub invariant_of-self-2 : goal.invariant_of-self-2
invariant_of-self-2 c =
    let s : EventBuffer = record { lanes = c.self.inside.lanes; overflow = c.self.inside.overflow; last_id = c.self.inside.last_id } in
    let n = lane_number c.args.x.lane in
    let lane : LaneState = get_or c.self.inside.lanes c.number.result c.index-self-number.result in
    let low : n < LANES = subst (λ k. k < LANES) c.number.ensures.value c.number.ensures.range in
    let place : lane ≡ lane_at s n = sym c.index-self-number.is
    ∙ get_or_read_under c.self.inside.lanes c.number.result LANES c.index-self-number.result no_lane c.index-self-number.is c.number.ensures.range (sym c.self.invariant.nine)
    ∙ ap (lane_at s) c.number.ensures.value in
    let takes : (not (is_full lane) && nat_lt (last_of lane.rows) c.args.id) ≡ true =
    subst (λ (l : LaneState). (not (is_full l) && nat_lt (last_of l.rows) c.args.id) ≡ true) c.lane.view_is (sym c.takes.ensures ∙ c.if-not-takes.false) in
    let room : is_full (lane_at s n) ≡ false = ap is_full (sym place) ∙ has_room lane c.args.id takes in
    let over : last_of (lane_at s n).rows < c.args.id = subst (λ (l : LaneState). last_of l.rows < c.args.id) place (is_above lane c.args.id takes) in
    let upto : c.args.id ≤ s.last_id = let h = c.if-last_id-id.false in omega arith in
    IsSoundBuffer-same_lanes _ (with_old_row s c.args.id c.args.x) (grind (arith, common_steps)) refl
    (IsSoundBuffer-with_old_row s c.args.id c.args.x low c.self.invariant c.requires room over upto)
