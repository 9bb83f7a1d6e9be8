use Rattle.std.proofs.Common.{rules, ◌≡◌, ◌≢◌, ◌<◌, ℕ, length, length-set, sym, ap, ◌∙◌, arith}
use Rattle.std.specs.Prelude.{slice_index_or}
use Rattle.dnp_objects.specs.declared.limits.TheConstants.{LANES}
use Rattle.dnp_eventbuf.specs.Restored.{with_lost}
use Rattle.dnp_eventbuf.specs.EventBuffer.{LaneState, EventBuffer, lane_at, no_lane}
use Rattle.dnp_store.specs.QueueTables.{no_figures}
use Rattle.dnp_store.proofs.Pushing.{set_each}
use Rattle.dnp_store.proofs.decoding.restore_lost.Goals as goal

pub loop-number-preserved : goal.loop-number-preserved
loop-number-preserved c =
    let n = c.loop-number.number in
    let old = c.args.lanes.now in
    let mid = c.loop-number.lanes in
    let new = c.restore_lost.new.self in
    let lost : ℕ → ℕ = λ k. (slice_index_or c.args.figures.now k no_figures).lost in
    let lane : LaneState = record (lane_at mid n) { lost = lost n } in
    let low : n < LANES = omega arith in
    let nine : length old.lanes ≡ LANES = c.last_id-last.ensures.sound.nine in
    let is : new ≡ with_lost mid n (lost n) = search rules in
    let at : (k : ℕ) → lane_at (with_lost mid n (lost n)) k ≡ lane_at new k = λ k. ap (λ (s : EventBuffer). lane_at s k) (sym is) in
    let one : lane ≡ record (lane_at old n) { lost = lost n } =
    ap (λ (l : LaneState). record l { lost = lost n }) (c.loop-number.invariant.others n low (λ less. absurd (omega arith))) in
    record {
      nine = ap (λ (s : EventBuffer). length s.lanes) is ∙ length-set mid.lanes n lane ∙ c.loop-number.invariant.nine;
      done = λ k less. sym (at k) ∙ set_each (λ (j : ℕ) (l : LaneState). l ≡ record (lane_at old j) { lost = lost j }) mid.lanes lane no_lane n k
          (omega (arith, c.loop-number.invariant.nine)) one (λ apart. c.loop-number.invariant.done k (omega arith));
      others = λ k k_low apart. sym (at k) ∙ set_each (λ (j : ℕ) (l : LaneState). j ≢ n → l ≡ lane_at old j) mid.lanes lane no_lane n k
          (omega (arith, c.loop-number.invariant.nine)) (λ same. absurd (omega arith))
          (λ _ _. c.loop-number.invariant.others k k_low (λ less. apart (omega arith))) (λ same. apart (omega arith));
      same = (
        ap (λ (s : EventBuffer). s.overflow) is ∙ c.loop-number.invariant.same.0,
        ap (λ (s : EventBuffer). s.last_id) is ∙
            c.loop-number.invariant.same.1,
      );
    }
