use Rattle.std.proofs.Common.{◌≡◌, ℕ, ◌+◌, ◌<◌, List, ◌∷◌, ◌++◌, [], ◌∙◌, ap, arith, sym, drop, get_or, length, length-append, map, add-one, drop-cons}
use Rattle.dnp_objects.specs.declared.limits.TheConstants.{LANES}
use Rattle.dnp_eventbuf.specs.EventBuffer.{LaneState, lane_rows, row_of}
use Rattle.dnp_eventbuf.proofs.Remaining.{adds_next, on_err, front_there, whole_there}
use Rattle.dnp_eventbuf.proofs.nine_steps.push_all.Goals as goal

next : (lanes : List LaneState) (i : ℕ) (d : LaneState) → length lanes ≡ LANES → i < LANES → drop i lanes ≡ get_or lanes i d ∷ drop (i + 1) lanes
next lanes i d nine low = let low' : i < length lanes = omega (arith, nine, low) in rw (add-one, drop-cons lanes i d)

pub loop-lane-preserved : goal.loop-lane-preserved
loop-lane-preserved g c =
    let i = c.loop-lane.lane-index in
    let lanes = c.args.lanes.now in
    let lane : LaneState = get_or lanes i c.lane-item.result in
    let here : drop i lanes ≡ lane ∷ drop (i + 1) lanes = next lanes i c.lane-item.result c.type_inv.lanes c.loop-lane-test.true in
    let front = map row_of lane.rows in
    let added = c.loop-lane.out.items in
    let now = c.push_all.new.out.items in
    let more : now ≡ added ++ front = c.in_ok-push_all.ensures.rows in
    record {
      whole = adds_next added now front (lane_rows (drop (i + 1) lanes)) _ more (ap (λ ls. added ++ lane_rows ls) (sym here) ∙ c.loop-lane.invariant.whole);
      grows = omega (arith, c.loop-lane.invariant.grows, ap length more, length-append added front);
    }

pub returns-in_err-push_all-clause-memory : goal.returns-in_err-push_all-clause-memory
returns-in_err-push_all-clause-memory g c =
    let i = c.loop-lane.lane-index in
    let lanes = c.args.lanes.now in
    let lane : LaneState = get_or lanes i c.lane-item.result in
    let here : drop i lanes ≡ lane ∷ drop (i + 1) lanes = next lanes i c.lane-item.result c.type_inv.lanes c.loop-lane-test.true in
    let some : map row_of lane.rows ≡ [] → ⊥ = c.in_err-push_all.ensures.memory in
    let remain : lane_rows (drop i lanes) ≡ [] → ⊥ = λ none. front_there (map row_of lane.rows) (lane_rows (drop (i + 1) lanes)) some (sym (ap lane_rows here) ∙ none) in
    on_err c.from_residual.result (whole_there c.loop-lane.out.items (lane_rows (drop i lanes)) c.args.out.now.items (lane_rows lanes) c.loop-lane.invariant.whole c.loop-lane.invariant.grows remain)
