-- One lane more was counted; each number below nine has a lane.
use Rattle.std.proofs.Common.{◌≡◌, ℕ, ◌+◌, ◌∙◌, length, ap, arith, subst, sym}
use Rattle.std.proofs.lemmas.Bool.{false≢true}
use Rattle.dnp_objects.specs.Lanes.{lane_number}
use Rattle.dnp_eventbuf.specs.Sound.{IsSoundBuffer}
use Rattle.dnp_eventbuf.specs.EventBuffer.{lane_at}
use Rattle.dnp_world.proofs.OneLinkLists.{IsCounting, one_counted, all_counted}
use Rattle.dnp_world.proofs.listing.rows_waiting.Goals as goal
use Rattle.dnp_world.proofs.listing.rows_waiting.Goals.{in-Some, in_default}

pub loop-number-preserved : goal.loop-number-preserved
loop-number-preserved g c =
    let honest = g.L.Lanes.honest in
    let contents = g.L.Lanes.contents in
    let lanes = c.loop-number.lanes in
    let number : ℕ = c.loop-number.number in
    elim c.match-numbered.branch [
      | in-Some w ↦
          (let same : w.len.new.self ≡ lanes = w.len.ensures.same in
          let counted = one_counted honest contents c.args.lanes.now lanes c.loop-number.count number (lane_number w.in-Some.lane) w.len.result
          c.loop-number.invariant c.loop-number-test.true w.in-Some.ensures.value (omega arith)
          (λ h. subst (λ ls. IsSoundBuffer (contents ls)) same (w.len.ensures.sound (subst honest (sym same) h)))
          (λ h. w.len.ensures.value (subst honest (sym same) h) ∙ ap (λ ls. length (lane_at (contents ls) (lane_number w.in-Some.lane)).rows) same) in
          subst (λ ls. IsCounting honest contents c.args.lanes.now ls c.match-numbered.count (number + 1)) (sym (w.lanes-is ∙ same))
          (subst (λ (n : ℕ). IsCounting honest contents c.args.lanes.now lanes n (number + 1)) (sym w.count-is) counted))
      | in_default w ↦ absurd (false≢true (w.in_default.ensures.in_range.1 c.loop-number-test.true))
    ]

pub returns-clause-count : goal.returns-clause-count
returns-clause-count g c =
    all_counted g.L.Lanes.honest g.L.Lanes.contents c.args.lanes.now c.loop-number.lanes c.loop-number.count c.loop-number.number c.loop-number.invariant
    (omega (arith, c.loop-number-test.false))
