use Rattle.std.proofs.Common.{List, subst, ap, ◌∙◌}
use Rattle.std.specs.Prelude.{OnOk}
use Rattle.dnp_eventbuf.specs.Sides.{BothHave}
use Rattle.dnp_objects.specs.declared.lane.LaneRow.{LaneRow}
use Rattle.dnp_concentrator.specs.Concentrator.{plan_above, queue_of}
use Rattle.dnp_concentrator.specs.Mapped.{queued_rows}
use Rattle.dnp_concentrator.specs.declared.span.Spans.{Spans}
use Rattle.dnp_concentrator.proofs.concentrator.Concentrator.queue_events.Goals as goal

pub returns-clause-queued : goal.returns-clause-queued
returns-clause-queued g c = λ honest.
    let old = c.args.self.now in
    let Holds : List LaneRow → Type 0 = λ rows. OnOk c.append_both.result
    (BothHave (g.Q.PairLanes.contents (queue_of old)) rows (g.Q.PairLanes.contents c.append_both.new.queue)) in
    subst Holds
    (c.as_slice.ensures.value ∙ c.in-Ok.ensures.rows
    ∙ ap (λ (spans : List Spans). queued_rows spans (plan_above old) c.args.substation c.args.events.now) c.map-map.ensures)
    (c.append_both.ensures.queued honest)
