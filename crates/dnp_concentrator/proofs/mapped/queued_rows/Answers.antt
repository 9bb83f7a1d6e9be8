use Rattle.std.proofs.Common.{◌≡◌, List, sym, subst, arith}
use Rattle.std.specs.List.{All}
use Rattle.dnp_objects.specs.declared.lane.LaneRow.{LaneRow}
use Rattle.dnp_eventbuf.specs.FitsLane.{FitsLane}
use Rattle.dnp_concentrator.specs.Mapped.{queued_rows}
use Rattle.dnp_concentrator.proofs.Queued.{all_carried, all_queued}
use Rattle.dnp_concentrator.proofs.mapped.queued_rows.Goals as goal

pub returns-clause-carried : goal.returns-clause-carried
returns-clause-carried c = λ events.
    let all : c.loop-event.rows.items ≡ queued_rows c.args.map.now c.args.points.now c.args.substation c.args.events.now =
    all_queued c.args.map.now c.args.points.now c.args.substation c.args.events.now c.loop-event.event-index c.loop-event.rows.items c.loop-event.invariant
    (omega (arith, c.loop-event-test.false)) in
    subst (λ (rows : List LaneRow). All FitsLane rows) (sym all)
    (all_carried c.args.map.now c.args.points.now c.args.substation c.args.events.now c.substations.ensures.map events)
