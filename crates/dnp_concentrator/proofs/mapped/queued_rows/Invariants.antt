-- what is queued and what is still to come make the whole
use Rattle.std.proofs.Common.{◌≡◌, ◌++◌, drop}
use Rattle.dnp_concentrator.specs.Mapped.{queued_rows}
use Rattle.dnp_concentrator.proofs.mapped.queued_rows.Given as goal

abbrev pub invariant-loop-event : goal.invariant-loop-event
invariant-loop-event l =
    l.rows.items ++ queued_rows l.map l.points l.substation (drop l.event-index l.events) ≡ queued_rows l.map l.points l.substation l.events
