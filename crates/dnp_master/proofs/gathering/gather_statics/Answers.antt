use Rattle.std.proofs.Common.{◌≡◌, Bool, false, ◌∙◌, List, sym, subst}
use Rattle.std.specs.List.{filter}
use Rattle.dnp_objects.specs.declared.row.Row.{Row}
use Rattle.dnp_appfragment.specs.EventRows.{is_event_header}
use Rattle.dnp_appfragment.specs.Headers.{Head}
use Rattle.dnp_appfragment.specs.Seen.{head}
use Rattle.dnp_master.specs.steps.Gathering.{Gathers}
use Rattle.dnp_master.specs.Rows.{is_planned}
use Rattle.dnp_master.proofs.Gatherings.{static_header}
use Rattle.dnp_master.proofs.gathering.gather_statics.Goals as goal

pub loop-header-preserved-then-not-is_event : goal.loop-header-preserved-then-not-is_event
loop-header-preserved-then-not-is_event c = λ n later.
    let h : Head = head c.in-Some.header in
    let p : Row → Bool = is_planned c.args.plan.now in
    let static : is_event_header h ≡ false = sym c.is_event.ensures ∙ c.if-not-is_event.true in
    c.loop-header.invariant n
    (static_header c.args.plan.now c.loop-header.gathering c.gather_planned.new.gathering n h c.next.new.self.headers c.loop-header.header-iterator.headers
    c.in-Some.ensures.steps.0 static
    (subst (λ (xs : List Row). Gathers c.loop-header.gathering (filter p xs) c.gather_planned.new.gathering)
    c.rows.ensures.all c.gather_planned.ensures) later)
