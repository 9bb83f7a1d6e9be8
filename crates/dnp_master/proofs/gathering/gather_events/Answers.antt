use Rattle.std.proofs.Common.{◌≡◌, true, List, sym, ◌∙◌, subst}
use Rattle.std.specs.List.{All, list_all}
use Rattle.dnp_objects.specs.Events.{IsEvent}
use Rattle.dnp_objects.specs.declared.row.Row.{Row}
use Rattle.dnp_appfragment.specs.EventRows.{header_rows, is_event_header}
use Rattle.dnp_appfragment.specs.Headers.{Head}
use Rattle.dnp_appfragment.specs.Seen.{head}
use Rattle.dnp_master.specs.steps.Gathering.{Gathers}
use Rattle.dnp_master.specs.Rows.{is_reported}
use Rattle.dnp_master.proofs.Gatherings.{EventsLeft, event_header}
use Rattle.dnp_master.proofs.gathering.gather_events.Goals as goal

pub loop-header-preserved : goal.loop-header-preserved
loop-header-preserved c =
    let h : Head = head c.in-Some.header in
    let event : is_event_header h ≡ true = sym c.is_event.ensures ∙ c.if-not-is_event.false in
    let rows : c.rows.result ≡ header_rows h = c.rows.ensures.all in
    let reported : list_all (is_reported c.args.plan.now) c.rows.result ≡ true = sym c.gather_rows.ensures.checked ∙ c.if-not-gather_rows.false in
    let left : EventsLeft c.args.plan.now c.loop-header.gathering c.loop-header.header-iterator.headers
    c.gather_rows.new.gathering c.next.new.self.headers =
    event_header c.args.plan.now c.loop-header.gathering c.gather_rows.new.gathering h c.next.new.self.headers c.loop-header.header-iterator.headers
    c.in-Some.ensures.steps.0 event (subst (λ (xs : List Row). list_all (is_reported c.args.plan.now) xs ≡ true) rows reported)
    (subst (λ (xs : List Row). Gathers c.loop-header.gathering xs c.gather_rows.new.gathering) rows (c.gather_rows.ensures.gathered c.if-not-gather_rows.false))
    (subst (λ (xs : List Row). All IsEvent xs) rows c.rows.ensures.events) in
    record {
      all = left.all ∙ c.loop-header.invariant.all;
      rest = λ n later. c.loop-header.invariant.rest n (left.gathers n later);
      carried = λ later. c.loop-header.invariant.carried (left.carried later);
    }
