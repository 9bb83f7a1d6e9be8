use Rattle.std.proofs.Common.{◌≡◌, ◌∙◌, ap, false, nat_lt, subst, sym}
use Rattle.std.specs.List.{list_any}
use Rattle.dnp_eventbuf.specs.declared.numbered.Numbered.{Numbered}
use Rattle.dnp_eventbuf.specs.EventBuffer.{LaneState}
use Rattle.dnp_eventbuf.proofs.InOrder.{rises_back}
use Rattle.dnp_eventbuf.proofs.Offers.{Rises}
use Rattle.dnp_eventbuf.proofs.Over.{filter-none, take-none}
use Rattle.dnp_eventbuf.proofs.lane_of.LaneOf.offer_into.Goals as goal

pub cut-requires-2 : goal.cut-requires-2
cut-requires-2 g c =
    let all = c.runs.ensures ∙ ap (λ (l : LaneState). l.rows) c.self.view_is in
    record { rising = rises_back c.runs.result.0.now c.runs.result.1.now (subst Rises (sym all) c.requires.rising) }

pub returns-then-not-has_over-clause-rows : goal.returns-then-not-has_over-clause-rows
returns-then-not-has_over-clause-rows g c =
    let none : list_any (λ x. nat_lt c.args.after x.id) c.args.self.now.rows ≡ false = sym c.has_over.ensures ∙ c.if-not-has_over.true in
    c.clear.ensures.items ∙ sym (take-none c.args.most _ (filter-none (λ (x : Numbered). nat_lt c.args.after x.id) c.args.self.now.rows none))
