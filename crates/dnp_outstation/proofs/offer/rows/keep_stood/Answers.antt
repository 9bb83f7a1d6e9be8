use Rattle.std.proofs.Common.{rules, ◌≡◌, ◌≤◌, ◌-◌, sym, subst, filter, length, get_or, List, arith}
use Rattle.std.specs.List.{All}
use Rattle.std.proofs.lemmas.Fn.{filter_same}
use Rattle.std.proofs.lemmas.List.Elements.{All-filter}
use Rattle.dnp_eventbuf.specs.declared.numbered.Numbered.{Numbered}
use Rattle.dnp_objects.specs.Events.{IsEvent}
use Rattle.dnp_outstation.proofs.OfferRows.{last_stood, stood_at}
use Rattle.dnp_outstation.proofs.offer.rows.keep_stood.Goals as goal

pub returns-in-Some-clause-kept : goal.returns-in-Some-clause-kept
returns-in-Some-clause-kept c = λ _. filter_same _ _ _ (λ x b f' k. search rules) _ _ c.retain.ensures.filtered

pub returns-in-Some-clause-events : goal.returns-in-Some-clause-events
returns-in-Some-clause-events c = λ all.
    let kept : c.retain.new.self.items ≡ filter (stood_at c.args.stood) c.args.rows.now.items =
    filter_same _ _ _ (λ x b f' k. search rules) _ _ c.retain.ensures.filtered in
    subst (All (λ x. IsEvent x.row)) (sym kept) (All-filter (stood_at c.args.stood) (λ x. IsEvent x.row) c.args.rows.now.items all)

pub returns-else-last-stood-clause-kept : goal.returns-else-last-stood-clause-kept
returns-else-last-stood-clause-kept c = λ rising.
    let low : c.in-Some.last.now.id ≤ c.args.stood = omega (arith, c.if-last-stood.false) in
    sym (last_stood c.args.stood c.args.rows.now.items
    (λ d some. subst (λ (xs : List Numbered). (get_or xs (length xs - 1) d).id ≤ c.args.stood) c.deref.ensures.value
    (subst (λ (y : Numbered). y.id ≤ c.args.stood) (c.in-Some.ensures.item.4 (omega arith) d) low)) rising)
