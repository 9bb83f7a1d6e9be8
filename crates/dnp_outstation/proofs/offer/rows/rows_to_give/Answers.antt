use Rattle.std.proofs.Common.{rules, ◌≡◌, ℕ, Some, Err, filter, ap, subst, sym, ◌∙◌, arith, ◌<◌}
use Rattle.std.specs.List.{All}
use Rattle.std.proofs.lemmas.List.Elements.{All-filter}
use Rattle.dnp_objects.specs.Lanes.{lane_number}
use Rattle.dnp_objects.specs.declared.limits.TheConstants.{LANES}
use Rattle.dnp_objects.specs.declared.store.StoreFault.TheVariants.{Memory}
use Rattle.dnp_eventbuf.specs.declared.numbered.Numbered.{Numbered}
use Rattle.dnp_eventbuf.specs.Sound.{IsSoundBuffer}
use Rattle.dnp_eventbuf.specs.EventBuffer.{EventBuffer, offered, rows_in}
use Rattle.dnp_outstation.specs.Items.{rows_left}
use Rattle.dnp_outstation.specs.steps.Filling.{after_release, over_of}
use Rattle.dnp_outstation.proofs.NoRows.{none_offered}
use Rattle.dnp_outstation.proofs.OfferRows.{Rises, lane_kinds, rises_offered, rows_given, stood_at}
use Rattle.dnp_outstation.proofs.offer.rows.rows_to_give.Goals as goal

pub returns-in_err-offer_into-clause-look : goal.returns-in_err-offer_into-clause-look
returns-in_err-offer_into-clause-look g c = record {
  held = search rules;
  same = search rules;
  place = search rules;
  beside = search rules;
  stopped = search rules;
  device = search rules;
  runs_on = search rules;
  memory = λ honest is asks none.
      let old = g.L.Lanes.contents c.args.lanes.now in
      let same : g.L.Lanes.contents c.offer_into.new.self ≡ old = search rules in
      let memory : c.offer_into.result ≡ Err Memory = search rules in
      c.offer_into.ensures.memory memory asks (none_offered old (lane_number c.args.lane) c.over-over.result c.asked.result (ap rows_in (sym same) ∙ none));
  named = search rules;
  faults = search rules;
}

pub returns-clause-rows : goal.returns-clause-rows
returns-clause-rows g c = λ honest.
    let s = g.L.Lanes.contents c.offer_into.new.self in
    let bounds = c.args.bounds.now in
    let number = lane_number c.args.lane in
    let stood = stood_at bounds.stood in
    let low : number < LANES = omega (arith, c.number.ensures.value, c.number.ensures.range) in
    let over : c.over-over.result ≡ over_of bounds.given.now bounds.released.now number =
    c.over-over.ensures.over ∙ ap (over_of bounds.given.now bounds.released.now) c.number.ensures.value in
    let ask = c.asked.result in
    c.keep_stood.ensures.kept
    (subst Rises (sym (c.in_ok-offer_into.ensures.rows honest))
    (rises_offered (g.L.Lanes.contents c.args.lanes.now) number c.over-over.result ask
    (subst IsSoundBuffer (c.in_ok-offer_into.ensures.same honest) (c.in_ok-offer_into.ensures.call.sound honest)) low))
    ∙ ap (filter stood) (c.in_ok-offer_into.ensures.rows honest)
    ∙ ap (λ (t : EventBuffer). filter stood (offered t number c.over-over.result ask)) (sym (c.in_ok-offer_into.ensures.same honest))
    ∙ ap (λ (n : ℕ). filter stood (offered s number n ask)) over
    ∙ rows_given s bounds.released.now bounds.stood bounds.given.now number (Some ask) (c.in_ok-offer_into.ensures.call.sound honest) low
    c.over-over.ensures.nine c.an_offer_after_a_release.ensures
    ∙ c.asked.ensures (rows_left (after_release s bounds.released.now) bounds.stood bounds.given.now number)

pub returns-clause-kinds : goal.returns-clause-kinds
returns-clause-kinds g c = λ honest.
    let P : Numbered → Type 0 = λ x. x.row.kind ≡ c.args.lane.kind in
    let s = g.L.Lanes.contents c.offer_into.new.self in
    let low : lane_number c.args.lane < LANES = omega (arith, c.number.ensures.value, c.number.ensures.range) in
    let same : g.L.Lanes.contents c.offer_into.new.self ≡ g.L.Lanes.contents c.args.lanes.now = c.in_ok-offer_into.ensures.same honest in
    let asked : All P (offered (g.L.Lanes.contents c.args.lanes.now) (lane_number c.args.lane) c.over-over.result c.asked.result) =
    lane_kinds (g.L.Lanes.contents c.args.lanes.now) c.args.lane c.over-over.result c.asked.result
    (subst IsSoundBuffer same (c.in_ok-offer_into.ensures.call.sound honest)) low in
    let sound = subst IsSoundBuffer same (c.in_ok-offer_into.ensures.call.sound honest) in
    let rises = subst Rises (sym (c.in_ok-offer_into.ensures.rows honest))
    (rises_offered (g.L.Lanes.contents c.args.lanes.now) (lane_number c.args.lane) c.over-over.result c.asked.result sound low) in
    subst (All P) (sym (c.keep_stood.ensures.kept rises))
    (All-filter (stood_at c.args.bounds.now.stood) P _ (subst (All P) (sym (c.in_ok-offer_into.ensures.rows honest)) asked))
