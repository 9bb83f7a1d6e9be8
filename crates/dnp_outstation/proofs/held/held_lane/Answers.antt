use Rattle.std.proofs.Common.{rules, ◌≡◌, ℕ, Err, List, [], ◌+◌, ap, subst, sym, ◌∙◌, arith, take}
use Rattle.std.specs.List.{All}
use Rattle.std.proofs.lemmas.Result.{IfOk-weaker}
use Rattle.dnp_objects.specs.Lanes.{lane_number}
use Rattle.dnp_objects.specs.declared.lane.Lane.{Lane}
use Rattle.dnp_objects.specs.declared.store.StoreFault.TheVariants.{Memory}
use Rattle.dnp_eventbuf.specs.declared.numbered.Numbered.{Numbered}
use Rattle.dnp_eventbuf.specs.Sound.{IsSoundBuffer}
use Rattle.dnp_eventbuf.specs.EventBuffer.{EventBuffer, lane_at, rows_in, offered}
use Rattle.dnp_outstation.proofs.Carried.{lane_rises}
use Rattle.dnp_outstation.proofs.NoRows.{lane_offers_none, none_offered}
use Rattle.dnp_outstation.proofs.OfferRows.{lane_kinds}
use Rattle.dnp_outstation.proofs.Rising.{over_all}
use Rattle.dnp_outstation.proofs.held.held_lane.Goals as goal

pub returns-clause-rows : goal.returns-clause-rows
returns-clause-rows g c = λ honest.
    let old : EventBuffer = g.L.Lanes.contents c.args.lanes.now in
    let same : g.L.Lanes.contents c.offer.new.self ≡ old = search rules in
    let sound : IsSoundBuffer old = rw same at (c.offer.ensures.call.sound honest) in
    let rows : List Numbered = (lane_at old c.args.number).rows in
    let lane : Lane = c.in-Some.lane in
    let most : ℕ = c.enough-held.result + 1 in
    IfOk-weaker c.offer.result _ _ (λ held offered_is. record {
      kind = lane.kind;
      of_kind = subst (All (λ (x : Numbered). x.row.kind ≡ lane.kind)) (sym offered_is)
          (lane_kinds old lane 0 most sound (omega (arith, c.in-Some.ensures.value, c.requires)));
      most = most;
      enough = λ n room. let few = c.enough-held.ensures.enough n room in omega arith;
      is = offered_is
          ∙ ap (λ (n : ℕ). offered old n 0 most) c.in-Some.ensures.value
          ∙ ap (λ (l : List Numbered). take most l) (over_all 0 0 rows (omega arith) (lane_rises old c.args.number sound c.requires));
    }) (c.offer.ensures.rows honest)

pub returns-clause-memory_held : goal.returns-clause-memory_held
returns-clause-memory_held g c = λ honest is asks none.
    let old : EventBuffer = g.L.Lanes.contents c.args.lanes.now in
    let memory : c.offer.result ≡ Err Memory = search rules in
    let here : (lane_at old (lane_number c.in-Some.lane)).rows ≡ [] = ap (λ (n : ℕ). (lane_at old n).rows) c.in-Some.ensures.value ∙ none in
    c.offer.ensures.memory memory asks (lane_offers_none old (lane_number c.in-Some.lane) 0 (c.enough-held.result + 1) here)

pub returns-clause-look : goal.returns-clause-look
returns-clause-look g c = record {
  held = search rules;
  same = search rules;
  place = search rules;
  beside = search rules;
  stopped = search rules;
  device = search rules;
  runs_on = search rules;
  memory = λ honest is asks none.
      let old = g.L.Lanes.contents c.args.lanes.now in
      let same : g.L.Lanes.contents c.offer.new.self ≡ old = search rules in
      let memory : c.offer.result ≡ Err Memory = search rules in
      c.offer.ensures.memory memory asks (none_offered old (lane_number c.in-Some.lane) 0 (c.enough-held.result + 1) (ap rows_in (sym same) ∙ none));
  named = search rules;
  faults = search rules;
}
