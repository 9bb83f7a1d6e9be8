use Rattle.std.proofs.Common.{◌≡◌, ◌∙◌, ap, rules, subst, sym, List, take, nat_lt}
use Rattle.std.specs.List.{All, filter}
use Rattle.dnp_objects.specs.Events.{IsEvent}
use Rattle.dnp_objects.specs.Lanes.{lane_number}
use Rattle.dnp_eventbuf.specs.declared.numbered.Numbered.{Numbered}
use Rattle.dnp_eventbuf.specs.EventBuffer.{LaneState, offered}
use Rattle.dnp_eventbuf.proofs.LaneNumbers.{lane_number-low}
use Rattle.dnp_eventbuf.proofs.Offers.{offered_events}
use Rattle.dnp_eventbuf.proofs.nine.NineLanesLanes.offer_into.Goals as goal

pub offer_into-requires : goal.offer_into-requires
offer_into-requires g c = record { rising = c.lane-lane.ensures.rising }

pub returns-clause-carried : goal.returns-clause-carried
returns-clause-carried g c =
    let rows : c.offer_into.new.out.items ≡ take c.args.most (filter (λ x. nat_lt c.args.after x.id) c.lane-lane.result.now.rows) = search rules in
    let shown : c.offer_into.new.out.items ≡ offered c.args.self.now (lane_number c.args.lane) c.args.after c.args.most =
    rows ∙ ap (λ (l : LaneState). take c.args.most (filter (λ x. nat_lt c.args.after x.id) l.rows)) c.lane-lane.ensures.at in
    subst (λ (xs : List Numbered). All (λ (x : Numbered). IsEvent x.row) xs) (sym shown)
    (offered_events c.args.self.now c.args.lane c.args.after c.args.most c.lane-lane.ensures.sound (lane_number-low c.args.lane))
