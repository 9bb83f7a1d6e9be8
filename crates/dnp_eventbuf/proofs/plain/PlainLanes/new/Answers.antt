use Rattle.std.proofs.Common.{◌≡◌, ◌≤◌, rules, arith, ap, false, map, length, List}
use Rattle.std.proofs.lemmas.List.{length-map}
use Rattle.std.specs.List.{All}
use Rattle.std.proofs.lemmas.List.Elements.{All-weaker}
use Rattle.dnp_eventbuf.specs.declared.plain.TheConstants.{MAX_CAPACITY}
use Rattle.dnp_objects.specs.declared.limits.TheConstants.{LANES}
use Rattle.dnp_eventbuf.specs.EventBuffer.{LaneState, empty_lane, empty_buffer}
use Rattle.dnp_eventbuf.proofs.InPlace.{map-from_AllZip}
use Rattle.dnp_eventbuf.proofs.Soundness.{IsSoundBuffer-empty_buffer, IsSoundBuffer-to}
use Rattle.dnp_eventbuf.proofs.plain.PlainLanes.new.Goals as goal

lanes_are : (c : goal.In_ok-lanes) → c.in_ok-lanes.lanes ≡ map empty_lane c.args.capacities
lanes_are c = map-from_AllZip _ empty_lane (λ x y h. search rules) c.args.capacities c.in_ok-lanes.lanes c.in_ok-lanes.ensures.ok.whole

pub invariant_of-result : goal.invariant_of-result
invariant_of-result c =
    let are = lanes_are c in
    let long : length c.args.capacities ≡ LANES = omega (arith, c.in_ok-lanes.ensures.ok.long, ap length are, length-map c.args.capacities empty_lane) in
    let least : All (λ n. 1 ≤ n) c.args.capacities = All-weaker (λ n. (1 ≤ n) × (n ≤ MAX_CAPACITY)) (λ n. 1 ≤ n) (λ n h. h.0) c.args.capacities c.requires in
    IsSoundBuffer-to _ (empty_buffer c.args.capacities) (ap (λ (ls : List LaneState). record { lanes = ls; overflow = false; last_id = 0 }) are)
    (IsSoundBuffer-empty_buffer c.args.capacities long least)

pub returns : goal.returns
returns c = ap (λ (ls : List LaneState). record { lanes = ls; overflow = false; last_id = 0 }) (lanes_are c)
