-- What was taken is listed and confirmed, and what the master refused for itself does nothing.
use Rattle.std.proofs.Common.{◌≡◌, ◌++◌, ◌∙◌, ℕ, Err, List, length, ap, arith}
use Rattle.std.specs.Prelude.{is_ok}
use Rattle.std.proofs.lemmas.Result.{on_ok_weaker}
use Rattle.dnp_concentrator.specs.PerCentre.{at}
use Rattle.dnp_concentrator.specs.declared.per_centre.PerCentre.{PerCentre}
use Rattle.dnp_eventbuf.specs.Sides.{ForEach}
use Rattle.dnp_objects.specs.declared.row.Row.{Row}
use Rattle.dnp_line.specs.Lines.{LineState}
use Rattle.dnp_master.specs.Calls.{receive_of}
use Rattle.dnp_master.specs.declared.actions.MasterActions.{MasterActions}
use Rattle.dnp_master.specs.declared.fault.MasterFault.TheVariants.{Device}
use Rattle.dnp_world.specs.Channels.{state_of}
use Rattle.dnp_world.specs.MasterEnds.{lists_in}
use Rattle.dnp_world.proofs.MasterTakes.{few_dropped, refused_up, taken_up}
use Rattle.dnp_world.proofs.OneLinkLists.{all_listed}
use Rattle.dnp_world.proofs.channel.Channel.take_up.Goals as goal

pub returns-in-Ok-clause-took : goal.returns-in-Ok-clause-took
returns-in-Ok-clause-took g c = λ well.
    let old = state_of c.args.self.now in
    let was = lists_in c.args.dropped.now in
    let fragment : List ℕ = c.fragment-fragment.result.now in
    let kept : ForEach (λ n. at n (lists_in c.reserve_for_events.new.dropped) ≡ at n was) =
    λ n low. ap (λ (lists : PerCentre (List Row)). at n lists) c.reserve_for_events.ensures.same in
    let a : MasterActions × List Row = (c.in-Ok.actions, c.in-Ok.other) in
    let master = g.E.MasterEnd.master c.args.end.now c.args.link in
    let made = receive_of master c.args.now fragment in
    let few = few_dropped _ _ _ _ _ master fragment made _ _ c.take_in.result a c.most_dropped.result
    (c.what_comes_is_taken_or_passed_over.ensures master c.args.now fragment) (c.most_dropped.ensures c.args.link) c.take_in.ensures.takes c.in-Ok.is well in
    let first : c.extend_from_slice.new.self.items ≡ was.first ++ a.0.dropped =
    all_listed (is_ok c.extend_from_slice.result) was.first c.reserve_for_events.new.dropped.first.items c.as_slice.result.now a.0.dropped _
    (kept 0 (omega arith))
    c.as_slice.ensures c.extend_from_slice.ensures.items
    (c.extend_from_slice.ensures.succeeds
    (omega (arith, few.0, ap (λ (xs : List Row). length xs) c.as_slice.ensures, c.in_ok-reserve_for_events.ensures.to_first))) in
    let second : c.extend_from_slice-in-Ok.new.self.items ≡ was.second ++ a.1 =
    all_listed (is_ok c.extend_from_slice-in-Ok.result) was.second c.reserve_for_events.new.dropped.second.items c.as_slice-in-Ok.result.now a.1 _
    (kept 1 (omega arith)) c.as_slice-in-Ok.ensures c.extend_from_slice-in-Ok.ensures.items
    (c.extend_from_slice-in-Ok.ensures.succeeds
    (omega (arith, few.1, ap (λ (xs : List Row). length xs) c.as_slice-in-Ok.ensures, c.in_ok-reserve_for_events.ensures.to_second))) in (
      fragment,
      c.fragment-fragment.ensures.shown,
      taken_up _ _ _ _ _ made _ _ c.take_in.result a old _ (state_of c.confirm.new.self) was
          (record { first = c.extend_from_slice.new.self.items; second = c.extend_from_slice-in-Ok.new.self.items }) c.take_in.ensures.takes c.in-Ok.is well
          (ap (λ (line : LineState). record old { down = line }) c.reserve_for_events.ensures.line) c.confirm.ensures.down first second,
    )

pub returns-in-Err-clause-took : goal.returns-in-Err-clause-took
returns-in-Err-clause-took g c = λ well. on_ok_weaker c.stops_for.result
    (λ none.
    let old = state_of c.args.self.now in
    let fragment : List ℕ = c.fragment-fragment.result.now in
    let was = lists_in c.args.dropped.now in
    let made = receive_of (g.E.MasterEnd.master c.args.end.now c.args.link) c.args.now fragment in (
      fragment,
      c.fragment-fragment.ensures.shown,
      refused_up _ _ _ _ _ made _ _ c.take_in.result c.in-Err.fault old _ was (lists_in c.reserve_for_events.new.dropped) c.take_in.ensures.takes
          c.in-Err.is none well
          (ap (λ (line : LineState). record old { down = line }) c.reserve_for_events.ensures.line) c.reserve_for_events.ensures.same,
    )) c.stops_for.ensures.passed

pub returns-in-Err-clause-device : goal.returns-in-Err-clause-device
returns-in-Err-clause-device g c = record {
  stopped = λ says. c.take_in.ensures.device.stopped (c.in-Err.is ∙ ap Err (c.stops_for.ensures.device.0 says));
  runs_on = λ other. c.take_in.ensures.device.runs_on (λ is.
      let same : c.in-Err.fault ≡ Device = let e = c.in-Err.is in cc in
      other (c.stops_for.ensures.device.1 same));
}
