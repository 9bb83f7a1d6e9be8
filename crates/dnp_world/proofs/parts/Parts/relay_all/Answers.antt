-- The way above, and then the way below, or where one of them ends.
use Rattle.std.proofs.Common.{◌≡◌, ℕ, Option, Some, None, inl, inr}
use Rattle.std.proofs.lemmas.Result.{IfErr-weaker, err_from_is_err_and}
use Rattle.dnp_world.specs.Centres.{HappensToAll, may_stop}
use Rattle.dnp_world.specs.Controls.{AtCentre, AtConcentrator, StopsFor, StopsOn, next_below}
use Rattle.dnp_world.specs.Wholes.{Whole, seen_by}
use Rattle.dnp_world.specs.declared.event.Link.TheVariants.{Above}
use Rattle.dnp_world.proofs.OnResults.{at_ok}
use Rattle.dnp_world.proofs.SystemControls.{below_accepted, below_refused, below_stops, ends_of}
use Rattle.dnp_concentrator.specs.declared.cause.Cause.TheVariants.{Device}
use Rattle.dnp_world.specs.declared.round_fault.ControlFault.TheVariants.{Fault}
use Rattle.dnp_world.proofs.Telling.{one_fault, over, over_after, tells_as, tells_over}
use Rattle.dnp_world.proofs.parts.Parts.relay_all.Goals as goal

-- wherever the control is for
stops_above : (centre : ℕ) (substation : Option ℕ) (id : ℕ) (old new : Whole)
    → StopsOn HappensToAll (seen_by centre) may_stop (Above centre) (Some id) old new
    → StopsFor HappensToAll (seen_by centre) may_stop centre substation id old new
stops_above centre None id old new stops = stops
stops_above centre (Some its) id old new stops = inl stops

pub returns-in_err-relay_through-clause-ended : goal.returns-in_err-relay_through-clause-ended
returns-in_err-relay_through-clause-ended g c = λ well.
    let stops = stops_above c.args.centre c.args.substation c.args.id c.args.self.now.system c.relay_through.new.self.system in
    let p = err_from_is_err_and c.from_residual.result c.from_residual.ensures.1 in
    rw (p.1, p.2) (ends_of c.in_err-relay_through.field-0.0 (λ status refused. AtCentre refused) stops (c.in_err-relay_through.ensures.ended well))

pub returns-in_err-queued-clause-ended : goal.returns-in_err-queued-clause-ended
returns-in_err-queued-clause-ended g c = λ well.
    let above = c.relay_through.new.self.system in
    let first = c.in_ok-relay_through.ensures.done (c.next_below.ensures.held well) in
    let p = err_from_is_err_and c.from_residual-in_err-queued.result c.from_residual-in_err-queued.ensures.1 in
    rw (p.1, p.2) (rw c.in-Some.is (inr (above, first, inl (inl (inl (c.next_below.ensures.same well))))))

pub returns-clause-ended : goal.returns-clause-ended
returns-clause-ended g c = λ well.
    let centre = c.args.centre in
    let its = c.in-Some.substation in
    let queued = c.in_ok-queued.queued in
    let above = c.relay_through.new.self.system in
    let read = c.next_below.new.self.system in
    let new = c.relay_through-2.new.self.system in
    let before = c.relay_through-2.ensures.held well in
    let first = c.in_ok-relay_through.ensures.done (c.next_below.ensures.held before) in
    let same : read ≡ above = c.next_below.ensures.same before in
    let is : queued ≡ next_below (seen_by 0 above) its = c.in_ok-queued.ensures.value before in
    IfErr-weaker c.relay_through-2.result _ _ (λ fault. ends_of fault
    (λ status refused. AtConcentrator its above c.in-Some.is first (rw (is, same) at (below_refused centre its queued status read new refused)))
    (λ stops. rw c.in-Some.is (inr (above, first, rw (is, same) at (below_stops centre its queued read new stops)))))
    (c.relay_through-2.ensures.ended well)

pub returns-clause-done : goal.returns-clause-done
returns-clause-done g c = λ well.
    let its = c.in-Some.substation in
    let queued = c.in_ok-queued.queued in
    let above = c.relay_through.new.self.system in
    let read = c.next_below.new.self.system in
    let new = c.relay_through-2.new.self.system in
    let before = c.relay_through-2.ensures.held well in
    let same : read ≡ above = c.next_below.ensures.same before in
    let is : queued ≡ next_below (seen_by 0 above) its = c.in_ok-queued.ensures.value before in
    rw c.in-Some.is (at_ok c.relay_through-2.result (c.relay_through-2.ensures.done well) (λ accepted. (
      above,
      c.in_ok-relay_through.ensures.done (c.next_below.ensures.held before),
      rw (is, same) at (below_accepted c.args.centre its queued read new accepted),
    )))

pub returns-in_err-relay_through-clause-device : goal.returns-in_err-relay_through-clause-device
returns-in_err-relay_through-clause-device g c =
    tells_over (λ x. x) (Fault Device) _ _ c.relay_through.result c.from_residual.result c.in_err-relay_through.field-0.0 (λ x same. same)
    c.in_err-relay_through.was c.from_residual.ensures.1 c.relay_through.ensures.device

pub returns-in_err-queued-clause-device : goal.returns-in_err-queued-clause-device
returns-in_err-queued-clause-device g c =
    over_after _ _ _ c.relay_through.result _ c.in_ok-relay_through.was c.relay_through.ensures.device.runs_on
    (over _ _ (tells_as Fault Device _ _ c.next_below.result c.from_residual-in_err-queued.result c.in_err-queued.field-0.0 one_fault
    c.in_err-queued.was c.from_residual-in_err-queued.ensures.1 c.next_below.ensures.device))

pub returns-clause-device : goal.returns-clause-device
returns-clause-device g c =
    over_after _ _ _ c.relay_through.result _ c.in_ok-relay_through.was c.relay_through.ensures.device.runs_on
    (over_after _ _ _ c.next_below.result _ c.in_ok-queued.was c.next_below.ensures.device.runs_on c.relay_through-2.ensures.device)
