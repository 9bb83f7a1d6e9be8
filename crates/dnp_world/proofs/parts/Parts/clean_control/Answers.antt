-- The control goes, or a book can't be read before it does.
use Rattle.std.proofs.Common.{◌≡◌, inl, refl, sym, ap, ◌∙◌}
use Rattle.std.proofs.lemmas.Result.{err_from_is_err_and}
use Rattle.dnp_world.specs.Controls.{substation_in}
use Rattle.dnp_world.specs.Wholes.{Whole, seen_by}
use Rattle.dnp_world.proofs.CentreReads.{quiet_own}
use Rattle.dnp_world.proofs.SystemControls.{not_quiet}
use Rattle.dnp_concentrator.specs.declared.cause.Cause.TheVariants.{Device}
use Rattle.dnp_world.specs.declared.round_fault.ControlFault.TheVariants.{Fault}
use Rattle.dnp_world.proofs.Telling.{one_fault, over, over_after, tells_as}
use Rattle.dnp_world.proofs.parts.Parts.clean_control.Goals as goal

pub returns-then-not-quiet-clause-ends : goal.returns-then-not-quiet-clause-ends
returns-then-not-quiet-clause-ends g c = λ well.
    let old = c.args.self.now.system in
    let quiet = sym (quiet_own c.args.centre c.requires old) ∙ sym c.quiet.ensures ∙ c.if-not-quiet.true in
    (not_quiet (seen_by c.args.centre old) (substation_in (seen_by c.args.centre old) c.args.id) quiet, refl)

pub returns-in_err-substation-clause-ends : goal.returns-in_err-substation-clause-ends
returns-in_err-substation-clause-ends g c = λ well.
    let p = err_from_is_err_and c.from_residual.result c.from_residual.ensures.1 in
    rw (p.1, p.2) (inl (c.substation_for.ensures.same well))

pub returns-clause-ends : goal.returns-clause-ends
returns-clause-ends g c = λ well.
    let before = c.relay_next.ensures.held well in
    let was : c.substation_for.new.self.system ≡ c.args.self.now.system = c.substation_for.ensures.same before in
    let is = c.in_ok-substation.ensures.value before ∙ ap (λ (w : Whole). substation_in (seen_by c.args.centre w) c.args.id) (sym was) in
    rw was at (c.relay_next.ensures.ends well is)

pub returns-in_err-substation-clause-device : goal.returns-in_err-substation-clause-device
returns-in_err-substation-clause-device g c =
    over _ _ (tells_as Fault Device _ _ c.substation_for.result c.from_residual.result c.in_err-substation.field-0.0 one_fault c.in_err-substation.was
    c.from_residual.ensures.1 c.substation_for.ensures.device)

pub returns-clause-device : goal.returns-clause-device
returns-clause-device g c =
    over_after _ _ _ c.substation_for.result _ c.in_ok-substation.was c.substation_for.ensures.device.runs_on c.relay_next.ensures.device
