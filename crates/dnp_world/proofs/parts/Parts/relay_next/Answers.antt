-- The control goes, or a book can't be read before it does.
use Rattle.std.proofs.Common.{◌≡◌, true, inl, refl, rules, sym, ◌∙◌}
use Rattle.std.proofs.lemmas.Result.{err_from_is_err_and}
use Rattle.dnp_world.specs.Controls.{are_quiet_for, is_next_for}
use Rattle.dnp_world.specs.Wholes.{seen_by}
use Rattle.dnp_world.proofs.SystemControls.{control_of, planned}
use Rattle.dnp_concentrator.specs.declared.cause.Cause.TheVariants.{Device}
use Rattle.dnp_world.specs.declared.round_fault.ControlFault.TheVariants.{Fault}
use Rattle.dnp_world.proofs.Telling.{one_fault, over, over_after, tells_as}
use Rattle.dnp_world.proofs.parts.Parts.relay_next.Goals as goal

pub returns-then-not-are_quiet-clause-ends : goal.returns-then-not-are_quiet-clause-ends
returns-then-not-are_quiet-clause-ends g c = λ well is. (rw is at (sym c.are_quiet.ensures ∙ c.if-not-are_quiet.true), refl)

pub is_next-requires : goal.is_next-requires
is_next-requires g c = record {
  centre = c.requires;
  planned = planned (seen_by c.args.centre c.args.self.now.system) c.args.substation (sym c.are_quiet.ensures ∙ search rules);
}

pub returns-in_err-is_next-clause-ends : goal.returns-in_err-is_next-clause-ends
returns-in_err-is_next-clause-ends g c = λ well is.
    let p = err_from_is_err_and c.from_residual.result c.from_residual.ensures.1 in
    rw (p.1, p.2) (inl (c.is_next.ensures.same well))

pub returns-clause-ends : goal.returns-clause-ends
returns-clause-ends g c = λ well is.
    let see = seen_by c.args.centre in
    let old = c.args.self.now.system in
    let before = c.relay_all.ensures.held well in
    let same = c.is_next.ensures.same before in
    let quiet : are_quiet_for (see old) c.args.substation ≡ true = sym c.are_quiet.ensures ∙ search rules in
    let next : is_next_for (see old) c.args.id c.args.substation ≡ true = sym (c.in_ok-is_next.ensures.value before) ∙ search rules in
    control_of see c.args.centre c.args.id c.args.substation old c.relay_all.new.self.system c.relay_all.result (rw is at quiet, rw is at next) is
    (rw same at c.relay_all.ensures.done well) (rw same at c.relay_all.ensures.ended well)

pub returns-in_err-is_next-clause-device : goal.returns-in_err-is_next-clause-device
returns-in_err-is_next-clause-device g c =
    over _ _ (tells_as Fault Device _ _ c.is_next.result c.from_residual.result c.in_err-is_next.field-0.0 one_fault c.in_err-is_next.was
    c.from_residual.ensures.1 c.is_next.ensures.device)

pub returns-clause-device : goal.returns-clause-device
returns-clause-device g c =
    over_after _ _ _ c.is_next.result _ c.in_ok-is_next.was c.is_next.ensures.device.runs_on c.relay_all.ensures.device
