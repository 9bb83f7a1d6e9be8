use Rattle.std.proofs.Common.{◌≡◌, ◌∙◌, sym, ap, subst, ℕ, ◌+◌, ◌≤◌, List, length, ◌++◌, Some, None, refl, arith}
use Rattle.dnp_objects.specs.declared.limits.TheConstants.{MAX_FRAGMENT}
use Rattle.dnp_appfragment.specs.Headers.{Head, NumbersFit, IsHeaderAt, header_octets}
use Rattle.dnp_appfragment.specs.Table.{form_of}
use Rattle.dnp_appfragment.specs.Built.{context_of, size, with_run}
use Rattle.dnp_appfragment.specs.steps.Building.{IsLaid, built_in}
use Rattle.dnp_appfragment.proofs.Contexts.{context_broken, context_begun}
use Rattle.dnp_appfragment.proofs.Laid.{object_laid, header_behind, size-header}
use Rattle.dnp_appfragment.proofs.builder.Builder.begin.Given.{Over}
use Rattle.dnp_appfragment.proofs.builder.Builder.begin.Goals.{After-append}
use Rattle.dnp_appfragment.proofs.builder.Builder.begin.Goals as goal

pub returns-then-left-range_size-clause-full : goal.returns-then-left-range_size-clause-full
returns-then-left-range_size-clause-full g c =
    let whole = size-header c.run-begun.result (g.O.Object.head c.args.object.now) c.run-begun.ensures.value in
    (λ _. omega (arith, whole, c.left.ensures, c.if-left-range_size.true, c.range_size.ensures.size, c.size-size.ensures.value), λ _. refl)

laid : (g : Over) (c : After-append g)
    → IsLaid c.self.inside.function c.append.new.octets.items c.self.inside.ended (Some c.run-begun.result)
    × (built_in c.self.inside.function c.append.new.octets.items c.self.inside.ended (Some c.run-begun.result)
    ≡ with_run c.args.self.now None (g.O.Object.head c.args.object.now))
laid g c =
    let object = g.O.Object.head c.args.object.now in
    let fits : IsHeaderAt (form_of c.args.self.now.function) (context_of c.args.self.now) object =
    c.requires.fits (subst (λ (h : Head). NumbersFit h.range) c.run-begun.ensures.value c.run-begun.ensures.fits) in
    let sizes = size-header c.run-begun.result object c.run-begun.ensures.value in
    let room : size c.args.self.now + length (header_octets object) ≤ MAX_FRAGMENT =
    omega (arith, sizes, c.left.ensures, c.if-left-range_size.false, c.range_size.ensures.size, c.size-size.ensures.value) in
    let whole = header_behind c.self.inside.octets.items c.append.new.octets.items c.run-begun.result object c.run-begun.ensures.value
    (c.append.ensures ∙ ap (λ (l : List ℕ). l ++ object.octets) c.push_run.ensures) in
    object_laid c.args.self.now c.self.inside.function c.self.inside.octets.items c.append.new.octets.items c.self.inside.ended c.self.inside.run
    c.run-begun.result object (c.self.view_is ∙ c.break_run.ensures) c.self.invariant.0 c.run-begun.ensures.value fits whole room

pub invariant_of-self : goal.invariant_of-self
invariant_of-self g c =
    let both = laid g (goal.at.invariant_of-self g c).After-append in (
      both.0,
      c.self.invariant.1 ∙ ap context_of (c.self.view_is ∙ c.break_run.ensures) ∙ context_broken c.args.self.now
          ∙ sym (ap context_of both.1 ∙ context_begun c.args.self.now (g.O.Object.head c.args.object.now) c.requires.other),
    )

pub returns-clause-ok : goal.returns-clause-ok
returns-clause-ok g c = (laid g (goal.at.returns-clause-ok g c).After-append).1

pub returns-clause-full : goal.returns-clause-full
returns-clause-full g c =
    let whole = size-header c.run-begun.result (g.O.Object.head c.args.object.now) c.run-begun.ensures.value in
    (λ no. cc, λ late. absurd (omega (arith, late, whole, c.left.ensures, c.if-left-range_size.false, c.range_size.ensures.size, c.size-size.ensures.value)))
