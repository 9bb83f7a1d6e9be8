use Rattle.std.proofs.Common.{rules, ◌≡◌, ◌∙◌, ap, subst, refl, sym, true, ℕ, ◌+◌, length, Some, None, arith}
use Rattle.dnp_appfragment.specs.Headers.{Head, NumbersFit, IsHeaderAt, number}
use Rattle.dnp_appfragment.specs.Table.{form_of}
use Rattle.dnp_appfragment.specs.steps.Overwriting.{written_over}
use Rattle.dnp_appfragment.specs.Built.{context_of, size, with_object}
use Rattle.dnp_appfragment.specs.steps.Building.{IsLaid, built_in, ended_in, objects_in, range_end, longer}
use Rattle.dnp_appfragment.proofs.Contexts.{context_object}
use Rattle.dnp_appfragment.proofs.Joins.{joined_size, begun_with, begun_size}
use Rattle.dnp_appfragment.proofs.Laid.{joined_laid}
use Rattle.dnp_appfragment.proofs.builder.Builder.put.Given.{Over}
use Rattle.dnp_appfragment.proofs.builder.Builder.put.Goals.{In-Some, In-None, After-write_number}
use Rattle.dnp_appfragment.proofs.builder.Builder.put.Goals as goal

-- ---- the object joins the run

fits : (g : Over) (c : In-Some g) → IsHeaderAt (form_of c.args.self.now.function) (context_of c.args.self.now) (g.O.Object.head c.args.object.now)
fits g c = c.requires.fits (subst (λ (h : Head). NumbersFit h.range) c.run-begun.ensures.value c.run-begun.ensures.fits)

joins : (g : Over) (c : In-Some g) → longer c.self.inside.run (g.O.Object.head c.args.object.now) ≡ Some c.in-Some.longer
joins g c = sym (ap (longer c.self.inside.run) c.run-begun.ensures.value) ∙ sym c.longer.ensures ∙ c.in-Some.is

sizes : (g : Over) (c : In-Some g)
    → size (with_object c.args.self.now (g.O.Object.head c.args.object.now)) ≡ size c.args.self.now + length (g.O.Object.head c.args.object.now).octets
sizes g c =
    let b = c.self.inside in
    joined_size c.args.self.now b.function (ended_in b.function b.octets.items b.ended) b.run (objects_in b.octets.items b.ended b.run)
    (g.O.Object.head c.args.object.now) c.in-Some.longer c.self.view_is c.self.invariant.0.parts (fits g c) c.requires.sized (joins g c)

pub returns-then-left-size-clause-full : goal.returns-then-left-size-clause-full
returns-then-left-size-clause-full g c =
    let all = sizes g (goal.at.returns-then-left-size-clause-full g c).In-Some in
    (λ _. omega (arith, all, c.left.ensures, c.if-left-size.true, c.size-size.ensures.value), λ _. refl)

laid : (g : Over) (c : After-write_number g) → IsHeaderAt (form_of c.args.self.now.function) (context_of c.args.self.now) (g.O.Object.head c.args.object.now)
    → longer c.self.inside.run (g.O.Object.head c.args.object.now) ≡ Some c.in-Some.longer
    → IsLaid c.self.inside.function c.write_number.new.octets.items c.self.inside.ended (Some c.in-Some.longer)
    × (built_in c.self.inside.function c.write_number.new.octets.items c.self.inside.ended (Some c.in-Some.longer)
    ≡ with_object c.args.self.now (g.O.Object.head c.args.object.now))
laid g c fit join =
    let b = c.self.inside in
    let place : b.ended + 3 + c.end-place.result.0 ≡ b.ended + 3 + (range_end c.in-Some.longer.range).0 =
    ap (λ (p : ℕ × ℕ). b.ended + 3 + p.0) c.end-place.ensures in
    let written : c.write_number.new.octets.items
    ≡ written_over c.append.new.octets.items (b.ended + 3 + c.end-place.result.0) (number true (range_end c.in-Some.longer.range).1) =
    c.write_number.ensures
    ∙ ap (λ (p : ℕ × ℕ). written_over c.append.new.octets.items (b.ended + 3 + c.end-place.result.0) (number true p.1)) c.end-place.ensures in
    joined_laid c.args.self.now b.function b.octets.items c.append.new.octets.items c.write_number.new.octets.items b.ended
    (b.ended + 3 + c.end-place.result.0) b.run c.in-Some.longer (g.O.Object.head c.args.object.now) c.self.view_is c.self.invariant.0
    fit c.requires.sized join c.append.ensures place written
    (omega (arith, c.left.ensures, c.if-left-size.false, c.size-size.ensures.value))

pub invariant_of-self : goal.invariant_of-self
invariant_of-self g c =
    let at = goal.at.invariant_of-self g c in
    let both = laid g at.After-write_number (fits g at.In-Some) (joins g at.In-Some) in (
      both.0,
      c.self.invariant.1 ∙ ap context_of c.self.view_is
          ∙ sym (ap context_of both.1 ∙ context_object c.args.self.now (g.O.Object.head c.args.object.now) c.requires.other),
    )

pub returns-else-left-size-clause-ok : goal.returns-else-left-size-clause-ok
returns-else-left-size-clause-ok g c =
    let at = goal.at.returns-else-left-size-clause-ok g c in (laid g at.After-write_number (fits g at.In-Some) (joins g at.In-Some)).1

pub returns-else-left-size-clause-full : goal.returns-else-left-size-clause-full
returns-else-left-size-clause-full g c =
    let all = sizes g (goal.at.returns-else-left-size-clause-full g c).In-Some in
    (λ no. cc, λ late. absurd (omega (arith, late, all, c.left.ensures, c.if-left-size.false, c.size-size.ensures.value)))

-- ---- the object begins a run

begins : (g : Over) (c : In-None g) → longer c.self.inside.run (g.O.Object.head c.args.object.now) ≡ None
begins g c = sym (ap (longer c.self.inside.run) c.run-begun.ensures.value) ∙ sym c.longer.ensures ∙ c.in-None.is

pub returns-in-None-clause-ok : goal.returns-in-None-clause-ok
returns-in-None-clause-ok g c =
    let b = c.self.inside in
    let same = begun_with c.args.self.now b.function (ended_in b.function b.octets.items b.ended) b.run
    (objects_in b.octets.items b.ended b.run) (g.O.Object.head c.args.object.now) c.self.view_is (begins g (goal.at.returns-in-None-clause-ok g c).In-None) in
    search rules

pub returns-in-None-clause-full : goal.returns-in-None-clause-full
returns-in-None-clause-full g c =
    let b = c.self.inside in
    let all = begun_size c.args.self.now b.function (ended_in b.function b.octets.items b.ended) b.run
    (objects_in b.octets.items b.ended b.run) (g.O.Object.head c.args.object.now) c.self.view_is (begins g (goal.at.returns-in-None-clause-full g c).In-None) in
    search rules
