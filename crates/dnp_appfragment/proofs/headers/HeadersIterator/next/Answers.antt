use Rattle.std.proofs.Common.{rules, refl, ◌≡◌, ◌<◌, ℕ, length, List, [], ◌∷◌, IsTrue, sym, ◌∙◌, ap, subst, eqb-true, Bor}
use Rattle.dnp_appfragment.specs.Headers.{Head, Context}
use Rattle.dnp_appfragment.specs.Left.{Left, is_whole, headers_left}
use Rattle.dnp_appfragment.specs.Places.{IsPart}
use Rattle.dnp_appfragment.specs.Seen.{head}
use Rattle.dnp_appfragment.proofs.Commons.{common_there}
use Rattle.dnp_appfragment.proofs.Numbers.{octets_all}
use Rattle.dnp_appfragment.proofs.Walk.{not_empty, nothing_left, one_off, front_whole}
use Rattle.dnp_appfragment.proofs.headers.HeadersIterator.next.Goals as goal

pub returns-then-is_empty-clause-steps : goal.returns-then-is_empty-clause-steps
returns-then-is_empty-clause-steps c =
    let none : length c.self.inside.rest.now ≡ 0 = eqb-true (length c.self.inside.rest.now) 0 (sym c.is_empty.ensures ∙ c.if-is_empty.true) in
    let left : c.args.self.now.headers ≡ [] =
    sym (ap (λ (l : Left). l.headers) c.self.view_is) ∙ nothing_left c.self.inside.form c.self.inside.common c.self.inside.rest.now none in
    ((left, left), refl)

pub invariant_of-self : goal.invariant_of-self
invariant_of-self c =
    let some : 0 < length c.self.inside.rest.now = not_empty c.self.inside.rest.now (sym c.is_empty.ensures ∙ c.if-is_empty.false) in
    let off = one_off c.self.inside.form c.self.inside.common c.self.inside.rest.now _ some c.checked_header.ensures.gives c.self.invariant in
    subst (λ (now : Context). IsTrue (is_whole c.self.inside.form now c.checked_header.result.1.now)) (sym c.common_after-self-inside.ensures) off.0

pub returns-clause-steps : goal.returns-clause-steps
returns-clause-steps c =
    let some : 0 < length c.self.inside.rest.now = not_empty c.self.inside.rest.now (sym c.is_empty.ensures ∙ c.if-is_empty.false) in
    let off = one_off c.self.inside.form c.self.inside.common c.self.inside.rest.now _ some c.checked_header.ensures.gives c.self.invariant in
    let first = sym (ap (λ (l : Left). l.headers) c.self.view_is) ∙ off.1 in (
      first ∙ ap (λ (now : Context). head c.checked_header.result.0 ∷ headers_left c.self.inside.form now c.checked_header.result.1.now)
          (sym c.common_after-self-inside.ensures),
      subst (λ (source : Bor (List ℕ)). IsPart source c.checked_header.result.0.octets c.checked_header.result.1) (ap (λ (l : Left). l.rest) c.self.view_is) c.checked_header.ensures.part,
    )

pub returns-clause-goes : goal.returns-clause-goes
returns-clause-goes c =
    let some : 0 < length c.self.inside.rest.now = not_empty c.self.inside.rest.now (sym c.is_empty.ensures ∙ c.if-is_empty.false) in
    let off = one_off c.self.inside.form c.self.inside.common c.self.inside.rest.now _ some c.checked_header.ensures.gives c.self.invariant in
    let fewer = ap (λ (hs : List Head). length hs) (sym (ap (λ (l : Left). l.headers) c.self.view_is) ∙ off.1) in
    let same = ap (λ (now : Context). length (headers_left c.self.inside.form now c.checked_header.result.1.now)) (sym c.common_after-self-inside.ensures) in
    search rules

pub checked_header-requires : goal.checked_header-requires
checked_header-requires c =
    let some : 0 < length c.self.inside.rest.now = not_empty c.self.inside.rest.now (sym c.is_empty.ensures ∙ c.if-is_empty.false) in
    front_whole c.self.inside.form c.self.inside.common c.self.inside.rest.now some c.self.invariant

pub common_after-self-inside-requires : goal.common_after-self-inside-requires
common_after-self-inside-requires c =
    let some : 0 < length c.self.inside.rest.now = not_empty c.self.inside.rest.now (sym c.is_empty.ensures ∙ c.if-is_empty.false) in
    record {
      there = common_there c.self.inside.form c.self.inside.common c.self.inside.rest.now _ some
          (octets_all c.self.inside.rest.now c.a_slice_is_of_octets.ensures.each) c.checked_header.ensures.gives;
    }
