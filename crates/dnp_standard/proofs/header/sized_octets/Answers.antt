-- An object is taken with its size, or is cut.
use Rattle.std.proofs.Common.{◌≡◌, ℕ, ◌+◌, ◌≤◌, List, drop, length, ◌∙◌, sym, subst, arith, rules}
use Rattle.std.specs.Prelude.{Option, Some, None}
use Rattle.std.proofs.lemmas.List.{take_rest, length-drop}
use Rattle.dnp_standard.specs.Headers.{sized_object}
use Rattle.dnp_standard.proofs.Sizes.{sized_more, sized_cut}
use Rattle.dnp_standard.proofs.header.sized_octets.Goals as goal

pub returns-in_err-place-clause-value : goal.returns-in_err-place-clause-value
returns-in_err-place-clause-value c =
    let octets = c.args.octets.now in
    let place = c.loop-done.place in
    let cut : None ≡ sized_object c.args.width (drop place octets) =
    subst (λ (xs : List ℕ). None ≡ sized_object c.args.width xs) (take_rest octets place) (search rules) in
    let none : c.from_residual.result ≡ None = search rules in
    none ∙ sym (c.loop-done.invariant.all ∙ sized_cut c.args.width octets c.args.count c.loop-done._done place c.loop-done-test.true (sym cut))

pub loop-done-preserved : goal.loop-done-preserved
loop-done-preserved c =
    let octets = c.args.octets.now in
    let place = c.loop-done.place in
    let size = c.in_ok-place.field-0 in
    let whole : Some size ≡ sized_object c.args.width (drop place octets) =
    subst (λ (xs : List ℕ). Some size ≡ sized_object c.args.width xs) (take_rest octets place) (search rules) in
    let fits : size ≤ length (drop place octets) =
    subst (λ (xs : List ℕ). size ≤ length xs) (take_rest octets place) c.in_ok-place.ensures.within in
    record {
      within = let within = c.loop-done.invariant.within in omega (arith, length-drop place octets);
      all =
          c.loop-done.invariant.all
          ∙ sized_more c.args.width octets c.args.count c.loop-done._done place size c.loop-done-test.true (sym whole);
    }
