use Rattle.std.proofs.Common.{inl, inr, ◌≡◌, ◌≤◌, length, arith}
use Rattle.std.specs.Prelude.{slice_index}
use Rattle.std.proofs.lemmas.Bool.Decides.{nat_tests}
use Rattle.dnp_streams.specs.TextFaults.{IsDigit, AreInPlace}
use Rattle.dnp_streams.proofs.TextPlaces.{none_in_place, more_in_place, whole_in_place, line_of_text}
use Rattle.dnp_streams.proofs.text.text_fault.Goals as goal
use Rattle.dnp_streams.proofs.text.text_fault.Goals.{then-is_empty-via-then-is_empty, then-is_empty-via-else-is_empty+then-line-eq2}
use Rattle.dnp_streams.specs.declared.octets.TheConstants.{MAX_CHARACTERS}

pub loop-place-init : goal.loop-place-init
loop-place-init c = (none_in_place c.line_in-line.result.now, omega arith)

pub loop-place-preserved : goal.loop-place-preserved
loop-place-preserved c =
    let is_digit : IsDigit (slice_index c.line_in-line.result.now c.loop-place.place) =
    (c.in_default.field-0, c.in_default.ensures.found, c.in_default.ensures.same) in (
      more_in_place c.line_in-line.result.now c.loop-place.place c.loop-place.invariant.0
          (λ is. absurd (c.if-place-eq2.false is), λ other. is_digit),
      omega arith,
    )

pub returns-then-is_empty-clause-none : goal.returns-then-is_empty-clause-none
returns-then-is_empty-clause-none c =
    let line = c.line_in-line.result.now in
    let all : AreInPlace line (length line) = whole_in_place line c.loop-place.place c.loop-place.invariant.0 c.loop-place-test.false in
    let short : length line ≤ MAX_CHARACTERS = omega (arith, c.loop-place.invariant.1, c.loop-place-test.false) in
    elim c.then-is_empty.branch [
      | then-is_empty-via-then-is_empty w ↦
          let none : length line ≡ 0 = grind (arith, nat_tests) in
          line_of_text c.args.text.now line c.line_in-line.ensures all short (inl none)
      | then-is_empty-via-else-is_empty+then-line-eq2 w ↦ line_of_text c.args.text.now line c.line_in-line.ensures all short (inr w.if-line-eq2.true)
    ]
