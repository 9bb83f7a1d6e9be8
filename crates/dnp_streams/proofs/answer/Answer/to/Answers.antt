use Rattle.std.proofs.Common.{rules, ◌≡◌, ◌≢◌, true, false, [], List, ℕ, length, sym, ◌∙◌, ap}
use Rattle.std.specs.Prelude.{◌==◌}
use Rattle.std.proofs.lemmas.List.{nil_from_length}
use Rattle.dnp_linkframe.specs.Frames.{Spells}
use Rattle.dnp_streams.proofs.NewPort.{on_err}
use Rattle.dnp_streams.proofs.Spoken.{is_zero, is_some, silent, spoken}
use Rattle.dnp_streams.proofs.answer.Answer.to.Goals as goal

pub returns-then-is_empty-clause-answer : goal.returns-then-is_empty-clause-answer
returns-then-is_empty-clause-answer c =
    let test : (length c.as_slice.result.now == 0) ≡ true = sym c.is_empty.ensures ∙ c.if-is_empty.true in
    let size : length c.in_ok-lines.lines.items ≡ 0 = sym (ap (λ (t : List ℕ). length t) c.as_slice.ensures.value) ∙ is_zero (length c.as_slice.result.now) test in
    let none : c.in_ok-lines.lines.items ≡ [] = nil_from_length c.in_ok-lines.lines.items size in
    let spells : Spells c.in-Some.octets.items c.in-Ok.frame = search rules in
    silent c.args.text.now c.args.own c.args.peer c.in-Some.octets.items c.in-Ok.frame c.in_ok-lines.lines.items c.in-Some.ensures.found spells c.in_ok-lines.ensures.sent none

pub returns-clause-answer : goal.returns-clause-answer
returns-clause-answer c =
    let some : c.in_ok-lines.lines.items ≢ [] = λ none.
    let test : (length c.as_slice.result.now == 0) ≡ false = sym c.is_empty.ensures ∙ c.if-is_empty.false in
    is_some (length c.as_slice.result.now) test (ap (λ (t : List ℕ). length t) (c.as_slice.ensures.value ∙ none)) in
    let spells : Spells c.in-Some.octets.items c.in-Ok.frame = search rules in
    spoken c.args.text.now c.args.own c.args.peer c.in-Some.octets.items c.in-Ok.frame c.in_ok-lines.lines.items c.in-Some.ensures.found spells c.in_ok-lines.ensures.sent some

pub returns-in_err-lines-clause-memory : goal.returns-in_err-lines-clause-memory
returns-in_err-lines-clause-memory c =
    let spells : Spells c.in-Some.octets.items c.in-Ok.frame = search rules in
    on_err c.from_residual.result
    (c.in-Ok.frame, record { octets = c.in-Some.octets.items; line = c.in-Some.ensures.found; spelled = spells }, c.in_err-lines.ensures.memory)
