use Rattle.std.proofs.Common.{◌≡◌, ℕ, ◌+◌, ◌<◌, List, ◌∷◌, length, take, drop, sym, subst, arith}
use Rattle.std.proofs.lemmas.List.{take_rest}
use Rattle.dnp_captures.specs.Hexadecimal.{lines_in}
use Rattle.dnp_captures.proofs.Lines.{front_line, only_line, no_feed_more, shorter_after}
use Rattle.dnp_captures.proofs.hexadecimal.first_line.Goals as goal

pub returns-then-character-eq10-clause-more : goal.returns-then-character-eq10-clause-more
returns-then-character-eq10-clause-more c =
    let text = c.args.text.now in
    let place = c.loop-place.place in
    subst (λ (t : List ℕ). (lines_in text ≡ take place text ∷ lines_in t) × (length t < length text)) (sym (take_rest text (place + 1)))
    (front_line text place c.loop-place-test.true c.loop-place.invariant.1 c.if-character-eq10.true, shorter_after text place c.loop-place-test.true)

pub loop-place-preserved : goal.loop-place-preserved
loop-place-preserved c =
    (omega arith, no_feed_more c.args.text.now c.loop-place.place c.loop-place-test.true c.loop-place.invariant.1 c.if-character-eq10.false)

pub returns-clause-last : goal.returns-clause-last
returns-clause-last c = only_line c.args.text.now c.loop-place.place c.loop-place-test.false c.loop-place.invariant.1
