use Rattle.std.proofs.Common.{ℕ, List, Bor, map}
use Rattle.dnp_daemons.proofs.Written.{next_of, next_written, next_cut, none_written, none_left}
use Rattle.dnp_daemons.proofs.run.printing.write_parts.Goals as goal

abbrev text_of : Bor (List ℕ) → List ℕ
text_of part = part.now

pub loop-part-init : goal.loop-part-init
loop-part-init g c = none_written _ (map text_of c.args.parts.now)

pub loop-part-preserved : goal.loop-part-preserved
loop-part-preserved g c =
    next_written (next_of text_of c.args.parts.now c.loop-part.part-index _ c.loop-part-test.true c.loop-part.invariant) c.in-Ok.ensures.whole

pub returns-in-Err-clause-part : goal.returns-in-Err-clause-part
returns-in-Err-clause-part g c =
    next_cut _ (next_of text_of c.args.parts.now c.loop-part.part-index _ c.loop-part-test.true c.loop-part.invariant) c.in-Err.ensures.part

pub returns-clause-whole : goal.returns-clause-whole
returns-clause-whole g c = none_left text_of c.args.parts.now c.loop-part.part-index c.loop-part-test.false c.loop-part.invariant
