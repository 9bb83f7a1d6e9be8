-- A frame that is read is the one that the unit spells.
use Rattle.std.proofs.Common.{refl, codes, rules, arith}
use Rattle.dnp_trace.specs.Phrases.{IsFramed, IsNoFrame, frame_phrase}
use Rattle.dnp_trace.proofs.phrase.say_unit.Goals as goal

pub returns-in_ok-say_frame-in-Ok : goal.returns-in_ok-say_frame-in-Ok
returns-in_ok-say_frame-in-Ok c = (
  frame_phrase c.in-Ok.frame.control c.in-Ok.frame.user.items,
  IsFramed c.in-Ok.frame c.in-Ok.ensures.found refl,
  (let e = c.in_ok-say_frame-in-Ok.ensures in cc),
)

pub returns-in_ok-word-in-Err : goal.returns-in_ok-word-in-Err
returns-in_ok-word-in-Err c =
    (codes "no link frame", IsNoFrame c.in-Err.field-0 (grind arith) c.in-Err.ensures.fault refl, c.in_ok-word-in-Err.ensures)
