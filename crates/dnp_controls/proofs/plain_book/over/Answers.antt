use Rattle.std.proofs.Common.{sym, ◌∙◌, arith}
use Rattle.dnp_controls.proofs.Numbered.{over-drop, over-none}
use Rattle.dnp_controls.proofs.plain_book.over.Goals as goal

pub returns-then-from-entries : goal.returns-then-from-entries
returns-then-from-entries c = c.split_at.ensures.back ∙ sym (over-drop c.args.entries.now 1 c.args.from c.args.from c.requires (omega arith))

pub returns-else-from-entries : goal.returns-else-from-entries
returns-else-from-entries c = sym (over-none c.args.entries.now 1 c.args.from c.requires (omega arith))
