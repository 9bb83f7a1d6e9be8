use Rattle.std.proofs.Common.{lit<}
use Rattle.dnp_daemons.proofs.Splitting.{first_of_lines, only_line}
use Rattle.dnp_daemons.proofs.script.words.first_line.Goals as goal

pub returns-in-Some-clause-lines : goal.returns-in-Some-clause-lines
returns-in-Some-clause-lines c =
    let at = c.in-Some.ensures.byte (lit< tt) (λ w o h. h) in
    first_of_lines c.args.text.now _ _ at.0 at.1 at.2

pub returns-in-None-clause-lines : goal.returns-in-None-clause-lines
returns-in-None-clause-lines c =
    let at = c.in-None.ensures.byte (lit< tt) (λ w o h. h) in
    only_line c.args.text.now c.requires at
