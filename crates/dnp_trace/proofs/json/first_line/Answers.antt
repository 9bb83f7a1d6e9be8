use Rattle.std.proofs.Common.{lit<, ◌==◌}
use Rattle.dnp_trace.proofs.Splits.{whole_before, nothing_after}
use Rattle.dnp_trace.proofs.json.first_line.Goals as goal

pub returns-in-None-clause-line : goal.returns-in-None-clause-line
returns-in-None-clause-line c = whole_before (λ b. b == 10) c.args.text.now (c.in-None.ensures.byte (lit< tt) (λ w o h. h))

pub returns-in-None-clause-below : goal.returns-in-None-clause-below
returns-in-None-clause-below c = nothing_after (λ b. b == 10) c.args.text.now (c.in-None.ensures.byte (lit< tt) (λ w o h. h))

pub returns-in-Some-clause-line : goal.returns-in-Some-clause-line
returns-in-Some-clause-line c = (c.in-Some.ensures.byte (lit< tt) (λ w o h. h)).0

pub returns-in-Some-clause-below : goal.returns-in-Some-clause-below
returns-in-Some-clause-below c = (c.in-Some.ensures.byte (lit< tt) (λ w o h. h)).1
