use Rattle.std.proofs.Common.{lit<, ◌==◌}
use Rattle.dnp_trace.proofs.Splits.{whole_before, nothing_after}
use Rattle.dnp_trace.proofs.json.first_word.Goals as goal

pub returns-in-None-clause-word : goal.returns-in-None-clause-word
returns-in-None-clause-word c = whole_before (λ b. b == 32) c.args.words.now (c.in-None.ensures.byte (lit< tt) (λ w o h. h))

pub returns-in-None-clause-more : goal.returns-in-None-clause-more
returns-in-None-clause-more c = nothing_after (λ b. b == 32) c.args.words.now (c.in-None.ensures.byte (lit< tt) (λ w o h. h))

pub returns-in-Some-clause-word : goal.returns-in-Some-clause-word
returns-in-Some-clause-word c = (c.in-Some.ensures.byte (lit< tt) (λ w o h. h)).0

pub returns-in-Some-clause-more : goal.returns-in-Some-clause-more
returns-in-Some-clause-more c = (c.in-Some.ensures.byte (lit< tt) (λ w o h. h)).1
