use Rattle.std.proofs.Common.{rules}
use Rattle.dnp_store.proofs.journal_opening.found_in.Goals as goal

pub returns-in-Some-clause-alone : goal.returns-in-Some-clause-alone
returns-in-Some-clause-alone c n shows low =
    let it = c.in-Some.ensures.alone n shows low in
    search (rules, it.1)

pub returns-in-None-clause-wrong : goal.returns-in-None-clause-wrong
returns-in-None-clause-wrong c n shows low most =
    let e = c.last_noted.ensures.found n shows low most in
    first_of (cc, search (rules, e))
