use Rattle.std.proofs.Common.{arith, ◌∙◌}
use Rattle.dnp_pointdb.proofs.Places.{found_at, missed_at, missed_before}
use Rattle.dnp_pointdb.proofs.laws.an_order_finds_each_index.Goals as goal

pub returns-clause-found : goal.returns-clause-found
returns-clause-found c = found_at

pub returns-clause-behind : goal.returns-clause-behind
returns-clause-behind c = λ es order index n m d o next. missed_at es order index n m d o (omega (arith, next))

pub returns-clause-before : goal.returns-clause-before
returns-clause-before c = missed_before
