use Rattle.dnp_orders.proofs.OneToOne.{apart, read_back, of_code, printed}
use Rattle.dnp_orders.proofs.laws.words_and_codes_are_one_to_one.Goals as goal

pub returns-clause-apart : goal.returns-clause-apart
returns-clause-apart c = apart

pub returns-clause-read_back : goal.returns-clause-read_back
returns-clause-read_back c = read_back

pub returns-clause-of_code : goal.returns-clause-of_code
returns-clause-of_code c = of_code

pub returns-clause-printed : goal.returns-clause-printed
returns-clause-printed c = printed
