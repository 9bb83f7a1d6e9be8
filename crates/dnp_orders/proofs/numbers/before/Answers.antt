use Rattle.dnp_orders.proofs.Units.{stripped}
use Rattle.dnp_orders.proofs.numbers.before.Goals as goal

pub returns : goal.returns
returns c = stripped c.args.unit.now c.args.word.now c.strip_suffix.result c.strip_suffix.ensures.cases
