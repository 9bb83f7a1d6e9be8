use Rattle.dnp_concentrator.specs.declared.index_kind.IndexKind.TheVariants.{Binary, Counter, Analog, Output, Setpoint}
use Rattle.dnp_concentrator.proofs.index_map.orders_of.Goals as goal

pub order_of-requires-clause-apart : goal.order_of-requires-clause-apart
order_of-requires-clause-apart c = c.requires.map.apart Binary

pub order_of-requires-2-clause-apart : goal.order_of-requires-2-clause-apart
order_of-requires-2-clause-apart c = c.requires.map.apart Counter

pub order_of-requires-3-clause-apart : goal.order_of-requires-3-clause-apart
order_of-requires-3-clause-apart c = c.requires.map.apart Analog

pub order_of-requires-4-clause-apart : goal.order_of-requires-4-clause-apart
order_of-requires-4-clause-apart c = c.requires.map.apart Output

pub order_of-requires-5-clause-apart : goal.order_of-requires-5-clause-apart
order_of-requires-5-clause-apart c = c.requires.map.apart Setpoint
