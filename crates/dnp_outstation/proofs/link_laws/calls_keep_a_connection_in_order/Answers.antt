use Rattle.dnp_outstation.proofs.LinkOrder.{opened_order, received_order, ticked_order, changed_order, closed_order, restarted_order}
use Rattle.dnp_outstation.proofs.link_laws.calls_keep_a_connection_in_order.Goals as goal

pub returns-clause-opened : goal.returns-clause-opened
returns-clause-opened c = opened_order

pub returns-clause-received : goal.returns-clause-received
returns-clause-received c = received_order c.octets_say_their_control_and_function.ensures.function

pub returns-clause-ticked : goal.returns-clause-ticked
returns-clause-ticked c = ticked_order

pub returns-clause-changed : goal.returns-clause-changed
returns-clause-changed c = changed_order

pub returns-clause-closed : goal.returns-clause-closed
returns-clause-closed c = closed_order

pub returns-clause-restarted : goal.returns-clause-restarted
returns-clause-restarted c = restarted_order
