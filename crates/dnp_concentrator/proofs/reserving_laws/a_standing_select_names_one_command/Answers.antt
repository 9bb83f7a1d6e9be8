use Rattle.dnp_concentrator.proofs.OneStands.{opened_one, received_one, ticked_one}
use Rattle.dnp_concentrator.proofs.reserving_laws.a_standing_select_names_one_command.Goals as goal

pub returns-clause-new : goal.returns-clause-new
returns-clause-new c = λ points times. tt {0}

pub returns-clause-opened : goal.returns-clause-opened
returns-clause-opened c = opened_one

pub returns-clause-received : goal.returns-clause-received
returns-clause-received c = λ s o now octets one kept.
    received_one s o now octets one kept (c.an_operate_needs_its_select.ensures.made s o now octets)
    (c.a_repeated_request_executes_nothing.ensures.again s o now octets) (c.each_case_says_what_came.ensures s.core octets)

pub returns-clause-ticked : goal.returns-clause-ticked
returns-clause-ticked c = ticked_one

pub returns-clause-closed : goal.returns-clause-closed
returns-clause-closed c = λ core. tt {0}

pub returns-clause-restarted : goal.returns-clause-restarted
returns-clause-restarted c = λ core. tt {0}
