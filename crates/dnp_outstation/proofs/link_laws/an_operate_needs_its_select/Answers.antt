use Rattle.dnp_outstation.proofs.LinkPerforms.{connection_serves, connection_makes, request_forgets}
use Rattle.dnp_outstation.proofs.link_laws.an_operate_needs_its_select.Goals as goal

pub returns-clause-selected : goal.returns-clause-selected
returns-clause-selected c = λ s o now octets operate does.
    (connection_serves s o now octets c.an_operate_is_answered_by_its_select.ensures.success operate does).selected

pub returns-clause-spent : goal.returns-clause-spent
returns-clause-spent c = λ s o now octets operate does.
    (connection_serves s o now octets c.an_operate_is_answered_by_its_select.ensures.success operate does).spent

pub returns-clause-made : goal.returns-clause-made
returns-clause-made c = connection_makes

pub returns-clause-forgotten : goal.returns-clause-forgotten
returns-clause-forgotten c = request_forgets
