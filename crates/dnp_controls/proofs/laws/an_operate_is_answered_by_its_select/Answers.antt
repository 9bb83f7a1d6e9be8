use Rattle.dnp_controls.proofs.Answering.{answers-rightly}
use Rattle.dnp_controls.proofs.laws.an_operate_is_answered_by_its_select.Goals as goal

pub returns-clause-success : goal.returns-clause-success
returns-clause-success c = λ select now seq octets time. (answers-rightly select now seq octets time).success

pub returns-clause-timeout : goal.returns-clause-timeout
returns-clause-timeout c = λ select now seq octets time. (answers-rightly select now seq octets time).timeout

pub returns-clause-no_select : goal.returns-clause-no_select
returns-clause-no_select c = λ select now seq octets time. (answers-rightly select now seq octets time).no_select
