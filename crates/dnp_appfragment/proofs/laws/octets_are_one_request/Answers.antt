use Rattle.dnp_appfragment.proofs.OneFragment.{one_request, one_request_fault, request_or_fault}
use Rattle.dnp_appfragment.proofs.laws.octets_are_one_request.Goals as goal

pub returns-clause-one : goal.returns-clause-one
returns-clause-one c = one_request

pub returns-clause-one_fault : goal.returns-clause-one_fault
returns-clause-one_fault c = one_request_fault

pub returns-clause-apart : goal.returns-clause-apart
returns-clause-apart c = request_or_fault
