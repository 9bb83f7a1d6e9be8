use Rattle.dnp_appfragment.proofs.OneFragment.{one_response, one_response_fault, response_or_fault}
use Rattle.dnp_appfragment.proofs.laws.octets_are_one_response.Goals as goal

pub returns-clause-one : goal.returns-clause-one
returns-clause-one c = one_response

pub returns-clause-one_fault : goal.returns-clause-one_fault
returns-clause-one_fault c = one_response_fault

pub returns-clause-apart : goal.returns-clause-apart
returns-clause-apart c = response_or_fault
