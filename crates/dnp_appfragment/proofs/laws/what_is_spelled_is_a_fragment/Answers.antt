use Rattle.dnp_appfragment.proofs.OneFragment.{spelled_request, spelled_response}
use Rattle.dnp_appfragment.proofs.laws.what_is_spelled_is_a_fragment.Goals as goal

pub returns-clause-request : goal.returns-clause-request
returns-clause-request c = spelled_request

pub returns-clause-response : goal.returns-clause-response
returns-clause-response c = spelled_response
