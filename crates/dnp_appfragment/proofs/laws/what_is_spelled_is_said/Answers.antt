use Rattle.dnp_appfragment.specs.Fragments.{request_octets, response_octets}
use Rattle.dnp_appfragment.proofs.OneFragment.{spelled_request, spelled_response}
use Rattle.dnp_appfragment.proofs.Requests.{request_again, response_again}
use Rattle.dnp_appfragment.proofs.laws.what_is_spelled_is_said.Goals as goal

pub returns-clause-request : goal.returns-clause-request
returns-clause-request c = λ asked control function each.
    request_again (request_octets asked) asked (spelled_request asked control function each)

pub returns-clause-response : goal.returns-clause-response
returns-clause-response c = λ answered control function each.
    response_again (response_octets answered) answered (spelled_response answered control function each)
