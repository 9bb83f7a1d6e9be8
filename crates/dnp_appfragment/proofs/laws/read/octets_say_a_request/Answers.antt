use Rattle.dnp_appfragment.specs.Fragments.{IsRequest}
use Rattle.dnp_appfragment.specs.Faults.{IsRequestFault}
use Rattle.dnp_appfragment.specs.Meaning.{request_at}
use Rattle.dnp_appfragment.proofs.Answering.{meant, meant_fault}
use Rattle.dnp_appfragment.proofs.Numbers.{octets_all}
use Rattle.dnp_appfragment.proofs.Requests.{request_reads, request_again, request_fault}
use Rattle.dnp_appfragment.proofs.laws.read.octets_say_a_request.Goals as goal

pub returns-clause-request : goal.returns-clause-request
returns-clause-request c = λ octets asked all.
    (meant (IsRequest octets) (IsRequestFault octets) (request_at octets) asked (request_reads octets (octets_all octets all)), request_again octets asked)

pub returns-clause-fault : goal.returns-clause-fault
returns-clause-fault c = λ octets fault all.
    (meant_fault (IsRequest octets) (IsRequestFault octets) (request_at octets) fault (request_reads octets (octets_all octets all)), request_fault octets fault)
