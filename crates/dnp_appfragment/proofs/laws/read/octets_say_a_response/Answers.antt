use Rattle.dnp_appfragment.specs.Fragments.{IsResponse}
use Rattle.dnp_appfragment.specs.Faults.{IsResponseFault}
use Rattle.dnp_appfragment.specs.Meaning.{response_at}
use Rattle.dnp_appfragment.proofs.Answering.{meant, meant_fault}
use Rattle.dnp_appfragment.proofs.Numbers.{octets_all}
use Rattle.dnp_appfragment.proofs.Requests.{response_reads, response_again, response_fault}
use Rattle.dnp_appfragment.proofs.laws.read.octets_say_a_response.Goals as goal

pub returns-clause-response : goal.returns-clause-response
returns-clause-response c = λ octets answered all.
    (meant (IsResponse octets) (IsResponseFault octets) (response_at octets) answered (response_reads octets (octets_all octets all)), response_again octets answered)

pub returns-clause-fault : goal.returns-clause-fault
returns-clause-fault c = λ octets fault all.
    (meant_fault (IsResponse octets) (IsResponseFault octets) (response_at octets) fault (response_reads octets (octets_all octets all)), response_fault octets fault)
