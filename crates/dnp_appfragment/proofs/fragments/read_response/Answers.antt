use Rattle.dnp_appfragment.specs.Fragments.{IsResponse}
use Rattle.dnp_appfragment.specs.Faults.{IsResponseFault}
use Rattle.dnp_appfragment.specs.Meaning.{response_at}
use Rattle.dnp_appfragment.specs.Whole.{response}
use Rattle.dnp_appfragment.proofs.Answering.{found_of, fault_of, only_of, only_fault_of}
use Rattle.dnp_appfragment.proofs.Numbers.{are_octets}
use Rattle.dnp_appfragment.proofs.Requests.{response_reads, response_again, response_fault}
use Rattle.dnp_appfragment.proofs.fragments.read_response.Goals as goal

pub returns-clause-found : goal.returns-clause-found
returns-clause-found c =
    let octets = c.args.octets.now in
    let reads = response_reads octets (are_octets octets (λ i. let fits = c.type_inv.octets i in fits.fits)) in
    found_of response (IsResponse octets) (IsResponseFault octets) c.response_of.result (response_at octets) c.response_of.ensures.gives reads

pub returns-clause-only : goal.returns-clause-only
returns-clause-only c = λ wanted is.
    only_of response c.response_of.result (response_at c.args.octets.now) wanted c.response_of.ensures.gives (response_again c.args.octets.now wanted is)

pub returns-clause-fault : goal.returns-clause-fault
returns-clause-fault c =
    let octets = c.args.octets.now in
    let reads = response_reads octets (are_octets octets (λ i. let fits = c.type_inv.octets i in fits.fits)) in
    fault_of response (IsResponse octets) (IsResponseFault octets) c.response_of.result (response_at octets) c.response_of.ensures.gives reads

pub returns-clause-only_fault : goal.returns-clause-only_fault
returns-clause-only_fault c = λ fault is.
    only_fault_of response c.response_of.result (response_at c.args.octets.now) fault c.response_of.ensures.gives (response_fault c.args.octets.now fault is)
