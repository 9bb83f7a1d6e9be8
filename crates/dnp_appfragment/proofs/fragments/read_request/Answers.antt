use Rattle.dnp_appfragment.specs.Fragments.{IsRequest}
use Rattle.dnp_appfragment.specs.Faults.{IsRequestFault}
use Rattle.dnp_appfragment.specs.Meaning.{request_at}
use Rattle.dnp_appfragment.specs.Whole.{request}
use Rattle.dnp_appfragment.proofs.Answering.{found_of, fault_of, only_of, only_fault_of}
use Rattle.dnp_appfragment.proofs.Numbers.{are_octets}
use Rattle.dnp_appfragment.proofs.Requests.{request_reads, request_again, request_fault}
use Rattle.dnp_appfragment.proofs.fragments.read_request.Goals as goal

pub returns-clause-found : goal.returns-clause-found
returns-clause-found c =
    let octets = c.args.octets.now in
    let reads = request_reads octets (are_octets octets (λ i. let fits = c.type_inv.octets i in fits.fits)) in
    found_of request (IsRequest octets) (IsRequestFault octets) c.request_of.result (request_at octets) c.request_of.ensures.gives reads

pub returns-clause-only : goal.returns-clause-only
returns-clause-only c = λ wanted is.
    only_of request c.request_of.result (request_at c.args.octets.now) wanted c.request_of.ensures.gives (request_again c.args.octets.now wanted is)

pub returns-clause-fault : goal.returns-clause-fault
returns-clause-fault c =
    let octets = c.args.octets.now in
    let reads = request_reads octets (are_octets octets (λ i. let fits = c.type_inv.octets i in fits.fits)) in
    fault_of request (IsRequest octets) (IsRequestFault octets) c.request_of.result (request_at octets) c.request_of.ensures.gives reads

pub returns-clause-only_fault : goal.returns-clause-only_fault
returns-clause-only_fault c = λ fault is.
    only_fault_of request c.request_of.result (request_at c.args.octets.now) fault c.request_of.ensures.gives (request_fault c.args.octets.now fault is)
