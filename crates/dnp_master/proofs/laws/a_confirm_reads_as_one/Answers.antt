use Rattle.std.proofs.Common.{refl}
use Rattle.dnp_appfragment.specs.Fragments.{confirmation, request_octets}
use Rattle.dnp_master.proofs.LinkSteps.{small_octets}
use Rattle.dnp_master.proofs.laws.a_confirm_reads_as_one.Goals as goal

pub returns : goal.returns
returns c = λ seq uns low.
    (c.octets_say_a_request.ensures.request (request_octets (confirmation seq uns)) (confirmation seq uns) (small_octets seq uns low)).1
    (c.what_is_spelled_is_a_fragment.ensures.request (confirmation seq uns) low refl tt)
