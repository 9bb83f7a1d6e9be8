-- What headers divide has no more events than octets, and the first four stand before them.
use Rattle.dnp_appfragment.proofs.EventRows.{answered_few}
use Rattle.dnp_appfragment.proofs.Numbers.{octets_all}
use Rattle.dnp_appfragment.proofs.Requests.{response_reads}
use Rattle.dnp_appfragment.specs.Meaning.{response_at}
use Rattle.dnp_appfragment.proofs.laws.read.events_have_octets.Goals as goal

pub returns : goal.returns
returns c = λ octets all. answered_few octets (response_at octets) (response_reads octets (octets_all octets all))
