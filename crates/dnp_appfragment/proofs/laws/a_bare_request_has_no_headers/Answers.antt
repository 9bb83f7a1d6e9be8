use Rattle.dnp_appfragment.proofs.OneFragment.{bare_request}
use Rattle.dnp_appfragment.proofs.laws.a_bare_request_has_no_headers.Goals as goal

pub returns : goal.returns
returns c = bare_request
