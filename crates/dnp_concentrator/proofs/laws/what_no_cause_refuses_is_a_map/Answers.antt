use Rattle.dnp_concentrator.proofs.Refusals.{is_map}
use Rattle.dnp_concentrator.proofs.laws.what_no_cause_refuses_is_a_map.Goals as goal

pub returns : goal.returns
returns c = is_map
