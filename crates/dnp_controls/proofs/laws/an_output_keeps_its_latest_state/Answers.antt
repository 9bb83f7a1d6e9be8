use Rattle.dnp_controls.proofs.Latching.{is_latched-push}
use Rattle.dnp_controls.proofs.Setting.{value_of-push}
use Rattle.dnp_controls.proofs.laws.an_output_keeps_its_latest_state.Goals as goal

pub returns-clause-latched : goal.returns-clause-latched
returns-clause-latched c = is_latched-push

pub returns-clause-valued : goal.returns-clause-valued
returns-clause-valued c = value_of-push
