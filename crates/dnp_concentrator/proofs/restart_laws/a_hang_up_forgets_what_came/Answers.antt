use Rattle.std.specs.Prelude.{refl}
use Rattle.dnp_concentrator.specs.Below.{no_link}
use Rattle.dnp_concentrator.specs.Relaying.{hung_up}
use Rattle.dnp_concentrator.proofs.Forgets.{set_same}
use Rattle.dnp_concentrator.proofs.HungUp.{asked_hangs_up, received_hangs_up, relayed_hangs_up, ticked_hangs_up}
use Rattle.dnp_concentrator.proofs.restart_laws.a_hang_up_forgets_what_came.Goals as goal

pub returns-clause-new : goal.returns-clause-new
returns-clause-new c = λ r. refl

pub returns-clause-opened : goal.returns-clause-opened
returns-clause-opened c = λ r. refl

pub returns-clause-again : goal.returns-clause-again
returns-clause-again c = λ r. refl

pub returns-clause-ticked : goal.returns-clause-ticked
returns-clause-ticked c = ticked_hangs_up

pub returns-clause-asked : goal.returns-clause-asked
returns-clause-asked c = asked_hangs_up

pub returns-clause-received : goal.returns-clause-received
returns-clause-received c = received_hangs_up

pub returns-clause-relayed : goal.returns-clause-relayed
returns-clause-relayed c = relayed_hangs_up

pub returns-clause-one : goal.returns-clause-one
returns-clause-one c = λ links number r same. set_same hung_up links number r no_link same
