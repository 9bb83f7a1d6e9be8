-- What is held of some classes fits and can be written, so its octets say it.
use Rattle.dnp_outstation.specs.Forms.{may_each}
use Rattle.dnp_outstation.specs.Items.{enabled_lanes, lane_items}
use Rattle.dnp_outstation.specs.Offer.{held_laid}
use Rattle.dnp_outstation.proofs.ItemsOf.{pushed_stand}
use Rattle.dnp_outstation.proofs.PolledConfirm.{confirms_report}
use Rattle.dnp_outstation.proofs.PolledOrder.{reported_released}
use Rattle.dnp_outstation.proofs.Reported.{held_fits}
use Rattle.dnp_outstation.proofs.poll_laws.a_fragment_of_classes_is_said_and_released.Goals as goal

pub returns-clause-said : goal.returns-clause-said
returns-clause-said c = λ s enabled sound few.
    let items = lane_items s (enabled_lanes 0 enabled) in
    c.octets_say_what_is_held.ensures.rows (held_laid may_each items) (pushed_stand s enabled sound few) (held_fits may_each items)

pub returns-clause-released : goal.returns-clause-released
returns-clause-released c = reported_released

pub returns-clause-confirmed : goal.returns-clause-confirmed
returns-clause-confirmed c = confirms_report c.octets_say_their_control_and_function.ensures.control
