use Rattle.dnp_outstation.proofs.LinkConfirms.{solicited_released, unsolicited_released, others_release}
use Rattle.dnp_outstation.proofs.LinkLeaves.{tick_releases, change_discards, opened_releases}
use Rattle.dnp_outstation.proofs.link_laws.a_confirm_releases_what_its_fragment_reported.Goals as goal

pub returns-clause-solicited : goal.returns-clause-solicited
returns-clause-solicited c = solicited_released

pub returns-clause-unsolicited : goal.returns-clause-unsolicited
returns-clause-unsolicited c = unsolicited_released

pub returns-clause-others : goal.returns-clause-others
returns-clause-others c = others_release

pub returns-clause-ticked : goal.returns-clause-ticked
returns-clause-ticked c = tick_releases

pub returns-clause-changed : goal.returns-clause-changed
returns-clause-changed c = change_discards

pub returns-clause-opened : goal.returns-clause-opened
returns-clause-opened c = opened_releases
