use Rattle.dnp_outstation.proofs.LinkLeaves.{tick_performed, change_performed, opened_performed}
use Rattle.dnp_outstation.proofs.LinkPerforms.{connection_performs}
use Rattle.dnp_outstation.proofs.Performing.{no_commands, performs_none}
use Rattle.dnp_outstation.specs.Calls.{connection_after}
use Rattle.dnp_outstation.proofs.link_laws.commands_are_performed_as_they_are_asked.Goals as goal

pub returns-clause-performed : goal.returns-clause-performed
returns-clause-performed c = λ s o now octets. connection_performs s o now octets c.parts_are_covered.ensures.kept

pub returns-clause-only : goal.returns-clause-only
returns-clause-only c = λ s o now octets no_operate no_direct no_silent.
    performs_none o octets s.performed (connection_after s o now octets).state.performed
    (connection_performs s o now octets c.parts_are_covered.ensures.kept) (no_commands octets no_operate no_direct no_silent)

pub returns-clause-ticked : goal.returns-clause-ticked
returns-clause-ticked c = tick_performed

pub returns-clause-changed : goal.returns-clause-changed
returns-clause-changed c = change_performed

pub returns-clause-opened : goal.returns-clause-opened
returns-clause-opened c = opened_performed
