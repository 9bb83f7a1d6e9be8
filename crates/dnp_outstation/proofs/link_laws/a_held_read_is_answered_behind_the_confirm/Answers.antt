use Rattle.dnp_outstation.proofs.LinkConfirms.{held_is_answered, none_is_answered}
use Rattle.dnp_outstation.proofs.LinkTimers.{read_waits}
use Rattle.dnp_outstation.proofs.link_laws.a_held_read_is_answered_behind_the_confirm.Goals as goal

pub returns-clause-waits : goal.returns-clause-waits
returns-clause-waits c = read_waits

pub returns-clause-answered : goal.returns-clause-answered
returns-clause-answered c = held_is_answered

pub returns-clause-none_held : goal.returns-clause-none_held
returns-clause-none_held c = none_is_answered
