use Rattle.dnp_outstation.proofs.LinkTimers.{tick_none, tick_waits, tick_repeats, tick_closes}
use Rattle.dnp_outstation.proofs.link_laws.an_unsolicited_response_is_repeated_as_it_was.Goals as goal

pub returns-clause-none : goal.returns-clause-none
returns-clause-none c = tick_none

pub returns-clause-waits : goal.returns-clause-waits
returns-clause-waits c = tick_waits

pub returns-clause-repeats : goal.returns-clause-repeats
returns-clause-repeats c = tick_repeats

pub returns-clause-closes : goal.returns-clause-closes
returns-clause-closes c = tick_closes
