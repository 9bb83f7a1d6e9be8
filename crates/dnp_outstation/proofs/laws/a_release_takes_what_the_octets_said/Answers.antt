use Rattle.dnp_outstation.proofs.Reported.{fragment_is, fragment_says, pushed_is, pushed_says}
use Rattle.dnp_outstation.proofs.laws.a_release_takes_what_the_octets_said.Goals as goal

pub returns-clause-read : goal.returns-clause-read
returns-clause-read c = fragment_is c.octets_say_what_is_held.ensures.response

pub returns-clause-fragment : goal.returns-clause-fragment
returns-clause-fragment c = fragment_says c.octets_say_what_is_held.ensures.rows

pub returns-clause-unsolicited_read : goal.returns-clause-unsolicited_read
returns-clause-unsolicited_read c = pushed_is c.octets_say_what_is_held.ensures.response

pub returns-clause-unsolicited : goal.returns-clause-unsolicited
returns-clause-unsolicited c = pushed_says c.octets_say_what_is_held.ensures.rows
