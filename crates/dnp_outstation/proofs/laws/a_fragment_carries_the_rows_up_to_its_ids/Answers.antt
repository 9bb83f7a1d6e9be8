use Rattle.dnp_outstation.proofs.Carried.{fragment_rows, pushed_rows, released_rows}
use Rattle.dnp_outstation.proofs.laws.a_fragment_carries_the_rows_up_to_its_ids.Goals as goal

pub returns-clause-fragment : goal.returns-clause-fragment
returns-clause-fragment c = fragment_rows

pub returns-clause-unsolicited : goal.returns-clause-unsolicited
returns-clause-unsolicited c = pushed_rows

pub returns-clause-released : goal.returns-clause-released
returns-clause-released c = released_rows
