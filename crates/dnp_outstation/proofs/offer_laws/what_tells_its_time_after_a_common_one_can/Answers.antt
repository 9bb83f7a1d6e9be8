use Rattle.dnp_outstation.proofs.Grouped.{grouped_items, grouped_told, grouped_tell}
use Rattle.dnp_outstation.proofs.offer_laws.what_tells_its_time_after_a_common_one_can.Goals as goal

pub returns-clause-whole : goal.returns-clause-whole
returns-clause-whole c = grouped_items

pub returns-clause-told : goal.returns-clause-told
returns-clause-told c = grouped_told

pub returns-clause-each : goal.returns-clause-each
returns-clause-each c = grouped_tell
