use Rattle.dnp_eventbuf.proofs.Ids.{new_ids, left}
use Rattle.dnp_eventbuf.proofs.Limits.{last_id-with_rows}
use Rattle.dnp_eventbuf.proofs.laws.ids_are_used_once.Goals as goal

pub returns-clause-new_ids : goal.returns-clause-new_ids
returns-clause-new_ids c = new_ids

pub returns-clause-last_id : goal.returns-clause-last_id
returns-clause-last_id c = last_id-with_rows

pub returns-clause-left : goal.returns-clause-left
returns-clause-left c = left
