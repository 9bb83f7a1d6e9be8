use Rattle.dnp_controls.proofs.Moving.{spends-once}
use Rattle.dnp_controls.proofs.laws.an_entry_is_spent_once.Goals as goal

pub returns : goal.returns
returns c = spends-once
