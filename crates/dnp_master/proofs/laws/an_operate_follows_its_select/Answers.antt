use Rattle.dnp_master.proofs.Selecting.{operates_selected, selects_by_success}
use Rattle.dnp_master.proofs.laws.an_operate_follows_its_select.Goals as goal

pub returns-clause-operates : goal.returns-clause-operates
returns-clause-operates c = operates_selected c.equality_is_decided.ensures.commands

pub returns-clause-selects : goal.returns-clause-selects
returns-clause-selects c = selects_by_success
