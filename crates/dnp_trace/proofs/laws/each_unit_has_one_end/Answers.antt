use Rattle.dnp_trace.proofs.Accounting.{new_accounts, later_accounts, begun_accounts, came_to_accounts, stood_accounts, carried_accounts, settled_accounts}
use Rattle.dnp_trace.proofs.laws.each_unit_has_one_end.Goals as goal

pub returns : goal.returns
returns c = record {
  new = new_accounts;
  pass = later_accounts;
  line = begun_accounts;
  front = came_to_accounts;
  stands = stood_accounts;
  carried = carried_accounts;
  settled = settled_accounts;
}
