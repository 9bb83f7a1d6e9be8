use Rattle.dnp_pointdb.proofs.Readings.{changed_here, set_here, changed_elsewhere, set_elsewhere}
use Rattle.dnp_pointdb.proofs.Histories.{state_at-restarted}
use Rattle.dnp_pointdb.proofs.laws.a_change_is_of_one_point.Goals as goal

pub returns : goal.returns
returns c = record {
  changed = changed_here;
  set = set_here;
  others_changed = changed_elsewhere;
  others_set = set_elsewhere;
  restarted = state_at-restarted;
}
