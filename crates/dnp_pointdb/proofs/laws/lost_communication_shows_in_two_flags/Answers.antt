use Rattle.dnp_pointdb.proofs.Events.{online_cleared, comm_lost_set, others_left}
use Rattle.dnp_pointdb.proofs.laws.lost_communication_shows_in_two_flags.Goals as goal

pub returns : goal.returns
returns c = record { online = online_cleared; comm_lost = comm_lost_set; others = others_left }
