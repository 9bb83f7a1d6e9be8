use Rattle.dnp_linkstation.proofs.Made.{made}
use Rattle.dnp_linkstation.proofs.laws.each_station_has_a_history.Goals as goal

pub returns : goal.returns
returns c = made
