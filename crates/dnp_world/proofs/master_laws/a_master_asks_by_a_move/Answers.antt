-- The law of `dnp_master` that the body calls is what the lemma asks for.
use Rattle.dnp_world.proofs.MasterAsks.{asks}
use Rattle.dnp_world.proofs.master_laws.a_master_asks_by_a_move.Goals as goal

pub returns : goal.returns
returns c = asks c.an_idle_master_asks.ensures
