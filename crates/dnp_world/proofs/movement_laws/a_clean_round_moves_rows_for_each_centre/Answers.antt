-- By what each centre sees.
use Rattle.dnp_world.proofs.MovesForAll.{moves_all}
use Rattle.dnp_world.proofs.movement_laws.a_clean_round_moves_rows_for_each_centre.Goals as goal

pub returns : goal.returns
returns c = λ on old new steady quiet round. moves_all c.a_clean_round_moves_rows.ensures on old new steady quiet round
