-- The law of `dnp_master` that the body calls is what the lemmas ask for.
use Rattle.dnp_world.proofs.MasterMoves.{first_taken, came_up, nothing_taken}
use Rattle.dnp_world.proofs.master_laws.a_master_takes_by_moves.Goals as goal

pub returns-clause-first : goal.returns-clause-first
returns-clause-first c = first_taken c.what_comes_is_taken_or_passed_over.ensures

pub returns-clause-came : goal.returns-clause-came
returns-clause-came c = came_up c.what_comes_is_taken_or_passed_over.ensures

pub returns-clause-refused : goal.returns-clause-refused
returns-clause-refused c = nothing_taken
