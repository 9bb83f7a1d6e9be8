use Rattle.std.proofs.Common.{not, IsTrue, refl, ap, ◌∙◌}
use Rattle.sqlite.specs.Held.{state}
use Rattle.dnp_store.proofs.Standing.{survives_itself}
use Rattle.dnp_store.proofs.queue_begin.second_made.Goals as goal

pub returns-then-has_second_name-clause-settled : goal.returns-then-has_second_name-clause-settled
returns-then-has_second_name-clause-settled g c is_open =
    let idle : IsTrue c.is_autocommit.result = c.is_autocommit.ensures.value ∙ ap not c.requires.idle in
    c.is_autocommit.ensures.settled idle is_open

pub returns-then-has_second_name-clause-err : goal.returns-then-has_second_name-clause-err
returns-then-has_second_name-clause-err g c clean opened = (opened, refl)

pub returns-then-has_second_name-clause-survives : goal.returns-then-has_second_name-clause-survives
returns-then-has_second_name-clause-survives g c = survives_itself (state g.S.Store c.args.conn.now)
