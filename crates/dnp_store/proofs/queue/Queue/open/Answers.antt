use Rattle.std.proofs.Common.{Err, arith, ap}
use Rattle.dnp_store.proofs.Beginning.{inside_not, inside_wrong}
use Rattle.dnp_store.proofs.queue.Queue.open.Goals as goal

pub returns-in-Ok-clause-inside : goal.returns-in-Ok-clause-inside
returns-in-Ok-clause-inside g c inside = inside_not g.S.Store _ c.args.conn c.open_lanes.new.conn _ c.in-Ok.ensures.begins inside

pub returns-in-Err-clause-inside : goal.returns-in-Err-clause-inside
returns-in-Err-clause-inside g c inside = inside_wrong g.S.Store _ c.args.conn c.open_lanes.new.conn c.in-Err.fault c.in-Err.ensures.begins inside

pub returns-in-Ok-clause-held : goal.returns-in-Ok-clause-held
returns-in-Ok-clause-held g c clean = omega (arith, clean, c.in-Ok.ensures.begins.survives.clean)

pub returns-in-Ok-clause-stands : goal.returns-in-Ok-clause-stands
returns-in-Ok-clause-stands g c = c.in-Ok.ensures.stands

pub returns-in-Err-clause-same : goal.returns-in-Err-clause-same
returns-in-Err-clause-same g c = c.in-Err.ensures.begins.same

pub returns-in-Err-clause-handed_back : goal.returns-in-Err-clause-handed_back
returns-in-Err-clause-handed_back g c = (c.in-Err.ensures.begins.kept, c.in-Err.ensures.begins.survives.limit)

pub returns-in-Err-clause-left : goal.returns-in-Err-clause-left
returns-in-Err-clause-left g c = c.in-Err.ensures.begins.survives

pub returns-in-Ok-clause-found : goal.returns-in-Ok-clause-found
returns-in-Ok-clause-found g c = c.in-Ok.ensures.found

pub returns-in-Ok-clause-unwritten : goal.returns-in-Ok-clause-unwritten
returns-in-Ok-clause-unwritten g c = c.in-Ok.ensures.begins.survives

pub returns-in-Err-clause-old_form : goal.returns-in-Err-clause-old_form
returns-in-Err-clause-old_form g c clean told = c.in-Err.ensures.old_form clean (ap Err told)

pub returns-in-Err-clause-not_old : goal.returns-in-Err-clause-not_old
returns-in-Err-clause-not_old g c clean told = c.in-Err.ensures.not_old clean (ap Err told)

pub returns-in-Ok-clause-not_new : goal.returns-in-Ok-clause-not_new
returns-in-Ok-clause-not_new g c = c.in-Ok.ensures.is_new

pub returns-in-Err-clause-wrong_form : goal.returns-in-Err-clause-wrong_form
returns-in-Err-clause-wrong_form g c clean told = c.in-Err.ensures.wrong clean (ap Err told)

pub returns-in-Ok-clause-lanes : goal.returns-in-Ok-clause-lanes
returns-in-Ok-clause-lanes g c = c.in-Ok.ensures.lanes
