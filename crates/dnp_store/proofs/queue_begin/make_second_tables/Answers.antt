use Rattle.sqlite.specs.Held.{state}
use Rattle.dnp_store.specs.Added.{MakeAll, making_second}
use Rattle.dnp_store.specs.QueueKept.{QueueStands}
use Rattle.dnp_store.specs.PairTables.{migrated}
use Rattle.dnp_store.proofs.Beginning.{told_current, told_err, told_ok}
use Rattle.dnp_store.proofs.Statements.{survives_on}
use Rattle.dnp_store.proofs.queue_begin.make_second_tables.Goals as goal

pub returns-clause-idle : goal.returns-clause-idle
returns-clause-idle g c = c.written.ensures.told.idle

pub returns-clause-ok : goal.returns-clause-ok
returns-clause-ok g c clean s opens =
    told_ok g.S.Store c.args.conn.now c.write_second-done.new.conn c.written.new.conn c.write_second-done.result
    (λ h. QueueStands (state g.S.Store h) (migrated s c.args.capacities.now)) c.written.result c.written.ensures.told
    (λ early. c.write_second-done.ensures.ok early s opens) clean

pub returns-clause-added : goal.returns-clause-added
returns-clause-added g c clean =
    told_ok g.S.Store c.args.conn.now c.write_second-done.new.conn c.written.new.conn c.write_second-done.result
    (λ h. MakeAll g.S.Store (making_second c.args.capacities.now) (state g.S.Store c.args.conn.now).now (state g.S.Store h).committed) c.written.result c.written.ensures.told
    c.write_second-done.ensures.added clean

pub returns-clause-settled : goal.returns-clause-settled
returns-clause-settled g c = c.write_second-done.ensures.settled

pub returns-clause-current : goal.returns-clause-current
returns-clause-current g c =
    told_current g.S.Store c.args.conn.now c.write_second-done.new.conn c.written.new.conn c.write_second-done.result c.written.result c.written.ensures.told

pub returns-clause-err : goal.returns-clause-err
returns-clause-err g c clean opened =
    told_err g.S.Store c.args.conn.now c.write_second-done.new.conn c.written.new.conn c.write_second-done.result c.written.result c.written.ensures.told
    c.write_second-done.ensures.err clean opened

pub returns-clause-survives : goal.returns-clause-survives
returns-clause-survives g c =
    survives_on (state g.S.Store c.args.conn.now) (state g.S.Store c.write_second-done.new.conn) (state g.S.Store c.written.new.conn) _
    c.write_second-done.ensures.survives c.written.ensures.told.survives
