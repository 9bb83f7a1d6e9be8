use Rattle.std.proofs.Common.{arith, ◌∙◌}
use Rattle.sqlite.specs.State.{HasCleanDisk}
use Rattle.sqlite.specs.Held.{state}
use Rattle.dnp_store.proofs.Outcomes.{at_ok}
use Rattle.dnp_store.proofs.Statements.{survives_on}
use Rattle.dnp_store.proofs.Stepping.{if_ok}
use Rattle.dnp_store.proofs.Unread.{at_err}
use Rattle.dnp_store.proofs.queue_begin.find_stored.Goals as goal

pub returns-clause-read : goal.returns-clause-read
returns-clause-read g c clean =
    let early : HasCleanDisk (state g.S.Store c.read_stored-read.new.conn) = omega (arith, clean, c.served.ensures.survives.clean) in
    if_ok _ _ c.served.result (λ stored is. at_ok _ c.read_stored-read.result stored is (c.read_stored-read.ensures.read early)) c.served.ensures.handed

pub returns-clause-same : goal.returns-clause-same
returns-clause-same g c clean opened =
    let early : HasCleanDisk (state g.S.Store c.read_stored-read.new.conn) = omega (arith, clean, c.served.ensures.survives.clean) in
    let late = c.served.ensures.same clean opened in
    let first = c.read_stored-read.ensures.same early late.0 in
    (first.0, late.1 ∙ first.1)

pub returns-clause-survives : goal.returns-clause-survives
returns-clause-survives g c =
    survives_on (state g.S.Store c.args.conn.now) (state g.S.Store c.read_stored-read.new.conn) (state g.S.Store c.served.new.conn) _
    c.read_stored-read.ensures.survives c.served.ensures.survives

pub returns-clause-owned : goal.returns-clause-owned
returns-clause-owned g c clean =
    let early : HasCleanDisk (state g.S.Store c.read_stored-read.new.conn) = omega (arith, clean, c.served.ensures.survives.clean) in
    if_ok _ _ c.served.result (λ stored is. at_ok _ c.read_stored-read.result stored is (c.read_stored-read.ensures.owned early)) c.served.ensures.handed

pub returns-clause-numbered : goal.returns-clause-numbered
returns-clause-numbered g c clean =
    let early : HasCleanDisk (state g.S.Store c.read_stored-read.new.conn) = omega (arith, clean, c.served.ensures.survives.clean) in
    if_ok _ _ c.served.result (λ stored is. at_ok _ c.read_stored-read.result stored is (c.read_stored-read.ensures.numbered early)) c.served.ensures.handed

pub returns-clause-wrong_form : goal.returns-clause-wrong_form
returns-clause-wrong_form g c clean told holds =
    let early : HasCleanDisk (state g.S.Store c.read_stored-read.new.conn) = omega (arith, clean, c.served.ensures.survives.clean) in
    let wrong = c.served.ensures.wrong told in
    at_err _ c.read_stored-read.result wrong.0 wrong.1 (c.read_stored-read.ensures.denies early) wrong.2 holds

pub returns-clause-has : goal.returns-clause-has
returns-clause-has g c clean =
    let early : HasCleanDisk (state g.S.Store c.read_stored-read.new.conn) = omega (arith, clean, c.served.ensures.survives.clean) in
    if_ok _ _ c.served.result (λ stored is. at_ok _ c.read_stored-read.result stored is (c.read_stored-read.ensures.has early)) c.served.ensures.handed
