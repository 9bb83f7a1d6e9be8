use Rattle.std.proofs.Common.{rules, ◌≡◌, IsTrue, false, Ok, subst}
use Rattle.dnp_store.specs.Added.{making_tables}
use Rattle.dnp_store.specs.steps.Beginning.{IsTold}
use Rattle.dnp_store.proofs.Beginning.{made_inside, made_not, made_well}
use Rattle.dnp_store.proofs.open.begin_tables.Goals as goal

pub returns-then-not-is_autocommit : goal.returns-then-not-is_autocommit
returns-then-not-is_autocommit g c =
    let inside : IsTrue c.args.conn.now.in_transaction = search rules in
    made_inside g.S.Store (making_tables c.args.kind) _ _ _ c.args.conn.now inside

pub returns-in-Err : goal.returns-in-Err
returns-in-Err g c =
    let idle : c.args.conn.now.in_transaction ≡ false = search rules in
    made_not g.S.Store (making_tables c.args.kind) _ _ _ c.args.conn.now c.write_tables-done.new.conn c.told.new.conn c.write_tables-done.result idle
    c.write_tables-done.ensures.err c.write_tables-done.ensures.refused c.write_tables-done.ensures.survives c.told.result _ c.in-Err.is c.told.ensures.told c.told.ensures.free

pub returns-in-Ok : goal.returns-in-Ok
returns-in-Ok g c =
    let idle : c.args.conn.now.in_transaction ≡ false = search rules in
    let told : IsTold g.S.Store c.write_tables-done.new.conn c.told.new.conn c.write_tables-done.result (Ok tt) =
    subst (IsTold g.S.Store c.write_tables-done.new.conn c.told.new.conn c.write_tables-done.result) c.in-Ok.is c.told.ensures.told in
    made_well g.S.Store (making_tables c.args.kind) _ _ (λ owned. owned) c.args.conn.now c.write_tables-done.new.conn c.told.new.conn c.write_tables-done.result idle
    c.write_tables-done.ensures.err c.write_tables-done.ensures.refused c.write_tables-done.ensures.survives c.is_bare-owned.result c.is_bare-owned.ensures told
    c.write_tables-done.ensures.added c.write_tables-done.ensures.ok
