use Rattle.std.proofs.Common.{rules, ◌≡◌, IsTrue, false, Ok, Err, Result, ap₂, subst}
use Rattle.std.specs.Prelude.{OnOk}
use Rattle.sqlite.specs.declared.error.Error.{Error}
use Rattle.dnp_eventbuf.specs.EventBuffer.{EventBuffer}
use Rattle.dnp_store.specs.Added.{making_queue}
use Rattle.dnp_store.specs.steps.Beginning.{Found, IsTold}
use Rattle.dnp_store.proofs.Beginning.{made_inside, made_memory, made_not, made_well}
use Rattle.dnp_store.proofs.queue_begin.make_lanes.Goals as goal

and_too : (X Y : Type 0) (r : Result (Unit {0}) Error) → OnOk r X → OnOk r Y → OnOk r (X × Y)
and_too X Y (Ok _) x y = (x, y)
and_too X Y (Err e) x y = tt

pub returns-then-not-is_autocommit : goal.returns-then-not-is_autocommit
returns-then-not-is_autocommit g c =
    let inside : IsTrue c.args.conn.now.in_transaction = search rules in
    record { is = made_inside g.S.Store (making_queue c.args.first.now c.args.second.now) _ _ _ c.args.conn.now inside; empty = tt }

pub returns-in_default : goal.returns-in_default
returns-in_default g c =
    let idle : c.args.conn.now.in_transaction ≡ false = search rules in
    record { is = made_memory g.S.Store (making_queue c.args.first.now c.args.second.now) _ _ _ c.args.conn.now idle; empty = tt }

pub returns-in-Err : goal.returns-in-Err
returns-in-Err g c =
    let idle : c.args.conn.now.in_transaction ≡ false = search rules in
    record {
      is = made_not g.S.Store (making_queue c.args.first.now c.args.second.now) _ _ _ c.args.conn.now c.write_tables-done.new.conn c.told.new.conn c.write_tables-done.result idle
          c.write_tables-done.ensures.err c.write_tables-done.ensures.refused c.write_tables-done.ensures.survives c.told.result _ c.in-Err.is c.told.ensures.told c.told.ensures.free;
      empty = tt;
    }

pub returns-in-Ok-told : goal.returns-in-Ok-told
returns-in-Ok-told g c =
    let idle : c.args.conn.now.in_transaction ≡ false = search rules in
    let told : IsTold g.S.Store c.write_tables-done.new.conn c.told.new.conn c.write_tables-done.result (Ok tt) =
    subst (IsTold g.S.Store c.write_tables-done.new.conn c.told.new.conn c.write_tables-done.result) c.in-Ok-told.is c.told.ensures.told in
    record {
      is = made_well g.S.Store (making_queue c.args.first.now c.args.second.now) _ _ (λ (found : Found). found.2) c.args.conn.now c.write_tables-done.new.conn c.told.new.conn c.write_tables-done.result idle
          c.write_tables-done.ensures.err c.write_tables-done.ensures.refused c.write_tables-done.ensures.survives
          (c.in-Ok.ours, c.in-Ok.others, c.is_bare-owned.result) c.is_bare-owned.ensures told
          c.write_tables-done.ensures.added (λ clean bare. and_too _ _ c.write_tables-done.result (c.write_tables-done.ensures.ok clean bare) (c.write_tables-done.ensures.schema clean bare));
      empty = ap₂ (λ (a b : EventBuffer). record { first = a; second = b }) c.in-Ok.ensures.0 c.in-Ok.ensures.1;
    }
