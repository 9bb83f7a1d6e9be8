use Rattle.std.proofs.Common.{Err, sym, subst}
use Rattle.dnp_store.specs.steps.Inside.{IsEnded}
use Rattle.dnp_store.proofs.Ending.{ended_by_commit, ended_undone}
use Rattle.dnp_store.proofs.transactions.end.Goals as goal

pub returns-in-Ok : goal.returns-in-Ok
returns-in-Ok g c =
    subst (λ done. IsEnded g.S.Store c.args.tx.conn.now c.commit.new.self.0 done c.commit.result) (sym c.in-Ok.is)
    (ended_by_commit g.S.Store c.args.tx.conn.now c.commit.new.self.0 _ _ c.commit.result c.commit.ensures.ended c.commit.ensures.ok c.commit.ensures.err
    c.commit.ensures.survives)

pub returns-in-Err : goal.returns-in-Err
returns-in-Err g c =
    subst (λ done. IsEnded g.S.Store c.args.tx.conn.now c.drop-tx.new.self.0 done (Err c.in-Err.error)) (sym c.in-Err.is)
    (ended_undone g.S.Store c.args.tx.conn.now c.drop-tx.new.self.0 c.in-Err.error c.drop-tx.ensures.ended c.drop-tx.ensures.undone
    c.drop-tx.ensures.survives)
