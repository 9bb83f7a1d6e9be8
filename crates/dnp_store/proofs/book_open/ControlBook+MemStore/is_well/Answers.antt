use Rattle.std.proofs.Common.{◌&&◌, IsTrue, ap, sym, subst, ◌∙◌}
use Rattle.dnp_store.proofs.InMemory.{is_clean, runs_on}
use Rattle.dnp_store.proofs.book_open.ControlBook+MemStore.is_well.Goals as goal

pub returns-then-serves-clause-well : goal.returns-then-serves-clause-well
returns-then-serves-clause-well c owned = (
  is_clean c.args.self.now.conn,
  runs_on c.args.self.now.stopped c.serves.result c.serves.ensures.value c.if-serves.true,
  subst (λ b. IsTrue b) c.owns_database.ensures owned,
)

pub returns-then-serves-clause-told : goal.returns-then-serves-clause-told
returns-then-serves-clause-told c =
    c.owns_database.ensures ∙ sym (ap (λ b. b && c.args.self.now.owned) (sym c.serves.ensures.value ∙ c.if-serves.true))
