use Rattle.dnp_store.proofs.InMemory.{is_clean}
use Rattle.dnp_store.proofs.Refusing.{same_err, other_if}
use Rattle.dnp_store.proofs.open.Queue+MemStore.in_memory.Goals as goal

pub returns-in-Ok-create-clause-honest : goal.returns-in-Ok-create-clause-honest
returns-in-Ok-create-clause-honest c =
    (is_clean c.in-Ok-create.queue.conn, c.in-Ok-create.ensures.empty.1, c.in-Ok-create.ensures.owned.1 c.in-Ok.ensures.empty.2)

pub returns-clause-device : goal.returns-clause-device
returns-clause-device c told =
    let new = c.in-Err.field-0-1 in
    (c.in-Ok.conn, new, c.in-Ok.ensures.empty, c.in-Err.ensures.device (is_clean new) (same_err told))

pub returns-clause-taken : goal.returns-clause-taken
returns-clause-taken c told =
    let new = c.in-Err.field-0-1 in (
      c.in-Ok.conn,
      new,
      c.in-Ok.ensures.empty,
      other_if c.in-Ok.conn.in_transaction c.in-Ok.ensures.empty.0.autocommit (c.in-Err.ensures.taken (is_clean new) (same_err told)),
    )
