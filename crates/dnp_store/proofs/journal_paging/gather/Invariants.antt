use Rattle.std.proofs.Common.{◌≡◌, ◌≤◌, ◌-◌}
use Rattle.sqlite.specs.State.{HasCleanDisk}
use Rattle.sqlite.specs.Held.{state}
use Rattle.dnp_objects.specs.declared.limits.TheConstants.{MAX_ID}
use Rattle.dnp_eventbuf.specs.Archive.{Archive}
use Rattle.dnp_store.specs.JournalTables.{HoldsArchive}
use Rattle.dnp_store.specs.declared.store_kind.StoreKind.TheVariants.{Journal}
use Rattle.dnp_store.specs.steps.Stores.{Reads}
use Rattle.dnp_store.specs.steps.JournalPages.{AreSeen}
use Rattle.dnp_store.specs.steps.JournalShown.{Gathers}
use Rattle.dnp_store.proofs.Stepping.{AreSteps}
use Rattle.dnp_store.proofs.journal_paging.gather.Given as goal

-- the rows so far were looked at, those over the last of them are left, and nothing has changed
abbrev pub invariant-pages : goal.invariant-pages
invariant-pages g l =
    let old = state g.S.Store l.fn.tx.conn.now in
    let now = state g.S.Store l.tx.conn.now in
    record {
      step : AreSteps g.S.Store l.fn.tx.conn l.tx.conn;
      low : l.so_far.last ≤ MAX_ID;
      few : l.so_far.count ≤ l.so_far.last;
      read : HasCleanDisk now → Reads Journal old now (λ db. Gathers (db 1) l.so_far.last l.so_far.count);
      seen : HasCleanDisk now → Reads Journal old now (λ db. (a : Archive) → HoldsArchive db a → AreSeen a l.so_far.last l.so_far.count);
      same : HasCleanDisk now → now.now ≡ old.now;
    }

-- each page but the last has a row, and there are no more rows than ids
abbrev pub decreases-pages : goal.decreases-pages
decreases-pages g l = MAX_ID - l.so_far.count
