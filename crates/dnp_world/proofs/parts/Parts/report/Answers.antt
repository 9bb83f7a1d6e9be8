-- Each list is read of a system that is what it was.
use Rattle.dnp_world.proofs.Telling.{memory_is_no_device, no_fault, tells_nothing, tells_on}
use Rattle.dnp_world.proofs.parts.Parts.report.Goals as goal

pub returns-clause-shows : goal.returns-clause-shows
returns-clause-shows g c = λ well centre low.
    let read = rw (c.lost_for_each-lost.ensures.same) at well in
    let same = c.stored_below.ensures.same read in
    let stored = c.in_ok-stored.ensures in
    let copies = c.in_ok-copies.ensures in
    let its = stored.queue read centre low in
    record {
      journal = stored.journal read centre low;
      queued = its.0;
      by_id = its.1;
      queue = its.2;
      dropped = rw same at (copies.dropped centre low);
      confirmed = rw same at copies.confirmed;
      buffered = stored.buffered;
      overwritten = rw same at copies.overwritten;
      gone = rw same at copies.gone;
      issued = rw same at copies.issued;
      operated = rw same at copies.operated;
      lost = rw same at (c.lost_for_each-lost.ensures.value well centre low);
    }

pub returns-in_err-stored-clause-device : goal.returns-in_err-stored-clause-device
returns-in_err-stored-clause-device g c =
    tells_on _ _ c.stored_below.result c.from_residual.result c.in_err-stored.field-0.0 c.in_err-stored.was c.from_residual.ensures.1
    c.stored_below.ensures.device

pub returns-clause-device : goal.returns-clause-device
returns-clause-device g c =
    rw (c.lost_for_each-lost.ensures.same)
    (tells_nothing _ _ c.stored_below.result c.in_ok-stored.stored c.in_ok-stored.was c.stored_below.ensures.device (no_fault _ _))

pub returns-in_err-copies-clause-device : goal.returns-in_err-copies-clause-device
returns-in_err-copies-clause-device g c =
    tells_nothing _ _ c.stored_below.result c.in_ok-stored.stored c.in_ok-stored.was c.stored_below.ensures.device
    (memory_is_no_device _ c.from_residual-in_err-copies.ensures.1)
