use Rattle.std.proofs.Common.{◌≡◌, true, false, refl, sym, subst, ◌∙◌}
use Rattle.std.specs.Prelude.{IsOk}
use Rattle.sqlite.specs.Held.{state}
use Rattle.dnp_store.specs.Faults.{is_taken}
use Rattle.dnp_store.proofs.Refusing.{lost_open, same_err, taken_open}
use Rattle.dnp_store.proofs.Standing.{survives_itself}
use Rattle.dnp_store.proofs.Beginning.{not_device, not_old}
use Rattle.dnp_store.proofs.open.told.Goals as goal

pub returns-in-Ok-clause-told : goal.returns-in-Ok-clause-told
returns-in-Ok-clause-told g c = record {
  idle = c.requires;
  ok = (subst IsOk (sym c.in-Ok.is) refl, refl);
  err = tt;
  same = λ clean opened. (opened, refl);
  survives = survives_itself (state g.S.Store c.args.conn.now);
}

pub returns-in-Err-clause-told : goal.returns-in-Err-clause-told
returns-in-Err-clause-told g c = record {
  idle = c.is_lost-lost.ensures.idle;
  ok = tt;
  err = record {
    error = c.in-Err.error;
    failed = c.in-Err.is;
    lost = λ clean told. c.is_lost-lost.ensures.lost clean (lost_open c.is_taken.result c.is_lost-lost.result c.open_fault.result c.open_fault.ensures told);
    taken = λ told. sym c.is_taken.ensures ∙ taken_open c.is_taken.result c.is_lost-lost.result c.open_fault.result c.open_fault.ensures told;
    current = not_old c.is_taken.result c.is_lost-lost.result c.open_fault.result c.open_fault.ensures;
  };
  same = c.is_lost-lost.ensures.same;
  survives = c.is_lost-lost.ensures.survives;
}

pub returns-in-Err-clause-free : goal.returns-in-Err-clause-free
returns-in-Err-clause-free g c told error failed =
    subst (λ e. is_taken e ≡ false) (same_err (sym c.in-Err.is ∙ failed))
    (sym c.is_taken.ensures ∙ not_device c.is_taken.result c.is_lost-lost.result c.open_fault.result c.open_fault.ensures told)
