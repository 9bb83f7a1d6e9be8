use Rattle.std.proofs.Common.{false, refl, sym, subst}
use Rattle.std.specs.Prelude.{IsOk}
use Rattle.sqlite.specs.Held.{state}
use Rattle.dnp_store.proofs.Refusing.{lost_open, taken_open}
use Rattle.dnp_store.proofs.Standing.{survives_itself}
use Rattle.dnp_store.proofs.Beginning.{not_old}
use Rattle.dnp_store.proofs.open.written.Goals as goal

pub returns-in-Ok-clause-told : goal.returns-in-Ok-clause-told
returns-in-Ok-clause-told g c = record {
  idle = c.requires;
  ok = (subst IsOk (sym c.in-Ok.is) refl, refl);
  err = tt;
  same = λ clean opened. (opened, refl);
  survives = survives_itself (state g.S.Store c.args.conn.now);
}

pub returns-in-Err-clause-told : goal.returns-in-Err-clause-told
returns-in-Err-clause-told g c = record {
  idle = c.is_lost.ensures.idle;
  ok = tt;
  err = record {
    error = c.in-Err.error;
    failed = c.in-Err.is;
    lost = λ clean told. c.is_lost.ensures.lost clean (lost_open false c.is_lost.result c.open_fault.result c.open_fault.ensures told);
    taken = λ told. absurd (let no = taken_open false c.is_lost.result c.open_fault.result c.open_fault.ensures told in cc);
    current = not_old false c.is_lost.result c.open_fault.result c.open_fault.ensures;
  };
  same = c.is_lost.ensures.same;
  survives = c.is_lost.ensures.survives;
}

pub returns-in-Err-clause-named : goal.returns-in-Err-clause-named
returns-in-Err-clause-named g c told =
    absurd (let no = taken_open false c.is_lost.result c.open_fault.result c.open_fault.ensures told in cc)
