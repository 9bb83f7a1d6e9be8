use Rattle.std.proofs.Common.{rules, ◌≡◌, IsTrue, false, Err, inl, inr, ap, sym, subst, ◌∙◌}
use Rattle.sqlite.specs.Held.{state}
use Rattle.sqlite.specs.State.{HasCleanDisk}
use Rattle.dnp_store.specs.declared.open.OpenFault.TheVariants.{OldForm}
use Rattle.dnp_store.specs.declared.queue_opening.Stored.{Stored}
use Rattle.dnp_store.specs.declared.queue_opening.Stored.TheVariants.{One, Pair}
use Rattle.dnp_store.specs.Refusals.{IsNumbered}
use Rattle.dnp_store.specs.PairTables.{IsPair}
use Rattle.dnp_store.specs.steps.Stored.{AreRead, IsOwned, IsStored, number_of}
use Rattle.dnp_store.proofs.Beginning.{begins_inside, begins_refused, begins_well, no_fault}
use Rattle.dnp_store.proofs.Refusing.{same_err}
use Rattle.dnp_store.proofs.queue_begin.open_lanes.Goals as goal

pub returns-then-not-is_autocommit : goal.returns-then-not-is_autocommit
returns-then-not-is_autocommit g c =
    let inside : IsTrue c.args.conn.now.in_transaction = search rules in
    record {
      begins = begins_inside g.S.Store _ c.args.conn.now inside;
      found = λ clean. tt;
      stands = λ clean. tt;
      owned = λ clean. tt;
      current = λ clean. tt;
      lanes = λ clean. tt;
      numbered = λ clean told. absurd (let no = told in cc);
      old_form = λ clean told. absurd (let no = told in cc);
      not_old = λ clean told. absurd (let no = told in cc);
      is_new = λ clean. tt;
      wrong = λ clean told. inl inside;
    }

pub returns-in-Err : goal.returns-in-Err
returns-in-Err g c =
    let idle : c.args.conn.now.in_transaction ≡ false = search rules in
    record {
      begins = begins_refused g.S.Store _ c.args.conn.now c.find_stored.new.conn _ idle c.find_stored.ensures.idle
          (λ clean opened. (c.find_stored.ensures.same clean opened).1) c.find_stored.ensures.survives;
      found = λ clean. tt;
      stands = λ clean. tt;
      owned = λ clean. tt;
      current = λ clean. tt;
      lanes = λ clean. tt;
      numbered = λ clean told. absurd (c.in-Err.ensures.current (same_err told));
      old_form = λ clean told. absurd (c.in-Err.ensures.current (same_err told));
      not_old = λ clean told. absurd (c.in-Err.ensures.current (same_err told));
      is_new = λ clean. tt;
      wrong = λ clean told. inr (c.find_stored.ensures.wrong_form clean (c.in-Err.is ∙ ap Err (same_err told)));
    }

pub returns-in-Ok-Pair : goal.returns-in-Ok-Pair
returns-in-Ok-Pair g c =
    let idle : c.args.conn.now.in_transaction ≡ false = search rules in
    let old = state g.S.Store c.args.conn.now in
    let first = c.in-Ok-Pair.first in
    let second = c.in-Ok-Pair.second in
    let stored : HasCleanDisk (state g.S.Store c.find_stored.new.conn) → IsStored old.committed (Pair first second c.in-Ok-Pair.owned) =
    λ clean. subst (IsStored old.committed) c.in-Ok-Pair.field-0-is (c.in-Ok-Pair.ensures.read clean) in
    record {
      begins = begins_well g.S.Store _ c.args.conn.now c.find_stored.new.conn _ idle c.find_stored.ensures.idle c.find_stored.ensures.survives;
      found = stored;
      stands = λ clean own.
          let is_open = c.in-Ok-Pair.ensures.open clean in
          record {
            is_open = is_open;
            holds = subst (λ d. IsPair d (record { first = first; second = second })) (sym (c.find_stored.ensures.same clean is_open).1) (stored clean own);
          };
      owned = λ clean.
          (subst (IsOwned old.committed) c.in-Ok-Pair.field-0-is (c.in-Ok-Pair.ensures.owned clean)).0;
      current = λ clean. subst (λ (stored : Stored). IsNumbered g.S.Store (number_of stored) old.committed) c.in-Ok-Pair.field-0-is (c.in-Ok-Pair.ensures.numbered clean);
      lanes = λ clean. subst (AreRead g.S.Store old.committed) c.in-Ok-Pair.field-0-is (c.in-Ok-Pair.ensures.has clean);
      numbered = λ clean told. absurd (no_fault _ _ told);
      old_form = λ clean told. absurd (no_fault _ _ told);
      not_old = λ clean told. absurd (no_fault _ _ told);
      is_new = λ clean.
          (subst (IsOwned old.committed) c.in-Ok-Pair.field-0-is (c.in-Ok-Pair.ensures.owned clean)).1;
      wrong = λ clean told. absurd (no_fault _ _ told);
    }

pub returns-in-Ok-One : goal.returns-in-Ok-One
returns-in-Ok-One g c =
    let idle : c.args.conn.now.in_transaction ≡ false = search rules in
    let old = state g.S.Store c.args.conn.now in
    let stored : HasCleanDisk (state g.S.Store c.find_stored.new.conn) → IsStored old.committed (One c.in-Ok-One._lanes c.in-Ok-One._owned) =
    λ clean. subst (IsStored old.committed) c.in-Ok-One.field-0-is (c.in-Ok-One.ensures.read clean) in
    record {
      begins = begins_refused g.S.Store _ c.args.conn.now c.find_stored.new.conn OldForm idle c.find_stored.ensures.idle
          (λ clean opened. (c.find_stored.ensures.same clean opened).1) c.find_stored.ensures.survives;
      found = λ clean. tt;
      stands = λ clean. tt;
      owned = λ clean. tt;
      current = λ clean. tt;
      lanes = λ clean. tt;
      numbered = λ clean told.
          subst (λ (found : Stored). IsNumbered g.S.Store (number_of found) old.committed) c.in-Ok-One.field-0-is (c.in-Ok-One.ensures.numbered clean);
      old_form = λ clean told f q l has. (c.in-Ok-One._lanes, (stored clean).stands f q l has);
      not_old = λ clean told sides pair. (stored clean).no_pair sides pair;
      is_new = λ clean. tt;
      wrong = λ clean told. absurd (let no = told in cc);
    }
