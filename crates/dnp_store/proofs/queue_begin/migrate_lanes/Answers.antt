use Rattle.std.proofs.Common.{rules, ◌≡◌, IsTrue, false, Err, inl, inr, refl, arith, ap, sym, subst, ◌∙◌}
use Rattle.sqlite.specs.Held.{state}
use Rattle.sqlite.specs.State.{HasCleanDisk}
use Rattle.sqlite.specs.Effect.{Database}
use Rattle.dnp_eventbuf.specs.Sound.{IsSoundBuffer}
use Rattle.dnp_eventbuf.specs.EventBuffer.{EventBuffer, empty_buffer}
use Rattle.dnp_store.specs.declared.open.OpenFault.TheVariants.{Memory}
use Rattle.dnp_store.specs.declared.queue_opening.Stored.{Stored}
use Rattle.dnp_store.specs.declared.queue_opening.Stored.TheVariants.{One, Pair}
use Rattle.dnp_store.specs.Refusals.{IsNumbered}
use Rattle.dnp_store.specs.Added.{MakeAll, making_second}
use Rattle.dnp_store.specs.QueueKept.{QueueStands}
use Rattle.dnp_store.specs.PairTables.{IsPair}
use Rattle.dnp_store.specs.QueueTables.{IsQueue}
use Rattle.dnp_store.specs.steps.Seconds.{Opens}
use Rattle.dnp_store.specs.steps.Stored.{AreRead, IsOwned, IsStored, number_of}
use Rattle.dnp_store.proofs.Beginning.{begins_before, begins_inside, begins_refused, begins_well, no_fault}
use Rattle.dnp_store.proofs.Refusing.{same_err}
use Rattle.dnp_store.proofs.Once.{one_pair}
use Rattle.dnp_store.proofs.Seconding.{not_named}
use Rattle.dnp_store.proofs.PairOpening.{begins_with, moved, no_number, survives_made, survives_unmade}
use Rattle.dnp_store.proofs.Statements.{survives_as}
use Rattle.dnp_store.proofs.Standing.{survives_itself}
use Rattle.dnp_store.proofs.queue_begin.migrate_lanes.Goals as goal

pub returns-then-not-is_autocommit : goal.returns-then-not-is_autocommit
returns-then-not-is_autocommit g c =
    let inside : IsTrue c.args.conn.now.in_transaction = search rules in
    record {
      begins = begins_inside g.S.Store _ c.args.conn.now inside;
      unwritten = λ sides is. survives_itself (state g.S.Store c.args.conn.now);
      added = λ clean. tt;
      current = λ old. absurd (let no = old in cc);
      stands = λ clean. tt;
      made = λ clean. tt;
      same = λ clean. tt;
      owned = λ clean. tt;
      owned_old = λ clean. tt;
      lanes = λ clean. tt;
      wrong = λ clean told. inl inside;
    }

pub returns-in_default : goal.returns-in_default
returns-in_default g c =
    let idle : c.args.conn.now.in_transaction ≡ false = search rules in
    record {
      begins = begins_before g.S.Store _ c.args.conn.now Memory idle;
      unwritten = λ sides is. survives_itself (state g.S.Store c.args.conn.now);
      added = λ clean. tt;
      current = λ old. absurd (let no = old in cc);
      stands = λ clean. tt;
      made = λ clean. tt;
      same = λ clean. tt;
      owned = λ clean. tt;
      owned_old = λ clean. tt;
      lanes = λ clean. tt;
      wrong = λ clean told. absurd (let no = told in cc);
    }

pub returns-in-Err : goal.returns-in-Err
returns-in-Err g c =
    let idle : c.args.conn.now.in_transaction ≡ false = search rules in
    record {
      begins = begins_refused g.S.Store _ c.args.conn.now c.find_stored.new.conn _ idle c.find_stored.ensures.idle
          (λ clean opened. (c.find_stored.ensures.same clean opened).1) (survives_as _ _ _ _ (λ db none. absurd none) c.find_stored.ensures.survives);
      unwritten = λ sides is. c.find_stored.ensures.survives;
      added = λ clean. tt;
      current = c.in-Err.ensures.current;
      stands = λ clean. tt;
      made = λ clean. tt;
      same = λ clean. tt;
      owned = λ clean. tt;
      owned_old = λ clean. tt;
      lanes = λ clean. tt;
      wrong = λ clean told. inr (c.find_stored.ensures.wrong_form clean (c.in-Err.is ∙ ap Err (same_err told)));
    }

pub returns-in-Ok-Pair : goal.returns-in-Ok-Pair
returns-in-Ok-Pair g c =
    let idle : c.args.conn.now.in_transaction ≡ false = search rules in
    let old = state g.S.Store c.args.conn.now in
    let first = c.in-Ok-Pair.first in
    let second = c.in-Ok-Pair.others in
    let ours : IsSoundBuffer first = search rules in
    let theirs : IsSoundBuffer second = search rules in
    let stored : HasCleanDisk (state g.S.Store c.find_stored.new.conn) → IsStored old.committed (Pair first second c.in-Ok-Pair.owned) =
    λ clean. subst (IsStored old.committed) c.in-Ok-Pair.field-0-is (c.in-Ok-Pair.ensures.read clean) in
    record {
      begins = begins_well g.S.Store _ c.args.conn.now c.find_stored.new.conn _ idle c.find_stored.ensures.idle
          (survives_as _ _ _ _ (λ db none. absurd none) c.find_stored.ensures.survives);
      unwritten = λ sides is. c.find_stored.ensures.survives;
      added = λ clean. inl (c.find_stored.ensures.same clean (c.in-Ok-Pair.ensures.open clean)).1;
      current = tt;
      stands = λ clean own.
          let is_open = c.in-Ok-Pair.ensures.open clean in
          record {
            is_open = is_open;
            holds = subst (λ d. IsPair d (record { first = first; second = second })) (sym (c.find_stored.ensures.same clean is_open).1) (stored clean own);
          };
      made = λ clean own buffer sound is. absurd (no_number (old.committed.trees 0) 1 refl is.holds.form (stored clean own).holds.form);
      same = λ clean own sides sound is.
          one_pair old.committed.trees (record { first = first; second = second }) sides (ours, theirs) sound (stored clean own).holds is.holds;
      owned = λ clean.
          (subst (IsOwned old.committed) c.in-Ok-Pair.field-0-is (c.in-Ok-Pair.ensures.owned clean)).0;
      owned_old = λ clean buffer is.
          absurd ((subst (IsOwned old.committed) c.in-Ok-Pair.field-0-is (c.in-Ok-Pair.ensures.owned clean)).1 buffer is);
      lanes = λ clean. inl (subst (AreRead g.S.Store old.committed) c.in-Ok-Pair.field-0-is (c.in-Ok-Pair.ensures.has clean));
      wrong = λ clean told. absurd (no_fault _ _ told);
    }

pub returns-in-Err-second_made : goal.returns-in-Err-second_made
returns-in-Err-second_made g c =
    let idle : c.args.conn.now.in_transaction ≡ false = search rules in
    let old = state g.S.Store c.args.conn.now in
    let mid = state g.S.Store c.find_stored.new.conn in
    let new = state g.S.Store c.second_made.new.conn in
    let early : HasCleanDisk new → HasCleanDisk mid = λ clean. omega (arith, clean, c.second_made.ensures.survives.clean) in
    record {
      begins = begins_refused g.S.Store _ c.args.conn.now c.second_made.new.conn _ idle c.second_made.ensures.idle
          (λ clean opened.
          let back = c.in-Err-second_made.ensures.err clean opened in
          back.1 ∙ (c.find_stored.ensures.same (early clean) back.0).1)
          (survives_made g.S.Store old mid new c.args.capacities.now (λ clean is_open. (c.find_stored.ensures.same clean is_open).1) c.in-Ok-One.ensures.open
          c.second_made.ensures.settled c.find_stored.ensures.survives c.second_made.ensures.survives);
      unwritten = λ sides is.
          survives_unmade g.S.Store old mid new c.args.capacities.now (λ clean is_open. (c.find_stored.ensures.same clean is_open).1) c.in-Ok-One.ensures.open
          c.second_made.ensures.settled c.find_stored.ensures.survives c.second_made.ensures.survives
          (λ clean. (subst (IsStored old.committed) c.in-Ok-One.field-0-is (c.in-Ok-One.ensures.read clean)).no_pair sides is);
      added = λ clean. tt;
      current = c.in-Err-second_made.ensures.current;
      stands = λ clean. tt;
      made = λ clean. tt;
      same = λ clean. tt;
      owned = λ clean. tt;
      owned_old = λ clean. tt;
      lanes = λ clean. tt;
      wrong = λ clean told. inr (λ holds. elim holds [
        | inl two ↦ (subst (IsStored old.committed) c.in-Ok-One.field-0-is (c.in-Ok-One.ensures.read (early clean))).no_pair two.sides two.is
        | inr one ↦
            let is_open = c.in-Ok-One.ensures.open (early clean) in
            let same : mid.now ≡ old.committed = c.second_made.ensures.settled is_open ∙ (c.find_stored.ensures.same (early clean) is_open).1 in
            not_named mid.now.schema one.is.form_checks one.is.queue_checks one.is.lanes_checks (ap (λ (d : Database). d.schema) same ∙ one.is.schema)
            (c.second_made.ensures.wrong_form (c.in-Err-second_made.is ∙ ap Err (same_err told)))
      ]);
    }

pub returns-in-Ok-second_made : goal.returns-in-Ok-second_made
returns-in-Ok-second_made g c =
    let idle : c.args.conn.now.in_transaction ≡ false = search rules in
    let old = state g.S.Store c.args.conn.now in
    let mid = state g.S.Store c.find_stored.new.conn in
    let new = state g.S.Store c.second_made.new.conn in
    let first = c.in-Ok-One.first in
    let ours : IsSoundBuffer first = search rules in
    let bare : c.in-Ok.second ≡ empty_buffer c.args.capacities.now = search rules in
    let early : HasCleanDisk new → HasCleanDisk mid = λ clean. omega (arith, clean, c.second_made.ensures.survives.clean) in
    let stored : HasCleanDisk mid → IsStored old.committed (One first c.in-Ok-One.owned) =
    λ clean. subst (IsStored old.committed) c.in-Ok-One.field-0-is (c.in-Ok-One.ensures.read clean) in
    record {
      begins = begins_well g.S.Store _ c.args.conn.now c.second_made.new.conn _ idle c.second_made.ensures.idle
          (survives_made g.S.Store old mid new c.args.capacities.now (λ clean is_open. (c.find_stored.ensures.same clean is_open).1) c.in-Ok-One.ensures.open
          c.second_made.ensures.settled c.find_stored.ensures.survives c.second_made.ensures.survives);
      unwritten = λ sides is.
          survives_unmade g.S.Store old mid new c.args.capacities.now (λ clean is_open. (c.find_stored.ensures.same clean is_open).1) c.in-Ok-One.ensures.open
          c.second_made.ensures.settled c.find_stored.ensures.survives c.second_made.ensures.survives (λ clean. (stored clean).no_pair sides is);
      added = λ clean. inr (subst (λ d. MakeAll g.S.Store (making_second c.args.capacities.now) d new.committed)
          (begins_with g.S.Store old mid new c.args.capacities.now (λ clean is_open. (c.find_stored.ensures.same clean is_open).1) c.in-Ok-One.ensures.open
          c.second_made.ensures.settled c.find_stored.ensures.survives c.second_made.ensures.survives clean)
          (c.in-Ok-second_made.ensures.added clean));
      current = tt;
      stands = λ clean own.
          let is_open = c.in-Ok-One.ensures.open (early clean) in
          let opens : Opens mid first = record {
            is_open = is_open;
            holds = subst (λ d. IsQueue d first) (sym (c.find_stored.ensures.same (early clean) is_open).1) ((stored (early clean)).held own);
          } in
          subst (λ (s : EventBuffer). QueueStands new (record { first = first; second = s })) (sym bare) (c.in-Ok-second_made.ensures.ok clean first opens);
      made = λ clean own buffer sound is.
          ap (λ (s : EventBuffer). record { first = first; second = s }) bare
          ∙ moved old.committed first c.args.capacities.now ours ((stored (early clean)).held own) buffer sound is;
      same = λ clean own sides sound is. absurd ((stored (early clean)).no_pair sides is);
      owned = λ clean sides is. absurd ((stored (early clean)).no_pair sides is);
      owned_old = λ clean. subst (IsOwned old.committed) c.in-Ok-One.field-0-is (c.in-Ok-One.ensures.owned (early clean));
      lanes = λ clean. inr (record {
        number = subst (λ (found : Stored). IsNumbered g.S.Store (number_of found) old.committed) c.in-Ok-One.field-0-is (c.in-Ok-One.ensures.numbered (early clean));
        first = subst (AreRead g.S.Store old.committed) c.in-Ok-One.field-0-is (c.in-Ok-One.ensures.has (early clean));
        second = bare;
      });
      wrong = λ clean told. absurd (no_fault _ _ told);
    }
