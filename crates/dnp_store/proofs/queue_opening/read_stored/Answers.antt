use Rattle.std.proofs.Common.{rules, ◌≡◌, ◌⊎◌, ◌&&◌, Bool, true, not, IsTrue, List, arith, refl, sym, ap, subst, subst₂, ◌∙◌}
use Rattle.sqlite.specs.State.{HasCleanDisk}
use Rattle.sqlite.specs.Held.{state}
use Rattle.sqlite.specs.Effect.{Database, IsDatabase}
use Rattle.dnp_store.specs.QueueOpens.{HoldsOne, HoldsTwo}
use Rattle.dnp_store.specs.steps.Stored.{AreCounted, AreRead, IsOwned, IsShown, IsStored, number_of}
use Rattle.dnp_store.specs.Refusals.{IsNumbered}
use Rattle.dnp_store.proofs.PairOpening.{numbered_by, owned_is, read_by, stored_is}
use Rattle.dnp_store.proofs.Ending.{survives_undone, kept_undone}
use Rattle.dnp_store.proofs.Unread.{err_on}
use Rattle.dnp_store.proofs.queue_opening.read_stored.Goals as goal

-- the connection that was rolled back is handed back
rolled : (g : _) (c : goal.After-owned_by g) → c.rollback.new.self.0 ≡ c.conn-2-1.given.0
rolled g c = search rules

-- the connection that was undone is handed back
undone : (g : _) (c : goal.After-conn-1 g) → c.drop-tx.new.self.0 ≡ c.conn-1.given.0
undone g c = search rules

pub returns-clause-read : goal.returns-clause-read
returns-clause-read g c clean =
    let old = state g.S.Store c.args.conn.now in
    let begun = state g.S.Store c.transaction-tx.result.conn.now in
    let mid = state g.S.Store c.read_numbered.new.tx.conn.now in
    let end = state g.S.Store c.rollback.new.self.0 in
    let same = rolled g c in
    let late : HasCleanDisk end = subst (λ h. HasCleanDisk (state g.S.Store h)) (sym same) clean in
    let early : HasCleanDisk mid = omega (arith, late, c.rollback.ensures.survives.clean) in
    let now_is : begun.now ≡ old.now = ap (λ h. (state g.S.Store h).now) c.transaction-tx.ensures.begun in
    let open_is : begun.is_open ≡ old.is_open = ap (λ h. (state g.S.Store h).is_open) c.transaction-tx.ensures.begun in
    let is_open : IsTrue old.is_open = subst IsTrue open_is (c.in_ok-stored.ensures.open early) in
    let idle : IsTrue c.is_autocommit.result = c.is_autocommit.ensures.value ∙ ap not c.requires.idle in
    let settled : old.now ≡ old.committed = c.is_autocommit.ensures.settled idle is_open in
    let sound : IsDatabase old.now = (c.is_of_queue-one.ensures.live is_open).0 in
    let shown : IsShown old.now c.in_ok-stored.stored = subst (λ (d : Database). IsShown d c.in_ok-stored.stored) now_is (c.in_ok-stored.ensures.read early) in
    let stored : IsStored old.now _ = stored_is old.now c.in_ok-stored.stored c.is_of_queue-one.result c.is_of_pair-pair.result _ sound
    c.is_of_queue-one.ensures.schema (λ is. (c.is_of_pair-pair.ensures.schema is, c.is_of_pair-pair.ensures.behind is)) shown in
    subst (λ (d : Database). IsStored d c.owned_by.result) settled (subst (IsStored old.now) (sym c.owned_by.ensures) stored)

pub returns-clause-owned : goal.returns-clause-owned
returns-clause-owned g c clean =
    let old = state g.S.Store c.args.conn.now in
    let begun = state g.S.Store c.transaction-tx.result.conn.now in
    let mid = state g.S.Store c.read_numbered.new.tx.conn.now in
    let end = state g.S.Store c.rollback.new.self.0 in
    let same = rolled g c in
    let late : HasCleanDisk end = subst (λ h. HasCleanDisk (state g.S.Store h)) (sym same) clean in
    let early : HasCleanDisk mid = omega (arith, late, c.rollback.ensures.survives.clean) in
    let now_is : begun.now ≡ old.now = ap (λ h. (state g.S.Store h).now) c.transaction-tx.ensures.begun in
    let open_is : begun.is_open ≡ old.is_open = ap (λ h. (state g.S.Store h).is_open) c.transaction-tx.ensures.begun in
    let is_open : IsTrue old.is_open = subst IsTrue open_is (c.in_ok-stored.ensures.open early) in
    let idle : IsTrue c.is_autocommit.result = c.is_autocommit.ensures.value ∙ ap not c.requires.idle in
    let settled : old.now ≡ old.committed = c.is_autocommit.ensures.settled idle is_open in
    let sound : IsDatabase old.now = (c.is_of_queue-one.ensures.live is_open).0 in
    let are : AreCounted old.now c.in_ok-stored.stored =
    subst (λ (d : Database). AreCounted d c.in_ok-stored.stored) now_is (c.in_ok-stored.ensures.counted early) in
    let own : IsOwned old.now _ = owned_is old.now c.in_ok-stored.stored c.is_of_queue-one.result c.is_of_pair-pair.result sound
    c.is_of_queue-one.ensures.found (λ own. c.is_of_pair-pair.ensures.found own.0 own.1) are in
    subst (λ (d : Database). IsOwned d c.owned_by.result) settled (subst (IsOwned old.now) (sym c.owned_by.ensures) own)

pub returns-clause-numbered : goal.returns-clause-numbered
returns-clause-numbered g c clean =
    let old = state g.S.Store c.args.conn.now in
    let begun = state g.S.Store c.transaction-tx.result.conn.now in
    let mid = state g.S.Store c.read_numbered.new.tx.conn.now in
    let end = state g.S.Store c.rollback.new.self.0 in
    let same = rolled g c in
    let late : HasCleanDisk end = subst (λ h. HasCleanDisk (state g.S.Store h)) (sym same) clean in
    let early : HasCleanDisk mid = omega (arith, late, c.rollback.ensures.survives.clean) in
    let now_is : begun.now ≡ old.now = ap (λ h. (state g.S.Store h).now) c.transaction-tx.ensures.begun in
    let open_is : begun.is_open ≡ old.is_open = ap (λ h. (state g.S.Store h).is_open) c.transaction-tx.ensures.begun in
    let is_open : IsTrue old.is_open = subst IsTrue open_is (c.in_ok-stored.ensures.open early) in
    let idle : IsTrue c.is_autocommit.result = c.is_autocommit.ensures.value ∙ ap not c.requires.idle in
    let settled : old.now ≡ old.committed = c.is_autocommit.ensures.settled idle is_open in
    let number : number_of c.owned_by.result ≡ number_of c.in_ok-stored.stored =
    ap number_of c.owned_by.ensures ∙ numbered_by c.in_ok-stored.stored c.is_of_queue-one.result c.is_of_pair-pair.result in
    subst₂ (IsNumbered g.S.Store) (sym number) settled
    (subst (λ (d : Database). IsNumbered g.S.Store (number_of c.in_ok-stored.stored) d) now_is (c.in_ok-stored.ensures.numbered early))

pub returns-in_err-stored-clause-survives : goal.returns-in_err-stored-clause-survives
returns-in_err-stored-clause-survives g c =
    let same = undone g c in
    survives_undone g.S.Store c.args.conn.now c.transaction-tx.result.conn.now c.read_numbered.new.tx.conn.now c.drop-tx.new.self.0 _
    c.transaction-tx.ensures.begun same _
    c.read_numbered.ensures.step.survives c.drop-tx.ensures.survives

pub returns-in_err-stored-clause-same : goal.returns-in_err-stored-clause-same
returns-in_err-stored-clause-same g c =
    let same = undone g c in
    kept_undone g.S.Store c.args.conn.now c.transaction-tx.result.conn.now c.read_numbered.new.tx.conn.now c.drop-tx.new.self.0 _
    c.transaction-tx.ensures.begun same _
    c.read_numbered.ensures.step.kept c.drop-tx.ensures.undone c.drop-tx.ensures.survives

pub returns-clause-survives : goal.returns-clause-survives
returns-clause-survives g c =
    let same = rolled g c in
    survives_undone g.S.Store c.args.conn.now c.transaction-tx.result.conn.now c.read_numbered.new.tx.conn.now c.rollback.new.self.0 _
    c.transaction-tx.ensures.begun same _
    c.read_numbered.ensures.step.survives c.rollback.ensures.survives

pub returns-clause-same : goal.returns-clause-same
returns-clause-same g c =
    let same = rolled g c in
    kept_undone g.S.Store c.args.conn.now c.transaction-tx.result.conn.now c.read_numbered.new.tx.conn.now c.rollback.new.self.0 _
    c.transaction-tx.ensures.begun same _
    c.read_numbered.ensures.step.kept c.rollback.ensures.undone c.rollback.ensures.survives

pub returns-in_err-stored-clause-denies : goal.returns-in_err-stored-clause-denies
returns-in_err-stored-clause-denies g c clean =
    let old = state g.S.Store c.args.conn.now in
    let begun = state g.S.Store c.transaction-tx.result.conn.now in
    let mid = state g.S.Store c.read_numbered.new.tx.conn.now in
    let end = state g.S.Store c.drop-tx.new.self.0 in
    let same = undone g c in
    let late : HasCleanDisk end = subst (λ h. HasCleanDisk (state g.S.Store h)) (sym same) clean in
    let early : HasCleanDisk mid = omega (arith, late, c.drop-tx.ensures.survives.clean) in
    let now_is : begun.now ≡ old.now = ap (λ h. (state g.S.Store h).now) c.transaction-tx.ensures.begun in
    let open_is : begun.is_open ≡ old.is_open = ap (λ h. (state g.S.Store h).is_open) c.transaction-tx.ensures.begun in
    let idle : IsTrue c.is_autocommit.result = c.is_autocommit.ensures.value ∙ ap not c.requires.idle in
    err_on _ c.from_residual.result _ c.from_residual.ensures (λ told holds.
    let no = c.in_err-stored.ensures.denies early told in
    let is_open : IsTrue old.is_open = subst IsTrue open_is no.0 in
    let settled : old.now ≡ old.committed = c.is_autocommit.ensures.settled idle is_open in
    let sound : IsDatabase begun.now = subst IsDatabase (sym now_is) (c.is_of_queue-one.ensures.live is_open).0 in
    no.1 sound (subst (λ (d : Database). HoldsTwo d ⊎ HoldsOne d) (sym (now_is ∙ settled)) holds))

pub returns-clause-has : goal.returns-clause-has
returns-clause-has g c clean =
    let old = state g.S.Store c.args.conn.now in
    let begun = state g.S.Store c.transaction-tx.result.conn.now in
    let mid = state g.S.Store c.read_numbered.new.tx.conn.now in
    let end = state g.S.Store c.rollback.new.self.0 in
    let same = rolled g c in
    let late : HasCleanDisk end = subst (λ h. HasCleanDisk (state g.S.Store h)) (sym same) clean in
    let early : HasCleanDisk mid = omega (arith, late, c.rollback.ensures.survives.clean) in
    let now_is : begun.now ≡ old.now = ap (λ h. (state g.S.Store h).now) c.transaction-tx.ensures.begun in
    let open_is : begun.is_open ≡ old.is_open = ap (λ h. (state g.S.Store h).is_open) c.transaction-tx.ensures.begun in
    let is_open : IsTrue old.is_open = subst IsTrue open_is (c.in_ok-stored.ensures.open early) in
    let idle : IsTrue c.is_autocommit.result = c.is_autocommit.ensures.value ∙ ap not c.requires.idle in
    let settled : old.now ≡ old.committed = c.is_autocommit.ensures.settled idle is_open in
    let are : AreRead g.S.Store old.now c.in_ok-stored.stored =
    subst (λ (d : Database). AreRead g.S.Store d c.in_ok-stored.stored) now_is (c.in_ok-stored.ensures.has early) in
    subst (λ (d : Database). AreRead g.S.Store d c.owned_by.result) settled
    (subst (AreRead g.S.Store old.now) (sym c.owned_by.ensures)
    (read_by g.S.Store old.now c.in_ok-stored.stored c.is_of_queue-one.result c.is_of_pair-pair.result are))
