use Rattle.std.proofs.Common.{rules, ◌≡◌, not, IsTrue, arith, sym, ap, subst, ◌∙◌}
use Rattle.sqlite.specs.State.{HasCleanDisk}
use Rattle.sqlite.specs.Held.{state}
use Rattle.sqlite.specs.Effect.{Database, IsDatabase}
use Rattle.dnp_store.specs.BookTables.{IsBook}
use Rattle.dnp_store.specs.Refusals.{IsNumbered}
use Rattle.dnp_store.specs.Showing.{HasEntries}
use Rattle.dnp_store.specs.declared.store_kind.StoreKind.TheVariants.{Book}
use Rattle.dnp_store.specs.steps.BookShown.{FindsBook}
use Rattle.dnp_store.proofs.Alone.{its_own}
use Rattle.dnp_store.proofs.Unread.{at_err, if_err}
use Rattle.dnp_store.proofs.Ending.{survives_undone, kept_undone}
use Rattle.dnp_store.proofs.Outcomes.{at_ok, at_ok_on, if_both, on_each}
use Rattle.dnp_store.proofs.Stepping.{if_ok}
use Rattle.dnp_store.proofs.book_opening.read_book.Goals as goal

-- the connection that was rolled back is handed back
rolled : (g : _) (c : goal.After-owned_by g) → c.rollback.new.self.0 ≡ c.conn-1.given.0
rolled g c = search rules

pub returns-clause-read : goal.returns-clause-read
returns-clause-read g c clean =
    let old = state g.S.Store c.args.conn.now in
    let begun = state g.S.Store c.transaction-tx.result.conn.now in
    let mid = state g.S.Store c.read_all-found.new.tx.conn.now in
    let end = state g.S.Store c.rollback.new.self.0 in
    let same = rolled g c in
    let late : HasCleanDisk end = subst (λ h. HasCleanDisk (state g.S.Store h)) (sym same) clean in
    let early : HasCleanDisk mid = omega (arith, late, c.rollback.ensures.survives.clean) in
    let now_is : begun.now ≡ old.now = ap (λ h. (state g.S.Store h).now) c.transaction-tx.ensures.begun in
    let open_is : begun.is_open ≡ old.is_open = ap (λ h. (state g.S.Store h).is_open) c.transaction-tx.ensures.begun in
    let idle : IsTrue c.is_autocommit.result = c.is_autocommit.ensures.value ∙ ap not c.requires.idle in
    if_both _ _ _ c.owned_by.result (λ owned is parts all.
    let is_open : IsTrue old.is_open = subst IsTrue open_is (at_ok_on _ c.read_all-found.result owned.0 is (c.read_all-found.ensures.open early)) in
    let settled : old.now ≡ old.committed = c.is_autocommit.ensures.settled idle is_open in
    let sound : IsDatabase begun.now = subst IsDatabase (sym now_is) (c.is_of_three-ours.ensures.live is_open).0 in
    let schema = ap (λ (d : Database). d.schema) now_is ∙ c.is_of_three-ours.ensures.schema (parts.0 all).0 in
    subst (λ (d : Database). FindsBook d c.read_all-found.new.entries.items owned.0.last_id) (now_is ∙ settled)
    (at_ok _ c.read_all-found.result owned.0 is (c.read_all-found.ensures.read early) (parts.0 all).1 _ _ _ (c.is_of_three-ours.ensures.behind (parts.0 all).0) sound schema))
    c.owned_by.ensures.found c.owned_by.ensures.owned

pub returns-clause-alone : goal.returns-clause-alone
returns-clause-alone g c clean =
    let old = state g.S.Store c.args.conn.now in
    let begun = state g.S.Store c.transaction-tx.result.conn.now in
    let mid = state g.S.Store c.read_all-found.new.tx.conn.now in
    let end = state g.S.Store c.rollback.new.self.0 in
    let same = rolled g c in
    let late : HasCleanDisk end = subst (λ h. HasCleanDisk (state g.S.Store h)) (sym same) clean in
    let early : HasCleanDisk mid = omega (arith, late, c.rollback.ensures.survives.clean) in
    let now_is : begun.now ≡ old.now = ap (λ h. (state g.S.Store h).now) c.transaction-tx.ensures.begun in
    let open_is : begun.is_open ≡ old.is_open = ap (λ h. (state g.S.Store h).is_open) c.transaction-tx.ensures.begun in
    let idle : IsTrue c.is_autocommit.result = c.is_autocommit.ensures.value ∙ ap not c.requires.idle in
    if_both _ _ _ c.owned_by.result (λ owned is parts book sound holds.
    let is_open : IsTrue old.is_open = subst IsTrue open_is (at_ok_on _ c.read_all-found.result owned.0 is (c.read_all-found.ensures.open early)) in
    let settled : old.now ≡ old.committed = c.is_autocommit.ensures.settled idle is_open in
    let sure : IsDatabase begun.now = subst IsDatabase (sym now_is) (c.is_of_three-ours.ensures.live is_open).0 in
    let here : IsBook old.now book = subst (λ (d : Database). IsBook d book) (sym settled) holds in
    let begins : IsBook begun.now book = subst (λ (d : Database). IsBook d book) (sym now_is) here in
    let counted = at_ok _ c.read_all-found.result owned.0 is (c.read_all-found.ensures.alone early) book sound sure begins in
    let own = its_own old.now.schema Book here.form_checks here.control_checks here.more here.schema here.behind in
    parts.1 (c.is_of_three-ours.ensures.found own.0 own.1, counted))
    c.owned_by.ensures.found c.owned_by.ensures.owned

pub returns-clause-denies : goal.returns-clause-denies
returns-clause-denies g c clean =
    let old = state g.S.Store c.args.conn.now in
    let begun = state g.S.Store c.transaction-tx.result.conn.now in
    let mid = state g.S.Store c.read_all-found.new.tx.conn.now in
    let end = state g.S.Store c.rollback.new.self.0 in
    let same = rolled g c in
    let late : HasCleanDisk end = subst (λ h. HasCleanDisk (state g.S.Store h)) (sym same) clean in
    let early : HasCleanDisk mid = omega (arith, late, c.rollback.ensures.survives.clean) in
    let now_is : begun.now ≡ old.now = ap (λ h. (state g.S.Store h).now) c.transaction-tx.ensures.begun in
    let open_is : begun.is_open ≡ old.is_open = ap (λ h. (state g.S.Store h).is_open) c.transaction-tx.ensures.begun in
    let idle : IsTrue c.is_autocommit.result = c.is_autocommit.ensures.value ∙ ap not c.requires.idle in
    if_err _ _ c.owned_by.result (λ unread is told book storable holds.
    let no = at_err _ c.read_all-found.result unread is (c.read_all-found.ensures.denies early) told in
    let is_open : IsTrue old.is_open = subst IsTrue open_is no.0 in
    let settled : old.now ≡ old.committed = c.is_autocommit.ensures.settled idle is_open in
    let sure : IsDatabase begun.now = subst IsDatabase (sym now_is) (c.is_of_three-ours.ensures.live is_open).0 in
    no.1 book storable sure (subst (λ (d : Database). IsBook d book) (sym (now_is ∙ settled)) holds)) c.owned_by.ensures.refused

pub returns-clause-range : goal.returns-clause-range
returns-clause-range g c =
    if_ok _ _ c.owned_by.result (λ owned is. at_ok _ c.read_all-found.result owned.0 is c.read_all-found.ensures.range) c.owned_by.ensures.found

pub returns-clause-sound : goal.returns-clause-sound
returns-clause-sound g c =
    if_ok _ _ c.owned_by.result (λ owned is. at_ok _ c.read_all-found.result owned.0 is c.read_all-found.ensures.sound) c.owned_by.ensures.found

pub returns-clause-survives : goal.returns-clause-survives
returns-clause-survives g c =
    survives_undone g.S.Store c.args.conn.now c.transaction-tx.result.conn.now c.read_all-found.new.tx.conn.now c.rollback.new.self.0 _
    c.transaction-tx.ensures.begun (rolled g c) _ c.read_all-found.ensures.step.survives c.rollback.ensures.survives

pub returns-clause-same : goal.returns-clause-same
returns-clause-same g c =
    kept_undone g.S.Store c.args.conn.now c.transaction-tx.result.conn.now c.read_all-found.new.tx.conn.now c.rollback.new.self.0 _
    c.transaction-tx.ensures.begun (rolled g c) _ c.read_all-found.ensures.step.kept c.rollback.ensures.undone c.rollback.ensures.survives

pub returns-clause-fit : goal.returns-clause-fit
returns-clause-fit g c =
    if_ok _ _ c.owned_by.result (λ owned is. at_ok _ c.read_all-found.result owned.0 is c.read_all-found.ensures.fit) c.owned_by.ensures.found

pub returns-clause-numbered : goal.returns-clause-numbered
returns-clause-numbered g c clean =
    let old = state g.S.Store c.args.conn.now in
    let begun = state g.S.Store c.transaction-tx.result.conn.now in
    let mid = state g.S.Store c.read_all-found.new.tx.conn.now in
    let end = state g.S.Store c.rollback.new.self.0 in
    let same = rolled g c in
    let late : HasCleanDisk end = subst (λ h. HasCleanDisk (state g.S.Store h)) (sym same) clean in
    let early : HasCleanDisk mid = omega (arith, late, c.rollback.ensures.survives.clean) in
    let now_is : begun.now ≡ old.now = ap (λ h. (state g.S.Store h).now) c.transaction-tx.ensures.begun in
    let open_is : begun.is_open ≡ old.is_open = ap (λ h. (state g.S.Store h).is_open) c.transaction-tx.ensures.begun in
    let idle : IsTrue c.is_autocommit.result = c.is_autocommit.ensures.value ∙ ap not c.requires.idle in
    on_each _ _ c.owned_by.result (λ owned is.
    let is_open : IsTrue old.is_open = subst IsTrue open_is (at_ok_on _ c.read_all-found.result owned.0 is (c.read_all-found.ensures.open early)) in
    let settled : old.now ≡ old.committed = c.is_autocommit.ensures.settled idle is_open in
    subst (IsNumbered g.S.Store 1) (now_is ∙ settled) (at_ok_on _ c.read_all-found.result owned.0 is (c.read_all-found.ensures.numbered early))) c.owned_by.ensures.found

pub returns-clause-entries : goal.returns-clause-entries
returns-clause-entries g c clean =
    let old = state g.S.Store c.args.conn.now in
    let begun = state g.S.Store c.transaction-tx.result.conn.now in
    let mid = state g.S.Store c.read_all-found.new.tx.conn.now in
    let end = state g.S.Store c.rollback.new.self.0 in
    let same = rolled g c in
    let late : HasCleanDisk end = subst (λ h. HasCleanDisk (state g.S.Store h)) (sym same) clean in
    let early : HasCleanDisk mid = omega (arith, late, c.rollback.ensures.survives.clean) in
    let now_is : begun.now ≡ old.now = ap (λ h. (state g.S.Store h).now) c.transaction-tx.ensures.begun in
    let open_is : begun.is_open ≡ old.is_open = ap (λ h. (state g.S.Store h).is_open) c.transaction-tx.ensures.begun in
    let idle : IsTrue c.is_autocommit.result = c.is_autocommit.ensures.value ∙ ap not c.requires.idle in
    on_each _ _ c.owned_by.result (λ owned is.
    let is_open : IsTrue old.is_open = subst IsTrue open_is (at_ok_on _ c.read_all-found.result owned.0 is (c.read_all-found.ensures.open early)) in
    let settled : old.now ≡ old.committed = c.is_autocommit.ensures.settled idle is_open in
    subst (HasEntries g.S.Store c.read_all-found.new.entries.items) (now_is ∙ settled)
    (at_ok_on _ c.read_all-found.result owned.0 is (c.read_all-found.ensures.entries early))) c.owned_by.ensures.found
