use Rattle.std.proofs.Common.{rules, ◌≡◌, ◌⊎◌, ◌<◌, ◌≤◌, ℕ, min, false, true, inr, IsTrue, arith, ap, refl, sym, subst, ◌∙◌}
use Rattle.sqlite.specs.State.{HasCleanDisk}
use Rattle.sqlite.specs.Held.{state}
use Rattle.dnp_eventbuf.specs.Archive.{IsSoundArchive, rows_over}
use Rattle.dnp_store.specs.JournalKept.{JournalValue, IsHonestJournal, archive_of, held_archive}
use Rattle.dnp_store.proofs.JournalCalls.{call_done, call_lost, count_on, stands_on}
use Rattle.dnp_store.proofs.JournalStanding.{journal_stopped, sound_kept, same_archive, sound_still, over_none, over_few, smaller}
use Rattle.dnp_store.specs.Refusals.{LosesReading}
use Rattle.dnp_store.specs.Showing.{HasRows}
use Rattle.dnp_store.proofs.Refusing.{lost_if}
use Rattle.dnp_store.proofs.journal.JournalJournalStore.rows.Goals as goal
use Rattle.dnp_store.proofs.journal.JournalJournalStore.rows.Goals.{After-drop-rows, In_default}

pub returns-then-from-self-clause-call : goal.returns-then-from-self-clause-call
returns-then-from-self-clause-call g c =
    let sound : IsHonestJournal g.S.Store c.args.self.now → IsSoundArchive (held_archive g.S.Store c.args.self.now) =
    subst (λ (k : JournalValue _). IsHonestJournal g.S.Store k → IsSoundArchive (held_archive g.S.Store k)) c.self.view_is
    (sound_kept g.S.Store _ c.self.invariant) in
    call_done g.S.Store _ _ _ c.args.self.now c.self.view_is c.if-self.false (λ h. subst (IsHonestJournal g.S.Store) (sym c.self.view_is) h) sound _
    (sym (ap (λ (k : JournalValue _). k.stopped) c.self.view_is))

pub returns-then-from-self-clause-rows : goal.returns-then-from-self-clause-rows
returns-then-from-self-clause-rows g c =
    let from = c.args.from in
    let most = c.args.most in
    subst (λ (k : JournalValue _). IsHonestJournal g.S.Store k → c.new.result.items ≡ rows_over (held_archive g.S.Store k) from most) c.self.view_is
    (λ h. c.new.ensures.items ∙ sym (over_none (archive_of g.S.Store c.self.inside.conn c.self.inside.last_id) from most
    (sound_kept g.S.Store _ c.self.invariant h) (omega (arith, c.if-from-self.true))))

-- what was read stands as it stood
read : (g : _) (c : In_default g) → HasCleanDisk (state g.S.Store c.read_over.new.conn) → c.self.inside.stopped ≡ false → IsTrue c.self.inside.owned
    → IsTrue (state g.S.Store c.read_over.new.conn).is_open
    × ((state g.S.Store c.read_over.new.conn).committed ≡ (state g.S.Store c.self.inside.conn).committed)
read g c clean serves own =
    let a = archive_of g.S.Store c.self.inside.conn c.self.inside.last_id in
    let stood = c.self.invariant.stands serves own (c.read_over.ensures.held clean) in
    let opened = c.in_default.ensures.open clean a stood in
    (opened, c.read_over.ensures.same clean a stood opened)

pub invariant_of-self-in_default : goal.invariant_of-self-in_default
invariant_of-self-in_default g c =
    let old = c.self.inside.conn in
    let new = c.read_over.new.conn in
    let last = c.self.inside.last_id in
    record {
      idle = c.read_over.ensures.idle;
      last_in_range = c.self.invariant.last_in_range;
      count_in_range = c.self.invariant.count_in_range;
      stands = λ serves own clean.
          let did = read g c clean serves own in
          stands_on g.S.Store old new last did.1 did.0 (c.self.invariant.stands serves own (c.read_over.ensures.held clean));
      count_is = λ serves own clean.
          count_on g.S.Store old new last (read g c clean serves own).1 c.self.inside.count
          (c.self.invariant.count_is serves own (c.read_over.ensures.held clean));
    }

pub returns-clause-call : goal.returns-clause-call
returns-clause-call g c =
    call_done g.S.Store _ _ _ _ c.self.view_is c.if-self.false (λ h. (c.read_over.ensures.held h.0, h.1, h.2))
    (λ h. sound_still g.S.Store c.self.inside.conn c.read_over.new.conn c.self.inside.last_id (read g c h.0 h.1 h.2).1
    (sound_kept g.S.Store _ c.self.invariant (c.read_over.ensures.held h.0, h.1, h.2))) _ refl

pub returns-clause-rows : goal.returns-clause-rows
returns-clause-rows g c =
    let from = c.args.from in
    let most = c.args.most in
    let few = c.min-few.result in
    let old = c.self.inside.conn in
    let a = archive_of g.S.Store old c.self.inside.last_id in
    let is : few ≡ min most c.self.inside.count = search rules in
    λ h. subst (λ (k : JournalValue _). c.read_over.new.events.items ≡ rows_over (held_archive g.S.Store k) from most) c.self.view_is
    (let early : HasCleanDisk (state g.S.Store old) = c.read_over.ensures.held h.0 in
    let stands = c.self.invariant.stands h.1 h.2 early in
    c.in_default.ensures.read h.0 a stands
    ∙ over_few a from most few (subst (λ (n : ℕ). (few ≡ most) ⊎ ((few ≡ n) × (few ≤ most))) (c.self.invariant.count_is h.1 h.2 early)
    (smaller most c.self.inside.count few is)))

-- where it was not read, and the journal is not lost, the last commit stays
first : (g : _) (c : After-drop-rows g) → HasCleanDisk (state g.S.Store c.is_lost_unread-lost.new.conn) → HasCleanDisk (state g.S.Store c.self.inside.conn)
first g c clean = c.read_over.ensures.held (c.is_lost_unread-lost.ensures.held clean)

same : (g : _) (c : After-drop-rows g) → HasCleanDisk (state g.S.Store c.is_lost_unread-lost.new.conn) → c.is_lost_unread-lost.result ≡ false
    → IsTrue c.self.inside.owned → (state g.S.Store c.is_lost_unread-lost.new.conn).committed ≡ (state g.S.Store c.self.inside.conn).committed
same g c clean serves own =
    let early = c.is_lost_unread-lost.ensures.held clean in
    let late = c.is_lost_unread-lost.ensures.same clean (c.is_lost_unread-lost.ensures.serves clean serves) in
    late.1 ∙ c.read_over.ensures.same early (archive_of g.S.Store c.self.inside.conn c.self.inside.last_id)
    (c.self.invariant.stands c.if-self.false own (first g c clean)) late.0

pub invariant_of-self : goal.invariant_of-self
invariant_of-self g c =
    let old = c.self.inside.conn in
    let new = c.is_lost_unread-lost.new.conn in
    let last = c.self.inside.last_id in
    record {
      idle = c.is_lost_unread-lost.ensures.idle;
      last_in_range = c.self.invariant.last_in_range;
      count_in_range = c.self.invariant.count_in_range;
      stands = λ serves own clean. stands_on g.S.Store old new last (same g c clean serves own) (c.is_lost_unread-lost.ensures.serves clean serves)
          (c.self.invariant.stands c.if-self.false own (first g c clean));
      count_is = λ serves own clean. count_on g.S.Store old new last (same g c clean serves own) c.self.inside.count
          (c.self.invariant.count_is c.if-self.false own (first g c clean));
    }

pub returns-in-Err-clause-call : goal.returns-in-Err-clause-call
returns-in-Err-clause-call g c =
    let old = c.self.inside.conn in
    let new = c.is_lost_unread-lost.new.conn in
    let last = c.self.inside.last_id in
    call_lost g.S.Store _ _ _ _ c.self.view_is c.if-self.false (λ h. (first g c h.0, c.if-self.false, h.2))
    (λ h. sound_still g.S.Store old new last (same g c h.0 h.1 h.2) (sound_kept g.S.Store _ c.self.invariant (first g c h.0, c.if-self.false, h.2)))
    c.fault.result c.fault.ensures (λ h. same_archive g.S.Store old new last (same g c h.0 h.1 h.2))

pub returns-in-Err-clause-device : goal.returns-in-Err-clause-device
returns-in-Err-clause-device g c clean told =
    let new = c.is_lost_unread-lost.new.conn in
    let early : HasCleanDisk (state g.S.Store c.read_over.new.conn) = c.is_lost_unread-lost.ensures.held clean in
    let lost : c.is_lost_unread-lost.result ≡ true = lost_if c.is_lost_unread-lost.result c.fault.result c.fault.ensures told in
    subst (λ (k : JournalValue _). IsTrue k.stopped ⊎ LosesReading g.S.Store k.conn new) c.self.view_is (inr (record {
      between = c.read_over.new.conn;
      cause = c.in-Err.unread;
      unread = c.in-Err.ensures.unread early;
      lost = c.is_lost_unread-lost.ensures.lost clean lost;
    }))

pub returns-then-self-clause-call : goal.returns-then-self-clause-call
returns-then-self-clause-call g c = journal_stopped g.S.Store _ _ c.self.view_is c.if-self.true

pub returns-then-from-self-clause-shown : goal.returns-then-from-self-clause-shown
returns-then-from-self-clause-shown g c clean below =
    absurd (subst (λ (k : JournalValue _). c.args.from < k.last_id → ⊥) c.self.view_is (λ low. omega (arith, c.if-from-self.true, low)) below)

-- what was read is what the query shows
pub returns-clause-shown : goal.returns-clause-shown
returns-clause-shown g c clean below =
    let is : c.min-few.result ≡ min c.args.most c.self.inside.count = search rules in
    subst (λ (k : JournalValue _). HasRows g.S.Store c.args.from (min c.args.most k.count) c.read_over.new.events.items (state g.S.Store k.conn).now) c.self.view_is
    (subst (λ (n : ℕ). HasRows g.S.Store c.args.from n c.read_over.new.events.items (state g.S.Store c.self.inside.conn).now) is (c.in_default.ensures.has clean))
