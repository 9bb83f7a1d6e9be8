use Rattle.std.proofs.Common.{◌≡◌, ◌+◌, false, IsTrue, length, arith, refl, sym, ap, subst, ◌∙◌, ◌⊎◌, inr, true}
use Rattle.sqlite.specs.Effect.{Database}
use Rattle.sqlite.specs.State.{HasCleanDisk}
use Rattle.sqlite.specs.Held.{state}
use Rattle.dnp_objects.specs.declared.store.StoreFault.TheVariants as fault
use Rattle.dnp_eventbuf.specs.Archive.{Archive, with_events}
use Rattle.dnp_store.specs.JournalTables.{archive_in}
use Rattle.dnp_store.specs.JournalKept.{JournalValue, JournalStands, LeavesJournal, LeavesEitherJournal, archive_of, held_archive}
use Rattle.dnp_store.proofs.JournalCalls.{call_done, call_lost, count_on, stands_on}
use Rattle.dnp_store.proofs.JournalHolding.{count_with}
use Rattle.dnp_store.proofs.JournalStanding.{either_of, leaves_before, leaves_last, seen_stands, sink_refused, sink_stopped, told_is, told_stands}
use Rattle.dnp_store.specs.declared.store_kind.StoreKind.TheVariants.{Journal}
use Rattle.dnp_store.specs.Refusals.{IsLost}
use Rattle.dnp_store.proofs.Refusing.{lost_if}
use Rattle.dnp_store.proofs.journal.JournalSink.append.Goals as goal

pub returns-in-Err-clause-either : goal.returns-in-Err-clause-either
returns-in-Err-clause-either g c clean =
    let events = c.args.events.now in
    let old = state g.S.Store c.self.inside.conn in
    let mid = state g.S.Store c.write_events.new.conn in
    let new = state g.S.Store c.is_lost-lost.new.conn in
    let a = archive_of g.S.Store c.self.inside.conn c.self.inside.last_id in
    let P = λ (k : JournalValue _). k.stopped ≡ false → IsTrue k.owned → LeavesEitherJournal new (held_archive g.S.Store k)
    (with_events (held_archive g.S.Store k) events) in
    subst P c.self.view_is (λ serves own db may.
    let early : HasCleanDisk mid = omega (arith, c.is_lost-lost.ensures.survives.clean) in
    let first : HasCleanDisk old = omega (arith, early, c.write_events.ensures.survives.clean) in
    either_of old mid new a (λ b. with_events b events) clean early (g.met.S.Store.settled c.self.inside.conn.store)
    (c.self.invariant.stands serves own first) c.write_events.ensures.survives c.is_lost-lost.ensures.survives db may)

-- where it was refused, and the journal is not lost, the last commit stays
first : (g : _) (c : goal.After-fault g) → HasCleanDisk (state g.S.Store c.is_lost-lost.new.conn) → HasCleanDisk (state g.S.Store c.self.inside.conn)
first g c clean =
    let early : HasCleanDisk (state g.S.Store c.write_events.new.conn) = omega (arith, clean, c.is_lost-lost.ensures.survives.clean) in
    omega (arith, early, c.write_events.ensures.survives.clean)

same : (g : _) (c : goal.After-fault g) → HasCleanDisk (state g.S.Store c.is_lost-lost.new.conn) → c.is_lost-lost.result ≡ false
    → (state g.S.Store c.is_lost-lost.new.conn).committed ≡ (state g.S.Store c.self.inside.conn).committed
same g c clean serves =
    let early : HasCleanDisk (state g.S.Store c.write_events.new.conn) = omega (arith, clean, c.is_lost-lost.ensures.survives.clean) in
    let late = c.is_lost-lost.ensures.same clean (c.is_lost-lost.ensures.serves clean serves) in
    late.1 ∙ (c.in-Err.ensures.err early late.0).1

pub invariant_of-self : goal.invariant_of-self
invariant_of-self g c =
    let old = c.self.inside.conn in
    let new = c.is_lost-lost.new.conn in
    let last = c.self.inside.last_id in
    record {
      idle = c.is_lost-lost.ensures.idle;
      last_in_range = c.self.invariant.last_in_range;
      count_in_range = c.self.invariant.count_in_range;
      stands = λ serves own clean. stands_on g.S.Store old new last (same g c clean serves) (c.is_lost-lost.ensures.serves clean serves)
          (c.self.invariant.stands c.if-self.false own (first g c clean));
      count_is = λ serves own clean. count_on g.S.Store old new last (same g c clean serves) c.self.inside.count
          (c.self.invariant.count_is c.if-self.false own (first g c clean));
    }

pub returns-in-Err-clause-call : goal.returns-in-Err-clause-call
returns-in-Err-clause-call g c =
    call_lost g.S.Store _ _ _ _ c.self.view_is c.if-self.false (λ h. (first g c h.0, c.if-self.false, h.2)) (λ h. tt) c.fault.result c.fault.ensures
    (λ h. ap (λ (d : Database). archive_in d.trees c.self.inside.last_id) (same g c h.0 h.1))

pub returns-clause-call : goal.returns-clause-call
returns-clause-call g c =
    call_done g.S.Store _ _ _ _ c.self.view_is c.if-self.false
    (λ h. (let early : HasCleanDisk (state g.S.Store c.self.inside.conn) = omega (arith, h.0, c.write_events.ensures.survives.clean) in (early, h.1, h.2))) (λ h. tt) _ refl

-- what was written holds the events too
stood : (g : _) (c : goal.After-new g) → HasCleanDisk (state g.S.Store c.write_events.new.conn) → c.self.inside.stopped ≡ false → IsTrue c.self.inside.owned
    → JournalStands (state g.S.Store c.write_events.new.conn) (with_events (archive_of g.S.Store c.self.inside.conn c.self.inside.last_id) c.args.events.now)
stood g c clean serves own =
    let early : HasCleanDisk (state g.S.Store c.self.inside.conn) = omega (arith, clean, c.write_events.ensures.survives.clean) in
    let was = c.self.invariant.stands serves own early in
    c.in_default.ensures.ok clean (archive_of g.S.Store c.self.inside.conn c.self.inside.last_id) was

pub invariant_of-self-2 : goal.invariant_of-self-2
invariant_of-self-2 g c =
    let new = state g.S.Store c.write_events.new.conn in
    let events = c.args.events.now in
    let a = archive_of g.S.Store c.self.inside.conn c.self.inside.last_id in
    record {
      idle = c.write_events.ensures.idle;
      last_in_range = omega (arith, c.if-count-self.false, c.self.invariant.last_in_range);
      count_in_range = omega (arith, c.self.invariant.count_in_range);
      stands = λ serves own clean. told_stands new (with_events a events) (c.self.inside.last_id + length events) refl (stood g c clean serves own);
      count_is = λ serves own clean.
          let early : HasCleanDisk (state g.S.Store c.self.inside.conn) = omega (arith, clean, c.write_events.ensures.survives.clean) in
          ap (λ n. n + length events) (c.self.invariant.count_is serves own early) ∙ sym (count_with a events)
          ∙ sym (ap (λ (b : Archive). length b.rows) (told_is new (with_events a events) (c.self.inside.last_id + length events) refl (stood g c clean serves own)));
    }

pub returns-clause-taken : goal.returns-clause-taken
returns-clause-taken g c h =
    let new = state g.S.Store c.write_events.new.conn in
    let events = c.args.events.now in
    let last = c.self.inside.last_id + length events in
    let a = archive_of g.S.Store c.self.inside.conn c.self.inside.last_id in (
      subst (λ (k : JournalValue _). archive_of g.S.Store c.write_events.new.conn last ≡ with_events (held_archive g.S.Store k) events) c.self.view_is
          (told_is new (with_events a events) last refl (stood g c h.0 h.1 h.2)),
      c.new.ensures.items,
    )

pub returns-clause-after : goal.returns-clause-after
returns-clause-after g c clean =
    let new = state g.S.Store c.write_events.new.conn in
    let events = c.args.events.now in
    let last = c.self.inside.last_id + length events in
    let a = archive_of g.S.Store c.self.inside.conn c.self.inside.last_id in
    let P = λ (k : JournalValue _). IsTrue k.owned → LeavesJournal new (archive_of g.S.Store c.write_events.new.conn last) in
    subst P c.self.view_is (λ own. leaves_last new (archive_of g.S.Store c.write_events.new.conn last) (g.met.S.Store.settled c.write_events.new.conn.store)
    (told_stands new (with_events a events) last refl (stood g c clean c.if-self.false own)))

pub returns-in-Err-clause-device : goal.returns-in-Err-clause-device
returns-in-Err-clause-device g c clean told =
    let new = c.is_lost-lost.new.conn in
    let early : HasCleanDisk (state g.S.Store c.write_events.new.conn) = omega (arith, clean, c.is_lost-lost.ensures.survives.clean) in
    let lost : c.is_lost-lost.result ≡ true = lost_if c.is_lost-lost.result c.fault.result c.fault.ensures told in
    subst (λ (k : JournalValue _). IsTrue k.stopped ⊎ IsLost g.S.Store Journal k.conn new) c.self.view_is (inr (record {
      between = c.write_events.new.conn;
      error = _;
      refused = c.in-Err.ensures.refused early;
      lost = c.is_lost-lost.ensures.lost clean lost;
    }))

pub returns-then-self-clause-call : goal.returns-then-self-clause-call
returns-then-self-clause-call g c = sink_stopped g.S.Store _ _ c.self.view_is c.if-self.true

pub returns-then-count-self-clause-call : goal.returns-then-count-self-clause-call
returns-then-count-self-clause-call g c = sink_refused g.S.Store _ _ c.self.view_is fault.Exhausted (λ e. absurd cc) c.if-self.false

pub returns-then-count-self-clause-either : goal.returns-then-count-self-clause-either
returns-then-count-self-clause-either g c clean serves own =
    leaves_before (state g.S.Store c.args.self.now.conn) _ _ (g.met.S.Store.settled c.args.self.now.conn.store)
    (seen_stands g.S.Store _ _ c.self.view_is c.self.invariant.stands serves own clean)

pub returns-clause-either : goal.returns-clause-either
returns-clause-either g c clean =
    let new = state g.S.Store c.write_events.new.conn in
    let events = c.args.events.now in
    let P = λ (k : JournalValue _). k.stopped ≡ false → IsTrue k.owned → LeavesEitherJournal new (held_archive g.S.Store k)
    (with_events (held_archive g.S.Store k) events) in
    subst P c.self.view_is (λ serves own db may.
    inr (leaves_last new _ (g.met.S.Store.settled c.write_events.new.conn.store) (stood g c clean serves own) db may))
