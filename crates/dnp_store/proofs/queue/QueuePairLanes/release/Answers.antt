use Rattle.std.proofs.Common.{◌≡◌, arith, refl}
use Rattle.sqlite.specs.Held.{state}
use Rattle.dnp_eventbuf.specs.EventBuffer.{without}
use Rattle.dnp_store.proofs.SideCalls.{after_at, either_at, side_call}
use Rattle.dnp_store.proofs.queue.QueuePairLanes.release.Goals as goal

pub returns-then-centre-eq0-clause-either : goal.returns-then-centre-eq0-clause-either
returns-then-centre-eq0-clause-either g c clean =
    let wrote = c.release_from-answer.ensures.written in
    either_at (state g.S.Store c.release_from-answer.new.conn) _ c.args.self.now (λ s. without s c.args.upto.now) 0 c.args.centre c.self.view_is
    c.if-centre-eq0.true
    (λ serves own. wrote.either clean c.self.inside.second (c.self.invariant.stands serves own (wrote.clean clean)))

pub returns-else-centre-eq0-clause-either : goal.returns-else-centre-eq0-clause-either
returns-else-centre-eq0-clause-either g c clean =
    let wrote = c.release_from-answer-else-centre-eq0.ensures.written in
    let second : c.args.centre ≡ 1 = omega (arith, c.requires, c.if-centre-eq0.false) in
    either_at (state g.S.Store c.release_from-answer-else-centre-eq0.new.conn) _ c.args.self.now (λ s. without s c.args.upto.now) 1 c.args.centre
    c.self.view_is second
    (λ serves own. wrote.either clean c.self.inside.first (c.self.invariant.stands serves own (wrote.clean clean)))

pub returns-then-centre-eq0-clause-after : goal.returns-then-centre-eq0-clause-after
returns-then-centre-eq0-clause-after g c clean =
    let wrote = c.release_from-answer.ensures.written in
    after_at (state g.S.Store c.release_from-answer.new.conn) _ c.args.self.now c.release_from-answer.result
    (record { first = c.release_from-answer.new.lanes; second = c.self.inside.second }) c.self.view_is
    (λ own. wrote.after clean c.self.inside.second (c.self.invariant.stands c.if-self.false own (wrote.clean clean)))

pub returns-else-centre-eq0-clause-after : goal.returns-else-centre-eq0-clause-after
returns-else-centre-eq0-clause-after g c clean =
    let wrote = c.release_from-answer-else-centre-eq0.ensures.written in
    after_at (state g.S.Store c.release_from-answer-else-centre-eq0.new.conn) _ c.args.self.now c.release_from-answer-else-centre-eq0.result
    (record { first = c.self.inside.first; second = c.release_from-answer-else-centre-eq0.new.lanes }) c.self.view_is
    (λ own. wrote.after clean c.self.inside.first (c.self.invariant.stands c.if-self.false own (wrote.clean clean)))

pub returns-then-centre-eq0-clause-call : goal.returns-then-centre-eq0-clause-call
returns-then-centre-eq0-clause-call g c =
    let did = c.release_from-answer.ensures in
    let inside = c.self.inside in
    let asked = c.is_device-self-inside.ensures in
    side_call g.S.Store _ c.args.self.now (record {
      conn = c.release_from-answer.new.conn;
      sides = record { first = c.release_from-answer.new.lanes; second = inside.second };
      stopped = c.is_device-self-inside.result;
      owned = inside.owned;
    }) c.release_from-answer.result 0 c.args.centre c.self.view_is c.if-centre-eq0.true c.if-self.false refl did.written.clean asked.device
    asked.other did.sound refl did.kept

pub returns-else-centre-eq0-clause-call : goal.returns-else-centre-eq0-clause-call
returns-else-centre-eq0-clause-call g c =
    let did = c.release_from-answer-else-centre-eq0.ensures in
    let inside = c.self.inside in
    let asked = c.is_device-self-inside-else-centre-eq0.ensures in
    let second : c.args.centre ≡ 1 = omega (arith, c.requires, c.if-centre-eq0.false) in
    side_call g.S.Store _ c.args.self.now (record {
      conn = c.release_from-answer-else-centre-eq0.new.conn;
      sides = record { first = inside.first; second = c.release_from-answer-else-centre-eq0.new.lanes };
      stopped = c.is_device-self-inside-else-centre-eq0.result;
      owned = inside.owned;
    }) c.release_from-answer-else-centre-eq0.result 1 c.args.centre c.self.view_is second c.if-self.false refl did.written.clean asked.device
    asked.other did.sound refl
    did.kept
