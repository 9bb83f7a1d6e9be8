use Rattle.std.proofs.Common.{◌≡◌, ◌≢◌, ◌⊎◌, ℕ, List, [], ap, ap₂, ◌∙◌, sym, subst, true, false}
use Rattle.dnp_eventbuf.specs.EventBuffer.{rows_in}
use Rattle.dnp_objects.specs.declared.command.Command.{Command}
use Rattle.dnp_objects.specs.declared.store.StoreFault.TheVariants as store
use Rattle.dnp_outstation.specs.Calls.{performed_in}
use Rattle.dnp_outstation.specs.State.{Core}
use Rattle.dnp_outstation.specs.Station.{MayAsk}
use Rattle.dnp_outstation.specs.Stores.{KeepsOutputs}
use Rattle.dnp_concentrator.specs.Reserving.{Reserved}
use Rattle.dnp_concentrator.specs.BookOutputs.{Exhausts, IsWell, Performs, book_in, panel_of, with_reserved}
use Rattle.dnp_concentrator.specs.Concentrator.{outputs_of, queue_of}
use Rattle.dnp_concentrator.proofs.OneSide.{side_kept}
use Rattle.dnp_concentrator.proofs.ReservedOutputs.{reserved_kept}
use Rattle.dnp_concentrator.proofs.concentrator.Concentrator.receive_above.Goals as goal

carry : {A B C D : Type 0} (P : A → B → C → D → Type 0) {a x : A} {b y : B} {c z : C} {d w : D} → a ≡ x → b ≡ y → c ≡ z → d ≡ w → P a b c d → P x y z w
carry P {a = a} {x = x} {b = b} {y = y} {c = c} {z = z} {d = d} {w = w} first second third fourth holds =
    subst (λ u. P u y z w) first (subst (λ u. P a u z w) second (subst (λ u. P a b u w) third (subst (λ u. P a b c u) fourth holds)))

pub returns-clause-queue : goal.returns-clause-queue
returns-clause-queue g c =
    side_kept g.Q.PairLanes.honest g.Q.PairLanes.is_stopped g.Q.PairLanes.contents store.Device c.new-side.result c.receive-answer.new.lanes
    c.receive-answer.result (queue_of c.args.self.now) c.args.centre c.receive-answer.ensures.lanes c.new-side.ensures.pair c.new-side.ensures.centre

pub returns-clause-outputs : goal.returns-clause-outputs
returns-clause-outputs g c =
    let old = outputs_of c.args.self.now in
    let contents = g.B.Book.contents in
    let after = c.receive-answer.new.outputs in
    let seen = c.reserve-before.ensures.now ∙ ap (λ (r : Reserved). with_reserved old r) c.reserved_above-reserved.ensures in
    let put_back = c.reserve.ensures.now ∙ ap (λ (r : Reserved). with_reserved after r) c.reserve-before.ensures.before in
    subst (λ (commands : List Command). KeepsOutputs (IsWell g.B.Book.honest g.B.Book.is_stopped) (λ o. g.B.Book.is_stopped (book_in o)) (panel_of contents)
    (Performs contents) (Exhausts contents) true store.Exhausted store.Device commands old c.reserve.new.self c.receive-answer.result)
    (ap₂ (λ (core : Core) o. performed_in core (panel_of contents o) c.args.now c.args.octets.now) c.at_mut.ensures.value seen)
    (reserved_kept g.B.Book.honest g.B.Book.is_stopped contents store.Exhausted store.Device old c.reserve-before.new.self after c.reserve.new.self
    c.reserved_above-reserved.result _ c.receive-answer.result c.reserve-before.ensures.now put_back c.receive-answer.ensures.outputs)

-- what is said of the outputs that were lent, of that core and of that side of the queue, is said of the concentrator's
pub returns-clause-memory : goal.returns-clause-memory
returns-clause-memory g c = λ honest is asks.
    let old = outputs_of c.args.self.now in
    let contents = g.B.Book.contents in
    let seen = c.reserve-before.ensures.now ∙ ap (λ (r : Reserved). with_reserved old r) c.reserved_above-reserved.ensures in
    carry (λ (core : Core) o q (centre : ℕ). (rows_in (g.Q.PairLanes.contents q centre) ≢ [])
    ⊎ (performed_in core (panel_of contents o) c.args.now c.args.octets.now ≢ []))
    c.at_mut.ensures.value seen c.new-side.ensures.pair c.new-side.ensures.centre (c.receive-answer.ensures.memory honest is asks)

pub returns-clause-exhausted_first : goal.returns-clause-exhausted_first
returns-clause-exhausted_first g c = λ honest well is asks.
    let old = outputs_of c.args.self.now in
    let contents = g.B.Book.contents in
    let seen = c.reserve-before.ensures.now ∙ ap (λ (r : Reserved). with_reserved old r) c.reserved_above-reserved.ensures in
    let served = subst (λ o. IsWell g.B.Book.honest g.B.Book.is_stopped o) c.reserve.ensures.now well in
    carry (λ (core : Core) o q (centre : ℕ). (rows_in (g.Q.PairLanes.contents q centre) ≢ [])
    ⊎ (Exhausts contents o (performed_in core (panel_of contents o) c.args.now c.args.octets.now) → ⊥))
    c.at_mut.ensures.value seen c.new-side.ensures.pair c.new-side.ensures.centre (c.receive-answer.ensures.exhausted_first honest served is asks)

pub returns-clause-asks : goal.returns-clause-asks
returns-clause-asks g c = λ refused off.
    let old = outputs_of c.args.self.now in
    let contents = g.B.Book.contents in
    let seen = c.reserve-before.ensures.now ∙ ap (λ (r : Reserved). with_reserved old r) c.reserved_above-reserved.ensures in
    carry (λ (core : Core) o q (centre : ℕ). MayAsk core (panel_of contents o) c.args.now c.args.octets.now)
    c.at_mut.ensures.value seen c.new-side.ensures.pair c.new-side.ensures.centre
    (c.receive-answer.ensures.asks refused (subst (λ (core : Core). core.times.unsolicited ≡ false) (sym c.at_mut.ensures.value) off))

pub returns-clause-asks_announced : goal.returns-clause-asks_announced
returns-clause-asks_announced g c = λ refused off.
    let old = outputs_of c.args.self.now in
    let contents = g.B.Book.contents in
    let seen = c.reserve-before.ensures.now ∙ ap (λ (r : Reserved). with_reserved old r) c.reserved_above-reserved.ensures in
    carry (λ (core : Core) o q (centre : ℕ). MayAsk core (panel_of contents o) c.args.now c.args.octets.now)
    c.at_mut.ensures.value seen c.new-side.ensures.pair c.new-side.ensures.centre
    (c.receive-answer.ensures.asks_announced refused (subst (λ (core : Core). core.announced ≡ false) (sym c.at_mut.ensures.value) off))
