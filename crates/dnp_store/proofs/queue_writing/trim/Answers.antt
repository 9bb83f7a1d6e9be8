use Rattle.std.proofs.Common.{rules, ◌≡◌, ◌+◌, ◌-◌, ◌<◌, ◌++◌, length, slice_get, option_map, length-append, length-set, None, Some, arith, sym, ap, subst, ◌∙◌, add-one}
use Rattle.sqlite.specs.State.{HasCleanDisk}
use Rattle.sqlite.specs.Held.{state}
use Rattle.dnp_eventbuf.specs.EventBuffer.{lane_at, above}
use Rattle.dnp_eventbuf.specs.declared.numbered.Numbered.{Numbered}
use Rattle.dnp_eventbuf.specs.Latest.{numbered_for}
use Rattle.dnp_store.specs.steps.Steps.{over, cut, IsTrimmed}
use Rattle.dnp_store.proofs.Trimming.{trimmed_none, trimmed_some, lost_low, id_low, is_there}
use Rattle.dnp_store.specs.declared.store_kind.StoreKind.TheVariants.{Queue}
use Rattle.dnp_store.proofs.Refusing.{refused_last}
use Rattle.dnp_store.proofs.Stepping.{on_then, step_as, step_none, step_then}
use Rattle.dnp_store.proofs.Running.{err_too, step_too}
use Rattle.dnp_store.proofs.queue_writing.trim.Goals as goal

pub returns-then-over-eq0-clause-trimmed : goal.returns-then-over-eq0-clause-trimmed
returns-then-over-eq0-clause-trimmed g c clean others raised h =
    let s = c.args.lanes.now in
    let rows = c.args.rows.now in
    let db = (state g.S.Store c.args.tx.now.conn.now).now in
    let none : over s rows c.args.number ≡ 0 = sym c.drops_in-over.ensures ∙ c.if-over-eq0.true in
    subst (λ n. IsTrimmed c.args.side others db s rows raised n) (sym (add-one c.args.number))
    (trimmed_none c.a_lane_keeps_its_latest_rows.ensures s rows c.args.number c.requires.sound c.requires.number c.requires.after.nine c.args.side others db raised none h)

pub overflow_add-lost : goal.overflow_add-lost
overflow_add-lost g c =
    let most = lost_low c.a_lane_keeps_its_latest_rows.ensures c.args.lanes.now c.args.rows.now c.args.number c.requires.sound c.requires.number c.requires.after in
    omega (arith, most, c.lost_in.ensures, c.drops_in-over.ensures)

pub note-requires-clause-lost : goal.note-requires-clause-lost
note-requires-clause-lost g c =
    let most = lost_low c.a_lane_keeps_its_latest_rows.ensures c.args.lanes.now c.args.rows.now c.args.number c.requires.sound c.requires.number c.requires.after in
    omega (arith, most, c.lost_in.ensures, c.drops_in-over.ensures)

pub take-requires-clause-upto : goal.take-requires-clause-upto
take-requires-clause-upto g c =
    let at : c.id_at.result ≡ Some c.in-Some.upto = search rules in
    let most = id_low c.args.lanes.now c.args.rows.now c.args.number (c.drops_in-over.result - 1) c.in-Some.upto c.requires.sound c.requires.number
    c.requires.few (sym c.id_at.ensures ∙ at) in
    omega (arith, most)

pub returns-clause-trimmed : goal.returns-clause-trimmed
returns-clause-trimmed g c clean =
    let s = c.args.lanes.now in
    let rows = c.args.rows.now in
    let number = c.args.number in
    let upto = c.in-Some.upto in
    let lost = c.lost_in.result + c.drops_in-over.result in
    let old = state g.S.Store c.args.tx.now.conn.now in
    let mid = state g.S.Store c.take.new.tx.conn.now in
    let new = state g.S.Store c.note.new.tx.conn.now in
    let early : HasCleanDisk mid = omega (arith, c.note.ensures.step.survives.clean) in
    let some : 0 < over s rows number = omega (arith, c.drops_in-over.ensures, c.if-over-eq0.false) in
    let at : c.id_at.result ≡ Some upto = search rules in
    let there = ap (λ n. option_map (λ (x : Numbered). x.id) (slice_get ((lane_at s number).rows ++ numbered_for number s.last_id rows) (n - 1)))
    (sym c.drops_in-over.ensures) ∙ sym c.id_at.ensures ∙ at in
    let sum : lost ≡ (lane_at s number).lost + over s rows number = omega (arith, c.lost_in.ensures, c.drops_in-over.ensures) in
    on_then _ _ c.note.result (λ noted others raised h. subst (λ n. IsTrimmed c.args.side others new.now s rows raised n) (sym (add-one number))
    (trimmed_some c.a_lane_keeps_its_latest_rows.ensures s rows number c.requires.sound c.requires.number c.requires.after.nine c.args.side others old.now new.now raised upto lost some there sum
    (λ t fs nine held. noted others (cut t number upto) fs (length-set t.lanes number (above upto (lane_at t number)) ∙ nine)
    (c.in_ok-take.ensures.cut early others t fs nine held)) h)) (c.note.ensures.noted clean)

pub returns-clause-step : goal.returns-clause-step
returns-clause-step g c = step_then g.S.Store c.args.tx.now.conn c.take.new.tx.conn c.note.new.tx.conn _ _ c.take.ensures.step c.note.ensures.step

pub returns-clause-refused : goal.returns-clause-refused
returns-clause-refused g c clean =
    refused_last g.S.Store Queue c.args.tx.now.conn.now c.take.new.tx.conn.now c.note.new.tx.conn.now c.note.result c.take.ensures.step.survives
    (c.note.ensures.refused clean)

pub returns-then-over-eq0-clause-step : goal.returns-then-over-eq0-clause-step
returns-then-over-eq0-clause-step g c = step_none g.S.Store c.args.tx.now.conn c.requires.inside

pub returns-in_default-clause-step : goal.returns-in_default-clause-step
returns-in_default-clause-step g c = step_as g.S.Store _ _ tt _ (step_none g.S.Store c.args.tx.now.conn c.requires.inside)

-- a lane that drops some has the row that it drops last
pub returns-in_default-clause-refused : goal.returns-in_default-clause-refused
returns-in_default-clause-refused g c clean =
    let s = c.args.lanes.now in
    let rows = c.args.rows.now in
    let ours = (lane_at s c.args.number).rows in
    let came = numbered_for c.args.number s.last_id rows in
    let none : c.id_at.result ≡ None = search rules in
    let low : c.drops_in-over.result - 1 < length (ours ++ came) = omega (arith, c.drops_in-over.ensures, c.if-over-eq0.false, length-append ours came) in
    absurd (is_there (ours ++ came) (c.drops_in-over.result - 1) low (sym c.id_at.ensures ∙ none))

pub take-requires-clause-inside : goal.take-requires-clause-inside
take-requires-clause-inside g c = c.requires.inside

pub note-requires-clause-inside : goal.note-requires-clause-inside
note-requires-clause-inside g c = c.in_ok-take.ensures.step.inside

pub returns-in_err-take-clause-refused : goal.returns-in_err-take-clause-refused
returns-in_err-take-clause-refused g c clean = err_too _ c.from_residual.result _ c.from_residual.ensures (c.in_err-take.ensures.refused clean)

pub returns-in_err-take-clause-step : goal.returns-in_err-take-clause-step
returns-in_err-take-clause-step g c = step_too g.S.Store _ _ _ c.from_residual.result c.from_residual.ensures c.in_err-take.ensures.step
