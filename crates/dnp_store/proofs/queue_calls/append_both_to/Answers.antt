use Rattle.std.proofs.Common.{ap₂, arith, sym}
use Rattle.dnp_objects.specs.declared.store.StoreFault.TheVariants as store
use Rattle.dnp_store.specs.PairTables.{HoldsPair, IsPair}
use Rattle.dnp_store.specs.declared.store_kind.StoreKind.TheVariants.{Queue}
use Rattle.dnp_eventbuf.specs.Sound.{IsSoundBuffer}
use Rattle.dnp_eventbuf.specs.EventBuffer.{EventBuffer, with_rows}
use Rattle.dnp_store.proofs.Trimming.{last_rows}
use Rattle.dnp_store.proofs.Standing.{device_is, device_not, holding}
use Rattle.dnp_store.proofs.Writing.{refused_too, refused_write, was_written}
use Rattle.dnp_store.proofs.queue_calls.append_both_to.Goals as goal

pub write_both-requires-clause-first_after : goal.write_both-requires-clause-first_after
write_both-requires-clause-first_after g c =
    c.lanes_stay_sound.ensures.appended c.args.first.now c.args.rows.now c.requires.first c.requires.carried c.in_ok-dropped.ensures.fits.0

pub write_both-requires-clause-few : goal.write_both-requires-clause-few
write_both-requires-clause-few g c =
    let after : IsSoundBuffer (with_rows c.args.first.now c.args.rows.now) =
    c.lanes_stay_sound.ensures.appended c.args.first.now c.args.rows.now c.requires.first c.requires.carried c.in_ok-dropped.ensures.fits.0 in
    let last = after.last_id_at_most in
    omega (arith, last, last_rows c.args.first.now c.args.rows.now)

pub write_both-requires-clause-second_after : goal.write_both-requires-clause-second_after
write_both-requires-clause-second_after g c =
    c.lanes_stay_sound.ensures.appended c.args.second.now c.args.rows.now c.requires.second c.requires.carried c.in_ok-dropped.ensures.fits.1

pub write_both-requires-clause-few_too : goal.write_both-requires-clause-few_too
write_both-requires-clause-few_too g c =
    let after : IsSoundBuffer (with_rows c.args.second.now c.args.rows.now) =
    c.lanes_stay_sound.ensures.appended c.args.second.now c.args.rows.now c.requires.second c.requires.carried c.in_ok-dropped.ensures.fits.1 in
    let last = after.last_id_at_most in
    omega (arith, last, last_rows c.args.second.now c.args.rows.now)

pub returns-in_err-dropped-clause-written : goal.returns-in_err-dropped-clause-written
returns-in_err-dropped-clause-written g c =
    refused_too g.S.Store Queue store.Device IsPair HoldsPair holding _ _ c.args.conn.now _ c.from_residual.result c.from_residual.ensures
    c.in_err-dropped.ensures.named
    (g.met.S.Store.settled c.args.conn.now.store) c.requires.idle

pub returns-in-Err-clause-written : goal.returns-in-Err-clause-written
returns-in-Err-clause-written g c =
    let wrote = c.write_both.ensures in
    let asked = c.is_lost-lost.ensures in
    refused_write g.S.Store Queue store.Device IsPair HoldsPair holding _ _ c.args.conn.now c.write_both.new.conn c.is_lost-lost.new.conn _
    c.is_lost-lost.result c.fault.result _
    (g.met.S.Store.settled c.args.conn.now.store) (λ _ stood db made. made stood) wrote.survives c.in-Err.ensures.err c.in-Err.ensures.refused
    asked.survives asked.idle asked.same asked.serves asked.lost (device_is c.is_lost-lost.result c.fault.result c.fault.ensures)
    (device_not c.is_lost-lost.result c.fault.result c.fault.ensures)

pub returns-clause-written : goal.returns-clause-written
returns-clause-written g c =
    was_written g.S.Store Queue store.Device IsPair HoldsPair holding _ _ _ c.args.conn.now c.write_both.new.conn _ _
    (g.met.S.Store.settled c.write_both.new.conn.store)
    (λ _. ap₂ (λ (a b : EventBuffer). record { first = a; second = b }) (sym c.put_all.ensures.with) (sym c.put_all-2.ensures.with))
    c.write_both.ensures.idle
    c.write_both.ensures.survives (λ clean _ stood. c.in_default.ensures.ok clean stood)
