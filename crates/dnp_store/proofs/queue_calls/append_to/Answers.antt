use Rattle.std.proofs.Common.{ap, arith, sym}
use Rattle.dnp_objects.specs.declared.store.StoreFault.TheVariants as store
use Rattle.dnp_store.specs.PairTables.{HoldsPair, IsPair}
use Rattle.dnp_store.specs.declared.store_kind.StoreKind.TheVariants.{Queue}
use Rattle.dnp_eventbuf.specs.Sound.{IsSoundBuffer}
use Rattle.dnp_eventbuf.specs.EventBuffer.{EventBuffer, with_rows}
use Rattle.dnp_store.specs.steps.Pairs.{sides_of}
use Rattle.dnp_store.proofs.Trimming.{last_rows}
use Rattle.dnp_store.proofs.Standing.{device_is, device_not, holding}
use Rattle.dnp_store.proofs.Writing.{refused_too, refused_write, was_written}
use Rattle.dnp_store.proofs.queue_calls.append_to.Goals as goal

pub write_append-requires-clause-after : goal.write_append-requires-clause-after
write_append-requires-clause-after g c =
    c.lanes_stay_sound.ensures.appended c.args.lanes.now c.args.rows.now c.requires.sound c.requires.carried c.in_ok-dropped.ensures.fits

pub write_append-requires-clause-few : goal.write_append-requires-clause-few
write_append-requires-clause-few g c =
    let after : IsSoundBuffer (with_rows c.args.lanes.now c.args.rows.now) =
    c.lanes_stay_sound.ensures.appended c.args.lanes.now c.args.rows.now c.requires.sound c.requires.carried c.in_ok-dropped.ensures.fits in
    let last = after.last_id_at_most in
    omega (arith, last, last_rows c.args.lanes.now c.args.rows.now)

pub returns-in_err-dropped-clause-written : goal.returns-in_err-dropped-clause-written
returns-in_err-dropped-clause-written g c =
    refused_too g.S.Store Queue store.Device IsPair HoldsPair holding _ _ c.args.conn.now _ c.from_residual.result c.from_residual.ensures
    c.in_err-dropped.ensures.named
    (g.met.S.Store.settled c.args.conn.now.store) c.requires.idle

pub returns-in-Err-clause-written : goal.returns-in-Err-clause-written
returns-in-Err-clause-written g c =
    let wrote = c.write_append.ensures in
    let asked = c.is_lost-lost.ensures in
    refused_write g.S.Store Queue store.Device IsPair HoldsPair holding _ _ c.args.conn.now c.write_append.new.conn c.is_lost-lost.new.conn _
    c.is_lost-lost.result c.fault.result _
    (g.met.S.Store.settled c.args.conn.now.store) (λ others stood db made. made others stood) wrote.survives c.in-Err.ensures.err
    c.in-Err.ensures.refused
    asked.survives asked.idle asked.same asked.serves asked.lost (device_is c.is_lost-lost.result c.fault.result c.fault.ensures)
    (device_not c.is_lost-lost.result c.fault.result c.fault.ensures)

pub returns-clause-written : goal.returns-clause-written
returns-clause-written g c =
    was_written g.S.Store Queue store.Device IsPair HoldsPair holding _ _ _ c.args.conn.now c.write_append.new.conn _ _
    (g.met.S.Store.settled c.write_append.new.conn.store)
    (λ others. ap (λ (t : EventBuffer). sides_of c.args.side t others) (sym c.put_all.ensures.with)) c.write_append.ensures.idle
    c.write_append.ensures.survives c.in_default.ensures.ok
