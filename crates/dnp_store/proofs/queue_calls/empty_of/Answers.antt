use Rattle.std.proofs.Common.{ap, subst, sym, refl}
use Rattle.sqlite.specs.State.{HasCleanDisk}
use Rattle.sqlite.specs.Held.{state}
use Rattle.dnp_objects.specs.declared.store.StoreFault.TheVariants as store
use Rattle.dnp_store.specs.declared.store_kind.StoreKind.TheVariants.{Queue}
use Rattle.dnp_eventbuf.specs.EventBuffer.{EventBuffer, without_all}
use Rattle.dnp_store.specs.QueueKept.{QueueStands}
use Rattle.dnp_store.specs.PairTables.{HoldsPair, IsPair}
use Rattle.dnp_store.specs.steps.Pairs.{sides_of}
use Rattle.dnp_store.specs.steps.Steps.{released}
use Rattle.dnp_store.proofs.Standing.{device_is, device_not, holding}
use Rattle.dnp_store.proofs.Writing.{refused_first, refused_write, was_written}
use Rattle.dnp_store.proofs.Releasing.{all_left_of, all_left_in, nine_most, all_most}
use Rattle.dnp_store.proofs.queue_calls.empty_of.Goals as goal

-- what was written holds no rows on the side
written : (g : _) (c : goal.After-clear g) → HasCleanDisk (state g.S.Store c.write_release.new.conn) → (others : EventBuffer)
    → QueueStands (state g.S.Store c.args.conn.now) (sides_of c.args.side c.args.lanes.now others)
    → QueueStands (state g.S.Store c.write_release.new.conn) (sides_of c.args.side (without_all c.args.lanes.now) others)
written g c clean others stood =
    let new = state g.S.Store c.write_release.new.conn in
    let s = c.args.lanes.now in
    let side = c.args.side in
    let did = c.in_default-write_release.ensures.ok clean others stood in
    let all = all_left_of c.a_release_is_lane_by_lane.ensures side others new.committed s nine_most c.requires.sound refl all_most
    (subst (λ b. IsPair new.committed (sides_of side (released s nine_most b) others)) c.has_overflow-lower.ensures did.holds) in
    record { is_open = did.is_open; holds = all }

pub returns-in_default-clause-written : goal.returns-in_default-clause-written
returns-in_default-clause-written g c =
    refused_first g.S.Store Queue store.Device IsPair HoldsPair holding _ _ c.args.conn.now _ (λ told. absurd cc)
    (g.met.S.Store.settled c.args.conn.now.store) c.requires.idle

pub returns-in-Err-clause-written : goal.returns-in-Err-clause-written
returns-in-Err-clause-written g c =
    let wrote = c.write_release.ensures in
    let asked = c.is_lost-lost.ensures in
    refused_write g.S.Store Queue store.Device IsPair HoldsPair holding _ _ c.args.conn.now c.write_release.new.conn c.is_lost-lost.new.conn _
    c.is_lost-lost.result c.fault.result _
    (g.met.S.Store.settled c.args.conn.now.store) (λ others stood db made.
    all_left_in c.a_release_is_lane_by_lane.ensures c.args.side others db c.args.lanes.now nine_most c.requires.sound refl all_most
    (subst (λ x. HoldsPair db (sides_of c.args.side (released c.args.lanes.now nine_most x) others)) c.has_overflow-lower.ensures
    (made others stood))) wrote.survives c.in-Err.ensures.err c.in-Err.ensures.refused
    asked.survives asked.idle asked.same asked.serves asked.lost (device_is c.is_lost-lost.result c.fault.result c.fault.ensures)
    (device_not c.is_lost-lost.result c.fault.result c.fault.ensures)

pub returns-clause-written : goal.returns-clause-written
returns-clause-written g c =
    was_written g.S.Store Queue store.Device IsPair HoldsPair holding _ _ _ c.args.conn.now c.write_release.new.conn _ _
    (g.met.S.Store.settled c.write_release.new.conn.store)
    (λ others. ap (λ (t : EventBuffer). sides_of c.args.side t others) (sym c.clear.ensures.without)) c.write_release.ensures.idle
    c.write_release.ensures.survives (written g c)
