use Rattle.std.proofs.Common.{◌≡◌, ◌++◌, take, drop, length, ap, arith, subst, sym}
use Rattle.sqlite.specs.State.{HasCleanDisk}
use Rattle.sqlite.specs.Held.{state}
use Rattle.dnp_controls.specs.declared.book.BookFault.TheVariants as fault
use Rattle.dnp_store.specs.BookTables.{HoldsBook, IsBook}
use Rattle.dnp_store.specs.declared.store_kind.StoreKind.TheVariants.{Book}
use Rattle.dnp_controls.specs.Book.{Has, IsSoundLedger, Ledger, in_state}
use Rattle.dnp_store.specs.BookKept.{IsPast, BookStands}
use Rattle.dnp_store.specs.steps.Turning.{may_turn}
use Rattle.dnp_store.proofs.BookPlaces.{id_low, past_turned}
use Rattle.dnp_store.proofs.BookStanding.{holding, not_device}
use Rattle.dnp_store.proofs.BookTurning.{granted_there, not_pending, sound_turned, turned_is}
use Rattle.dnp_store.proofs.Writing.{refused_too, refused_write, was_written}
use Rattle.dnp_store.proofs.book_calls.turn_to.Goals as goal

pub write_turned-requires-clause-id : goal.write_turned-requires-clause-id
write_turned-requires-clause-id g c =
    let items = c.args.entries.now.items in
    let has = subst (λ es. Has es c.args.id (λ from. may_turn from c.args.control.now)) c.deref.ensures.value c.in_ok-granted.ensures.granted in
    omega (
      arith,
      id_low (record { entries = items; last_id = c.args.last_id }) c.args.id c.requires.sound (granted_there items c.args.id _ has),
      c.requires.range,
    )

-- the control may come into the state
has : (g : _) (c : goal.After-entries-1 g) → Has c.args.entries.now.items c.args.id (λ from. may_turn from c.args.control.now)
has g c = subst (λ es. Has es c.args.id (λ from. may_turn from c.args.control.now)) c.deref.ensures.value c.in_ok-granted.ensures.granted

-- the entries afterwards
entries_are : (g : _) (c : goal.After-entries-1 g)
    → ◌≡◌ {A = Ledger} (record { entries = in_state c.args.entries.now.items c.args.id c.args.control.now; last_id = c.args.last_id })
    (record {
      entries = take c.args.entries.now.len (c.set_state.new.entries ++ drop (length c.set_state.new.entries) c.args.entries.now.items);
      last_id = c.args.last_id;
    })
entries_are g c =
    turned_is c.set_state.new.entries _ c.args.entries.now.items c.args.entries.now.len c.args.last_id c.args.id c.args.control.now (omega arith)
    c.deref_mut.ensures.value c.set_state.ensures

-- what was written holds them
written : (g : _) (c : goal.After-entries-1 g) → HasCleanDisk (state g.S.Store c.write_turned.new.conn)
    → BookStands (state g.S.Store c.args.conn.now) (record { entries = c.args.entries.now.items; last_id = c.args.last_id })
    → BookStands (state g.S.Store c.write_turned.new.conn)
    (record { entries = in_state c.args.entries.now.items c.args.id c.args.control.now; last_id = c.args.last_id })
written g c clean stood =
    c.in_default.ensures.ok clean (record { entries = c.args.entries.now.items; last_id = c.args.last_id }) c.requires.sound
    (granted_there c.args.entries.now.items c.args.id _ (has g c)) stood

pub returns-clause-turned : goal.returns-clause-turned
returns-clause-turned g c = sym (ap (λ (b : Ledger). b.entries) (entries_are g c))

pub returns-clause-sound : goal.returns-clause-sound
returns-clause-sound g c =
    let items = c.args.entries.now.items in
    let control = c.args.control.now in
    subst IsSoundLedger (entries_are g c)
    (sound_turned c.ids_go_on.ensures.sound (record { entries = items; last_id = c.args.last_id }) c.args.id control
    (not_pending items c.args.id control (has g c)) c.requires.sound)

pub returns-clause-past : goal.returns-clause-past
returns-clause-past g c first past =
    let items = c.args.entries.now.items in
    let control = c.args.control.now in
    subst (λ (b : Ledger). IsPast b.entries first) (entries_are g c)
    (past_turned items first c.args.id control (not_pending items c.args.id control (has g c)) past)

pub returns-in_err-granted-clause-written : goal.returns-in_err-granted-clause-written
returns-in_err-granted-clause-written g c =
    refused_too g.S.Store Book fault.Device IsBook HoldsBook holding _ _ c.args.conn.now _ c.from_residual.result c.from_residual.ensures
    (not_device _ c.in_err-granted.ensures.named) (g.met.S.Store.settled c.args.conn.now.store) c.requires.idle

pub returns-in-Err-clause-written : goal.returns-in-Err-clause-written
returns-in-Err-clause-written g c =
    let items = c.args.entries.now.items in
    let id = c.args.id in
    let has = subst (λ es. Has es id (λ from. may_turn from c.args.control.now)) c.deref.ensures.value c.in_ok-granted.ensures.granted in
    let wrote = c.write_turned.ensures in
    let asked = c.is_lost-lost.ensures in
    refused_write g.S.Store Book fault.Device IsBook HoldsBook holding _ _ c.args.conn.now c.write_turned.new.conn c.is_lost-lost.new.conn _
    c.is_lost-lost.result c.book_fault.result _ (g.met.S.Store.settled c.args.conn.now.store)
    (λ _ stood db commits. commits (record { entries = items; last_id = c.args.last_id }) c.requires.sound (granted_there items id _ has) stood)
    wrote.survives
    c.in-Err.ensures.err c.in-Err.ensures.refused asked.survives asked.idle asked.same asked.serves asked.lost c.book_fault.ensures.stopped
    (λ serves told. absurd (let is = c.book_fault.ensures.serves serves in cc))

pub returns-clause-written : goal.returns-clause-written
returns-clause-written g c =
    was_written g.S.Store Book fault.Device IsBook HoldsBook holding _ _ _ c.args.conn.now c.write_turned.new.conn _ _
    (g.met.S.Store.settled c.write_turned.new.conn.store) (λ _. entries_are g c) c.write_turned.ensures.idle c.write_turned.ensures.survives
    (λ clean _ stood. written g c clean stood)
