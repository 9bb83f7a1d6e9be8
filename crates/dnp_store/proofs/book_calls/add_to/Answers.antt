use Rattle.std.proofs.Common.{rules, ◌≡◌, ◌+◌, ◌∷◌, [], Err, List, ℕ, ap, subst, sym}
use Rattle.sqlite.specs.State.{HasCleanDisk}
use Rattle.sqlite.specs.Held.{state}
use Rattle.dnp_controls.specs.declared.book.Entry.{Entry}
use Rattle.dnp_controls.specs.declared.book.BookFault.TheVariants as fault
use Rattle.dnp_store.specs.BookTables.{HoldsBook, IsBook}
use Rattle.dnp_store.specs.declared.store_kind.StoreKind.TheVariants.{Book}
use Rattle.dnp_store.specs.steps.Writing.{IsWritten}
use Rattle.dnp_controls.specs.Book.{IsSoundLedger, Ledger, added}
use Rattle.dnp_controls.specs.Moves.{Add}
use Rattle.dnp_store.specs.BookKept.{IsPast, BookStands}
use Rattle.dnp_store.proofs.BookPlaces.{past_push}
use Rattle.dnp_store.proofs.BookStanding.{holding}
use Rattle.dnp_store.proofs.Writing.{refused_first, refused_write, was_written}
use Rattle.dnp_store.proofs.book_calls.add_to.Goals as goal

-- the entries afterwards
added_is : (g : _) (c : goal.After-push-room g)
    → added (record { entries = c.args.entries.now.items; last_id = c.args.last_id.now }) c.args.target c.args.command.now
    ≡ record { entries = c.push-room.new.self.items; last_id = c.args.last_id.now + 1 }
added_is g c =
    let items : c.push-room.new.self.items
    ≡ (added (record { entries = c.args.entries.now.items; last_id = c.args.last_id.now }) c.args.target c.args.command.now).entries = search rules in
    ap (λ es. record { entries = es; last_id = c.args.last_id.now + 1 }) (sym items)

written : (g : _) (c : goal.After-push-room g) → HasCleanDisk (state g.S.Store c.write_added.new.conn)
    → BookStands (state g.S.Store c.args.conn.now) (record { entries = c.args.entries.now.items; last_id = c.args.last_id.now })
    → BookStands (state g.S.Store c.write_added.new.conn) (added (record { entries = c.args.entries.now.items; last_id = c.args.last_id.now }) c.args.target
    c.args.command.now)
written g c clean stood = c.in_default.ensures.ok clean (record { entries = c.args.entries.now.items; last_id = c.args.last_id.now }) c.requires.sound stood

pub returns-clause-added : goal.returns-clause-added
returns-clause-added g c = sym (added_is g c)

pub returns-clause-sound : goal.returns-clause-sound
returns-clause-sound g c =
    subst IsSoundLedger (added_is g c) (c.ids_go_on.ensures.sound (record { entries = c.args.entries.now.items; last_id = c.args.last_id.now })
    (Add c.args.target c.args.command.now ∷ []) c.requires.sound)

pub returns-clause-past : goal.returns-clause-past
returns-clause-past g c first past =
    subst (λ (b : Ledger). IsPast b.entries first) (added_is g c) (past_push c.args.entries.now.items first _ past)

-- a call that refuses, also where the entries have made room
pub returns-then-last-ge-MAX_ID-clause-written : goal.returns-then-last-ge-MAX_ID-clause-written
returns-then-last-ge-MAX_ID-clause-written g c =
    refused_first g.S.Store Book fault.Device IsBook HoldsBook holding _ _ c.args.conn.now _ (λ e. absurd cc) (g.met.S.Store.settled c.args.conn.now.store)
    c.requires.idle

pub returns-then-is_err-clause-written : goal.returns-then-is_err-clause-written
returns-then-is_err-clause-written g c =
    let book : Ledger = record { entries = c.args.entries.now.items; last_id = c.args.last_id.now } in
    let same : c.args.entries.now.items ≡ c.reserve.new.self.items = search rules in
    subst (λ (es : List Entry). IsWritten {A = ℕ} {I = Unit {0}} g.S.Store Book fault.Device IsBook HoldsBook (λ _. book)
    (λ _. added book c.args.target c.args.command.now) (λ _. record { entries = es; last_id = c.args.last_id.now }) c.args.conn.now c.args.conn.now
    (Err fault.Memory)) same
    (refused_first g.S.Store Book fault.Device IsBook HoldsBook holding _ _ c.args.conn.now _ (λ e. absurd cc) (g.met.S.Store.settled c.args.conn.now.store)
    c.requires.idle)

pub returns-in-Err-clause-written : goal.returns-in-Err-clause-written
returns-in-Err-clause-written g c =
    let book : Ledger = record { entries = c.args.entries.now.items; last_id = c.args.last_id.now } in
    let wrote = c.write_added.ensures in
    let asked = c.is_lost-lost.ensures in
    let same : c.args.entries.now.items ≡ c.reserve.new.self.items = search rules in
    subst (λ (es : List Entry). IsWritten {A = ℕ} {I = Unit {0}} g.S.Store Book fault.Device IsBook HoldsBook (λ _. book)
    (λ _. added book c.args.target c.args.command.now) (λ _. record { entries = es; last_id = c.args.last_id.now }) c.args.conn.now
    c.is_lost-lost.new.conn (Err c.book_fault.result)) same
    (refused_write g.S.Store Book fault.Device IsBook HoldsBook holding _ _ c.args.conn.now c.write_added.new.conn c.is_lost-lost.new.conn _
    c.is_lost-lost.result c.book_fault.result _ (g.met.S.Store.settled c.args.conn.now.store) (λ _ stood db commits. commits book c.requires.sound stood)
    wrote.survives c.in-Err.ensures.err c.in-Err.ensures.refused asked.survives asked.idle asked.same asked.serves asked.lost c.book_fault.ensures.stopped
    (λ serves told. absurd (let is = c.book_fault.ensures.serves serves in cc)))

pub returns-clause-written : goal.returns-clause-written
returns-clause-written g c =
    was_written g.S.Store Book fault.Device IsBook HoldsBook holding _ _ _ c.args.conn.now c.write_added.new.conn _ _
    (g.met.S.Store.settled c.write_added.new.conn.store) (λ _. added_is g c) c.write_added.ensures.idle c.write_added.ensures.survives
    (λ clean _ stood. written g c clean stood)

-- room was made at most: the entries are those before
pub returns-then-is_err-clause-sound : goal.returns-then-is_err-clause-sound
returns-then-is_err-clause-sound g c =
    let same : c.args.entries.now.items ≡ c.reserve.new.self.items = search rules in
    subst (λ (es : List Entry). IsSoundLedger (record { entries = es; last_id = c.args.last_id.now })) same c.requires.sound

pub returns-then-is_err-clause-past : goal.returns-then-is_err-clause-past
returns-then-is_err-clause-past g c first past =
    let same : c.args.entries.now.items ≡ c.reserve.new.self.items = search rules in subst (λ (es : List Entry). IsPast es first) same past

pub returns-in-Err-clause-sound : goal.returns-in-Err-clause-sound
returns-in-Err-clause-sound g c =
    let same : c.args.entries.now.items ≡ c.reserve.new.self.items = search rules in
    subst (λ (es : List Entry). IsSoundLedger (record { entries = es; last_id = c.args.last_id.now })) same c.requires.sound

pub returns-in-Err-clause-past : goal.returns-in-Err-clause-past
returns-in-Err-clause-past g c first past =
    let same : c.args.entries.now.items ≡ c.reserve.new.self.items = search rules in subst (λ (es : List Entry). IsPast es first) same past
