-- Definition: the controls in progress over the links of a system go with the books that keep them, that of the concentrator below
-- and that of the centre above (own rule).
use Rattle.std.specs.Prelude.{◌≡◌, ◌≢◌, ℕ, ◌≤◌, true, All, IfSome, ⊤}
use Rattle.dnp_concentrator.specs.declared.progress.Progress.{Progress}
use Rattle.dnp_concentrator.specs.declared.progress.Stage.{Stage}
use Rattle.dnp_concentrator.specs.declared.progress.Stage.TheVariants.{Selecting, Selected, Operating, Known}
use Rattle.dnp_controls.specs.Book.{Ledger, IsSoundLedger, entry_of, is_pending}
use Rattle.dnp_controls.specs.declared.book.Entry.{Entry}
use Rattle.dnp_objects.specs.Status.{success}
use Rattle.dnp_world.specs.CommandWidths.{HasWidths}
use Rattle.dnp_world.specs.Systems.{System, link_at}

-- a stage of a control whose OPERATE wasn't asked, and, where what became of it is known, isn't to be
abbrev pub IsUnspent : Stage → Type 0
IsUnspent Selecting = ⊤
IsUnspent Selected = ⊤
IsUnspent Operating = ⊥
IsUnspent (Known status) = status ≢ success

-- the entry is for this target, and has this control's command; where it is pending, the control's OPERATE wasn't asked
abbrev pub IsOfEntry : ℕ → Progress → Entry → Type 0
IsOfEntry target p entry = (entry.target ≡ target) × (entry.command ≡ p.command) × (is_pending entry.state ≡ true → IsUnspent p.stage)

-- A control in progress towards a target goes with a book: its id was given out, where the book has an entry of it, that is for the
-- target, has the command, and is spent before its OPERATE is asked, and the command can be sent.
pub record GoesWith (book : Ledger) (target : ℕ) (p : Progress) : Type 0 where
  pub given : p.id ≤ book.last_id
  pub entry : IfSome (entry_of book.entries p.id) (IsOfEntry target p)
  pub widths : HasWidths p.command

-- Those below have the substations for targets, and the one above has 0. What is issued can be sent; so can what comes down to the
-- concentrator's book, where links of the law stand behind the system.
pub record InStep (s : System) : Type 0 where
  pub below : (substation : ℕ) → IfSome (link_at s.concentrator substation).progress (GoesWith s.concentrator.controls substation)
  pub above : IfSome s.centre.link.progress (GoesWith s.centre.orders 0)
  pub controls : IsSoundLedger s.concentrator.controls
  pub orders : IsSoundLedger s.centre.orders
  pub widths : All (λ entry. HasWidths entry.command) s.centre.orders.entries
