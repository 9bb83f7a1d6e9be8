-- The controls in progress and the books, where one of them is another: they stay in step.
use Rattle.std.proofs.Common.{◌≡◌, ℕ, zero, suc, ◌==◌, Bool, true, false, List, [], ◌∷◌, Option, Some, None, IfSome, refl}
use Rattle.std.specs.Prelude.{if◌then◌else◌, slice_set}
use Rattle.std.specs.List.{All}
use Rattle.std.proofs.lemmas.Bool.{eqb-false}
use Rattle.dnp_controls.specs.Book.{Ledger, IsSoundLedger, entry_of}
use Rattle.dnp_controls.specs.declared.book.Entry.{Entry}
use Rattle.dnp_concentrator.specs.Below.{link_in}
use Rattle.dnp_concentrator.specs.Relaying.{Relaying, heard, progress_heard, status_of}
use Rattle.dnp_concentrator.specs.declared.progress.Progress.{Progress}
use Rattle.dnp_concentrator.specs.declared.progress.Stage.{Stage}
use Rattle.dnp_concentrator.specs.declared.progress.Stage.TheVariants.{Selecting, Selected, Operating, Known}
use Rattle.dnp_master.specs.declared.outcome.Outcome.{Outcome}
use Rattle.dnp_objects.specs.Status.{success}
use Rattle.dnp_world.specs.ControlsInStep.{GoesWith, InStep, IsOfEntry, IsUnspent}
use Rattle.dnp_world.specs.Systems.{System}
use Rattle.dnp_world.proofs.RelayWidths.{FitsEntry}
use Rattle.dnp_world.proofs.StepBooks.{Carries, carried}
use Rattle.dnp_world.proofs.Touches.{Ends, Use, LinkOpens, LinkHangsUp, LinkAsks, LinkHears, LinkTicks, after_use, ends_of}

-- ---- a system without its lines

pub record AreInStep (e : Ends) : Type 0 where
  pub below : (substation : ℕ) → IfSome (link_in e.links substation).progress (GoesWith e.controls substation)
  pub above : IfSome e.centre.progress (GoesWith e.orders 0)
  pub controls : IsSoundLedger e.controls
  pub orders : IsSoundLedger e.orders
  pub widths : All FitsEntry e.orders.entries

pub ends_in_step : (s : System) → InStep s → AreInStep (ends_of s)
ends_in_step s h = record { below = h.below; above = h.above; controls = h.controls; orders = h.orders; widths = h.widths }

pub system_in_step : (s : System) → AreInStep (ends_of s) → InStep s
system_in_step s h = record { below = h.below; above = h.above; controls = h.controls; orders = h.orders; widths = h.widths }

set_all : (P : ℕ → Relaying → Type 0) (links : List Relaying) (substation : ℕ) (r : Relaying) → P substation r → ((i : ℕ) → P i (link_in links i))
    → (i : ℕ) → P i (link_in (slice_set links substation r) i)
set_all P [] substation r here all i = all i
set_all P (x ∷ links) zero r here all zero = here
set_all P (x ∷ links) zero r here all (suc i) = all (suc i)
set_all P (x ∷ links) (suc substation) r here all zero = all zero
set_all P (x ∷ links) (suc substation) r here all (suc i) = set_all (λ (n : ℕ) (y : Relaying). P (suc n) y) links substation r here (λ n. all (suc n)) i

-- the control in progress over a link, and a book that carries the old one
pub link_changes : (e : Ends) (substation : ℕ) (r : Relaying) (book : Ledger) → Carries e.controls book → IfSome r.progress (GoesWith book substation)
    → AreInStep e → AreInStep (record e { links = slice_set e.links substation r; controls = book })
link_changes e substation r book carries here h = record {
  below = set_all (λ (i : ℕ) (x : Relaying). IfSome x.progress (GoesWith book i)) e.links substation r here
      (λ i. carried e.controls book i (link_in e.links i).progress carries (h.below i));
  above = h.above;
  controls = carries.sound h.controls;
  orders = h.orders;
  widths = h.widths;
}

-- the one above, and the centre's book
pub centre_changes : (e : Ends) (r : Relaying) (book : Ledger) → IfSome r.progress (GoesWith book 0) → IsSoundLedger book → All FitsEntry book.entries
    → AreInStep e → AreInStep (record e { centre = r; orders = book })
centre_changes e r book above sound widths h =
    record { below = h.below; above = above; controls = h.controls; orders = sound; widths = widths }

-- ---- masters

-- an answer to a SELECT spends nothing
heard_unspent : (stage : Stage) (outcome : Outcome) → IsUnspent stage → IsUnspent (heard stage outcome)
heard_unspent Selecting outcome unspent = by (status_of outcome == success) refl
  where
    by : (b : Bool) → (status_of outcome == success) ≡ b → IsUnspent (if b then Selected else Known (status_of outcome))
    by true e = tt
    by false e = eqb-false (status_of outcome) 0 e
heard_unspent Selected outcome unspent = tt
heard_unspent Operating outcome unspent = absurd unspent
heard_unspent (Known status) outcome unspent = unspent

-- an outcome changes how far a control is
heard_goes : (book : Ledger) (target : ℕ) (o : Option Progress) (outcome : Option Outcome) → IfSome o (GoesWith book target)
    → IfSome (progress_heard o outcome) (GoesWith book target)
heard_goes book target None outcome h = h
heard_goes book target (Some p) None h = h
heard_goes book target (Some p) (Some outcome) h = record { given = h.given; entry = by (entry_of book.entries p.id) h.entry; widths = h.widths }
  where
    by : (o : Option Entry) → IfSome o (IsOfEntry target p) → IfSome o (IsOfEntry target (record p { stage = heard p.stage outcome }))
    by None k = tt
    by (Some e) k = (k.0, k.1, λ pending. heard_unspent p.stage outcome (k.2 pending))

-- a call of a master that takes no step of relaying
pub use_goes : (book : Ledger) (target : ℕ) (r : Relaying) (call : Use r) → IfSome r.progress (GoesWith book target)
    → IfSome (after_use r call).progress (GoesWith book target)
use_goes book target r LinkOpens h = tt
use_goes book target r LinkHangsUp h = tt
use_goes book target r (LinkAsks now task) h = h
use_goes book target r (LinkHears now fragment t is) h = heard_goes book target r.progress t.outcome h
use_goes book target r (LinkTicks now) h = h
