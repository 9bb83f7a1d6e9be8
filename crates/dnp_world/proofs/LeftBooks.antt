-- An event of the concentrator and the substations leaves the commands in the concentrator's book as they are, and the centre's book.
use Rattle.std.proofs.Common.{◌≡◌, true, map, None, refl, ap, ◌∙◌}
use Rattle.std.specs.List.{count_by}
use Rattle.dnp_controls.specs.declared.book.Entry.{Entry}
use Rattle.dnp_world.specs.BothSteady.{LeavesBooks}
use Rattle.dnp_world.specs.Centres.{centre_at}
use Rattle.dnp_world.specs.Kept.{order_of}
use Rattle.dnp_world.specs.SystemRuns.{Happens}
use Rattle.dnp_world.specs.Systems.{System}
use Rattle.dnp_world.specs.declared.event.Event.{Event}
use Rattle.dnp_world.proofs.EventTouches.{does, leaves_books}
use Rattle.dnp_world.proofs.RelayLinks.{book_same}
use Rattle.dnp_world.proofs.Touches.{AllHangUp, CentreRelays, Ends, Issues, LinkRelays, Performs, Used, after_used, ends_of, step_at}

same_map : (e : Ends) (used : Used e) → (after_used e used).indices ≡ e.indices
same_map e AllHangUp = refl
same_map e used = refl

-- a step of relaying says of an entry what becomes of it, and its command stays
same_controls : (e : Ends) (used : Used e) → leaves_books used ≡ true
    → map order_of (after_used e used).controls.entries ≡ map order_of e.controls.entries
same_controls e (LinkRelays substation now) leaves = book_same order_of (λ (x : Entry) state. refl) e.controls (step_at e substation)
same_controls e (Performs spans commands) leaves = absurd (cc)
same_controls e used leaves = refl

same_orders : (e : Ends) (used : Used e) → leaves_books used ≡ true → (after_used e used).orders.entries ≡ e.orders.entries
same_orders e (CentreRelays now) leaves = absurd (cc)
same_orders e (Issues substation command above is fits) leaves = absurd (cc)
same_orders e used leaves = refl

pub left_books : (old new : System) (e : Event) → centre_at e ≡ None → Happens old e new → LeavesBooks old new
left_books old new e none h =
    let d = does old new e h in
    let was : Ends = ends_of old in
    let leaves : leaves_books d.touched.used ≡ true = d.books none in
    record {
      indices = ap (λ (x : Ends). x.indices) d.touched.after ∙ same_map was d.touched.used;
      controls = record {
        same = λ test. ap (count_by test)
            (ap (λ (x : Ends). map order_of x.controls.entries) d.touched.after ∙ same_controls was d.touched.used leaves);
      };
      orders = ap (λ (x : Ends). x.orders.entries) d.touched.after ∙ same_orders was d.touched.used leaves;
    }
