-- Outputs in which a point is reserved while a call lasts: what the call leaves of them.
use Rattle.std.proofs.Common.{◌≡◌, inl, inr, Bool, true, List, Result, Ok, Err, refl, ap, ◌∙◌, sym, subst}
use Rattle.std.specs.Prelude.{OnErr, OnOk}
use Rattle.dnp_controls.specs.Book.{Ledger}
use Rattle.dnp_objects.specs.declared.command.Command.{Command}
use Rattle.dnp_outstation.specs.Stores.{HaveDoneNothing, KeepsOutputs}
use Rattle.dnp_concentrator.specs.Reserving.{Reserved}
use Rattle.dnp_concentrator.specs.BookOutputs.{Exhausts, IsWell, Performs, book_in, book_panel, map_in, panel_of, reserved_in, with_reserved}
use Rattle.dnp_concentrator.specs.declared.book_outputs.BookOutputs.{BookOutputs}
use Rattle.dnp_concentrator.specs.declared.span.Spans.{Spans}

on_ok : {A E P Q : Type 0} (r : Result A E) → (P → Q) → OnOk r P → OnOk r Q
on_ok (Ok x) f p = f p
on_ok (Err e) f p = tt {0}

on_err : {A E P Q : Type 0} (r : Result A E) → (P → Q) → OnErr r P → OnErr r Q
on_err (Ok x) f p = tt {0}
on_err (Err e) f p = f p

-- what nothing was done to while a point was reserved is as before once that is forgotten
undone : {B : Type 0} (contents : B → Ledger) (old after : BookOutputs B) (reserved : Reserved)
    → HaveDoneNothing (Performs contents) (with_reserved old reserved) after
    → HaveDoneNothing (Performs contents) old (with_reserved after (reserved_in old))
undone contents old after reserved (inl same) = inl (ap (λ o. with_reserved o (reserved_in old)) same)
undone contents old after reserved (inr p) = inr (p.0, p.1, refl)

-- and shows the same
shows_same : {B : Type 0} (contents : B → Ledger) (old new : BookOutputs B) → HaveDoneNothing (Performs contents) old new
    → panel_of contents new ≡ panel_of contents old
shows_same contents old new (inl same) = ap (λ o. panel_of contents o) same
shows_same contents old new (inr p) =
    ap (λ (spans : List Spans). book_panel spans (reserved_in new) (contents (book_in new))) p.0
    ∙ ap (λ (reserved : Reserved). book_panel (map_in old) reserved (contents (book_in new))) p.2
    ∙ ap (λ (ledger : Ledger). book_panel (map_in old) (reserved_in old) ledger) p.1

-- a call that keeps the outputs while a point is reserved keeps them
pub reserved_kept : {B Answer Fault : Type 0} (honest : B → Type 0) (is_stopped : B → Bool) (contents : B → Ledger) (no_numbers device : Fault)
    (old lent after new : BookOutputs B) (reserved : Reserved) (commands : List Command) (answer : Result Answer Fault)
    → lent ≡ with_reserved old reserved → new ≡ with_reserved after (reserved_in old)
    → KeepsOutputs (IsWell honest is_stopped) (λ o. is_stopped (book_in o)) (panel_of contents) (Performs contents) (Exhausts contents)
    true no_numbers device commands lent after answer
    → KeepsOutputs (IsWell honest is_stopped) (λ o. is_stopped (book_in o)) (panel_of contents) (Performs contents) (Exhausts contents)
    true no_numbers device commands old new answer
reserved_kept honest is_stopped contents no_numbers device old lent after new reserved commands answer was is k =
    subst (λ o. KeepsOutputs (IsWell honest is_stopped) (λ o. is_stopped (book_in o)) (panel_of contents) (Performs contents) (Exhausts contents)
    true no_numbers device commands old o answer) (sym is)
    (here (subst (λ o. KeepsOutputs (IsWell honest is_stopped) (λ o. is_stopped (book_in o)) (panel_of contents) (Performs contents) (Exhausts contents)
    true no_numbers device commands o after answer) was k))
  where
    here : KeepsOutputs (IsWell honest is_stopped) (λ o. is_stopped (book_in o)) (panel_of contents) (Performs contents) (Exhausts contents)
        true no_numbers device commands (with_reserved old reserved) after answer
        → KeepsOutputs (IsWell honest is_stopped) (λ o. is_stopped (book_in o)) (panel_of contents) (Performs contents) (Exhausts contents)
        true no_numbers device commands old (with_reserved after (reserved_in old)) answer
    here k = record {
      held = k.held;
      idle = λ none. ap (λ o. with_reserved o (reserved_in old)) (k.idle none);
      performed = λ well. on_ok answer (λ performs some. let p = performs some in (p.0, p.1, refl)) (k.performed well);
      unchanged = λ well. on_err answer
          (λ nothing. shows_same contents old (with_reserved after (reserved_in old)) (undone contents old after reserved nothing)) (k.undone well);
      undone = λ well. on_err answer (undone contents old after reserved) (k.undone well);
      may_exhaust = k.may_exhaust;
      exhausted = k.exhausted;
      not_exhausted = k.not_exhausted;
      runs_on = k.runs_on;
    }
