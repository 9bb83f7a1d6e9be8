-- A query inside a transaction commits nothing, and the transaction goes on.
use Rattle.std.proofs.Common.{◌⊎◌, inl, inr, List, ℕ, cond, Option, None, Some, Ok, Err, Result, IsTrue, IfOk, IfErr, OnOk, ap, ◌∙◌}
use Rattle.std.specs.Prelude.{Vec}
use Rattle.std.specs.declared.alloc.Global.{Global}
use Rattle.sqlite_resolve.specs.declared.compiled.Compiled.{Compiled}
use Rattle.sqlite_schema.specs.declared.command.Returning.{Returning}
use Rattle.sqlite.specs.Order.{Row}
use Rattle.sqlite.specs.Clock.{timed}
use Rattle.sqlite.specs.declared.error.Error.{Error}
use Rattle.sqlite.specs.State.{State, Shown, ShowsRows, KeepsCommit, FailsToQuery, IsTooLate, IsNotRun, IsStatement, RunsCommand, FailsToShow}
use Rattle.sqlite.proofs.InsideLemmas.{unchanged_keeps}

-- the transaction was open and goes on, and the last commit stays
pub record GoesOn (old new : State) : Type 0 where
  pub was_open : IsTrue old.is_open
  pub inside : IsTrue new.in_transaction
  pub kept : KeepsCommit old new

pub shown_goes_on : (sql : List ℕ) (ps : Row) (old new : State) (rows : List Row) → IsTrue old.in_transaction → Shown sql ps old new rows → GoesOn old new
unfolding Shown
shown_goes_on sql ps old new rows inside h = go h.0.returning h.2
  where
    go : (r : Option Returning) → ShowsRows old new sql h.0 (timed ps h.0.formats h.1.now) rows r → GoesOn old new
    go None it = record { was_open = it.3.0.was_open; inside = it.3.0.mode ∙ inside; kept = unchanged_keeps old new (inl it.3) }
    go (Some what) it = record {
      was_open = it.1.shown.was_open;
      inside = it.1.shown.mode ∙ inside;
      kept = record {
        was_open = λ _. it.1.shown.was_open;
        committed = λ _. it.1.shown.committed_is ∙ ap (λ b. cond b old.committed new.now) inside;
      };
    }

pub failed_keeps : (old new : State) (sql : List ℕ) (ps : Row) (e : Error) → FailsToQuery sql ps old new e ⊎ IsTooLate sql ps old new e → KeepsCommit old new
unfolding FailsToQuery IsNotRun
failed_keeps old new sql ps e (inl (inl (inl refused))) = unchanged_keeps old new (inl refused.1)
failed_keeps old new sql ps e (inl (inl (inr fails))) = unchanged_keeps old new (inr fails.3)
failed_keeps old new sql ps e (inl (inr it)) = shown_fails it.0 it.1 it.0.returning it.2
  where
    command_fails : (c : Compiled) (full : Row) → RunsCommand old new sql c full (Err e) → KeepsCommit old new
    command_fails c full (inl refused) = unchanged_keeps old new (inl refused.1)
    command_fails c full (inr fails) = unchanged_keeps old new (inr fails.3)

    shown_fails : (c : Compiled) (s : IsStatement old sql ps c) (r : Option Returning) → FailsToShow old new sql c (timed ps c.formats s.now) e r
        → KeepsCommit old new
    shown_fails c s None h = unchanged_keeps old new (inl h.3)
    shown_fails c s (Some _) h = command_fails c _ h
failed_keeps old new sql ps e (inr late) = unchanged_keeps old new (inl late.5)

module _ (old new : State) (sql : List ℕ) (ps : Row) (inside : IsTrue old.in_transaction) where
  pub was_open : (r : Result (Vec Row Global) Error) → IfOk r (λ rows. Shown sql ps old new rows.items) → OnOk r (IsTrue old.is_open)
  was_open (Ok rows) h = (shown_goes_on sql ps old new rows.items inside h).was_open
  was_open (Err e) h = tt

  pub is_inside : (r : Result (Vec Row Global) Error) → IfOk r (λ rows. Shown sql ps old new rows.items) → OnOk r (IsTrue new.in_transaction)
  is_inside (Ok rows) h = (shown_goes_on sql ps old new rows.items inside h).inside
  is_inside (Err e) h = tt

  pub keeps : (r : Result (Vec Row Global) Error) → IfOk r (λ rows. Shown sql ps old new rows.items)
      → IfErr r (λ e. FailsToQuery sql ps old new e ⊎ IsTooLate sql ps old new e) → KeepsCommit old new
  keeps (Ok rows) h k = (shown_goes_on sql ps old new rows.items inside h).kept
  keeps (Err e) h k = failed_keeps old new sql ps e k
