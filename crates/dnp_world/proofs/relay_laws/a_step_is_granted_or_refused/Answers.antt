-- Of an entry that is there, a test and its opposite pass just once.
use Rattle.std.proofs.Common.{◌≡◌, Bool, true, false, List, ◌⊎◌, inl, inr, Option, Some, None, refl, sym, ap, ◌∙◌}
use Rattle.std.proofs.Math.Bool.{not-not}
use Rattle.std.proofs.lemmas.Bool.{both_ways, not-true}
use Rattle.std.specs.Option.{IsSomeAnd}
use Rattle.std.specs.Prelude.{IsTrue, not}
use Rattle.dnp_concentrator.specs.Relaying.{Step, Waits, Selects, Operates, Finishes}
use Rattle.dnp_controls.specs.Book.{entry_of, is_finished, is_pending}
use Rattle.dnp_controls.specs.declared.book.Entry.{Entry}
use Rattle.dnp_controls.specs.declared.book.State.{State}
use Rattle.dnp_world.specs.SystemEvents.{IsGranted, IsRefused}
use Rattle.dnp_world.proofs.relay_laws.a_step_is_granted_or_refused.Goals as goal

-- the entry is there and passes, and the book refuses what is missing or passes the other test
abbrev Passes : Option Entry → (State → Bool) → Type 0
Passes found test = IsSomeAnd found (λ entry. IsTrue (test entry.state))

abbrev Fails : Option Entry → (State → Bool) → Type 0
Fails found test = (found ≡ None) ⊎ Passes found test

once : (found : Option Entry) (test other : State → Bool) → ((state : State) → other state ≡ not (test state))
    → (Passes found test → Fails found other → ⊥) × ((Fails found other → ⊥) → Passes found test)
once None test other opposite = (λ passes fails. passes, λ never. absurd (never (inl refl)))
once (Some entry) test other opposite = (apart, one_of (test entry.state) refl)
  where
    apart : Passes (Some entry) test → Fails (Some entry) other → ⊥
    apart passes (inl missing) = absurd (cc)
    apart passes (inr passed) = both_ways (test entry.state) (not-true (test entry.state) (sym (opposite entry.state) ∙ passed)) passes

    one_of : (b : Bool) → test entry.state ≡ b → (Fails (Some entry) other → ⊥) → IsTrue (test entry.state)
    one_of true is never = is
    one_of false is never = absurd (never (inr (opposite entry.state ∙ ap not is)))

twice : (state : State) → is_finished state ≡ not (not (is_finished state))
twice state = sym (not-not (is_finished state))

both : (entries : List Entry) (step : Step) → (IsGranted entries step → IsRefused entries step → ⊥) × ((IsRefused entries step → ⊥) → IsGranted entries step)
both entries Waits = (λ granted refused. refused, λ never. tt)
both entries (Selects id command) = (λ granted refused. refused, λ never. tt)
both entries (Operates id command) = once (entry_of entries id) is_pending (λ state. not (is_pending state)) (λ state. refl)
both entries (Finishes id status) = once (entry_of entries id) (λ state. not (is_finished state)) is_finished twice

pub returns : goal.returns
returns c = both
