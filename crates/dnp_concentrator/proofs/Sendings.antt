-- How often the OPERATE of a control is sent.
use Rattle.std.proofs.Common.{◌≡◌, ℕ, ◌≤◌, List, [], ◌∷◌, ◌++◌, refl, arith}
use Rattle.std.specs.Prelude.{count_by, cond}
use Rattle.std.proofs.lemmas.List.Sums.{sum_by-append, sum_by-cons}
use Rattle.dnp_controls.specs.Book.{Ledger}
use Rattle.dnp_controls.specs.Moves.{AreGranted, Move, after, is_spend_of, moved}
use Rattle.dnp_concentrator.specs.declared.relayed.Relayed.{Relayed}
use Rattle.dnp_concentrator.specs.declared.relayed.Relayed.TheVariants.{Nothing, Selecting, Sent, Finished}
use Rattle.dnp_concentrator.specs.Relayed.{IsRun, is_sent_of, moves_of, moves_through}

-- what is sent is spent
sent-spent : (id : ℕ) (answer : Relayed) → cond (is_sent_of id answer) 1 0 ≡ count_by (is_spend_of id) (moves_of answer)
sent-spent id Nothing = refl
sent-spent id (Selecting other request) = refl
sent-spent id (Sent other request) = omega arith
sent-spent id (Finished other status) = refl

pub sent-at_most_spent : (id : ℕ) (steps : List (List Move × Relayed))
    → count_by (λ step. is_sent_of id step.1) steps ≤ count_by (is_spend_of id) (moves_through steps)
sent-at_most_spent id [] = omega arith
sent-at_most_spent id (step ∷ steps) =
    let rest = sent-at_most_spent id steps in
    let here = sent-spent id step.1 in
    let f : Move → ℕ = λ m. cond (is_spend_of id m) 1 0 in
    omega (
      arith,
      rest,
      here,
      sum_by-cons (λ s. cond (is_sent_of id s.1) 1 0) step steps,
      sum_by-append f step.0 (moves_of step.1 ++ moves_through steps),
      sum_by-append f (moves_of step.1) (moves_through steps),
    )

-- ---- whole runs

granted-append : (book : Ledger) (xs ys : List Move) → AreGranted book xs → AreGranted (after book xs) ys → AreGranted book (xs ++ ys)
granted-append book [] ys first then = then
granted-append book (x ∷ xs) ys first then = (first.0, granted-append (moved book x) xs ys first.1 then)

pub run_granted : (book : Ledger) (steps : List (List Move × Relayed)) → IsRun book steps → AreGranted book (moves_through steps)
run_granted book [] run = tt
run_granted book (step ∷ steps) run =
    granted-append book step.0 (moves_of step.1 ++ moves_through steps) run.0
    (granted-append (after book step.0) (moves_of step.1) (moves_through steps) run.1
    (run_granted (after (after book step.0) (moves_of step.1)) steps run.2))
