-- One line more is written, and then whatever the lines to come are.
use Rattle.std.proofs.Common.{◌≡◌, ℕ, suc, ◌+◌, ◌<◌, ◌≤◌, Bool, List, [], ◌∷◌, ◌++◌, length, drop, get_or, refl, sym, ◌∙◌, ap, subst, append_assoc, append-nil, drop-cons, length-drop, arith}
use Rattle.std.proofs.lemmas.List.{drop_all}
use Rattle.dnp_trace.specs.declared.noted.Step.{Step}
use Rattle.dnp_trace.specs.Logs.{Sent}
use Rattle.dnp_trace.specs.Traces.{IsStepText, AreTraceLines, Ends, GoesOn}
use Rattle.dnp_trace.specs.ReportJsons as json
use Rattle.dnp_trace.specs.ReportJsons.{AreLinesJson, IsReportJson, line_json, kind_of, first_line, first_word, lines_below, empty_after}

pub trace_more : (units : List Sent) (steps : List Step) (i : ℕ) (d happened : Step) (so_far after text : List ℕ)
    → i < length steps → happened ≡ get_or steps i d → IsStepText units happened text → after ≡ so_far ++ text
    → ((more : List ℕ) → AreTraceLines units (drop i steps) more → AreTraceLines units steps (so_far ++ more))
    → (more : List ℕ) → AreTraceLines units (drop (i + 1) steps) more → AreTraceLines units steps (after ++ more)
trace_more units steps i d happened so_far after text short here is e before more rest =
    let next : suc i ≡ i + 1 = omega arith in
    let front : drop i steps ≡ happened ∷ drop (i + 1) steps =
    drop-cons steps i d short ∙ ap (λ (k : ℕ). get_or steps i d ∷ drop k steps) next
    ∙ ap (λ (s : Step). s ∷ drop (i + 1) steps) (sym here) in
    subst (λ (out : List ℕ). AreTraceLines units steps out) (sym (ap (λ (a : List ℕ). a ++ more) e ∙ append_assoc so_far text more))
    (before (text ++ more) (subst (λ (ss : List Step). AreTraceLines units ss (text ++ more)) (sym front) (GoesOn happened (drop (i + 1) steps) text more is rest)))

-- after the last step
pub trace_all : (units : List Sent) (steps : List Step) (i : ℕ) (so_far : List ℕ) → length steps ≤ i
    → ((more : List ℕ) → AreTraceLines units (drop i steps) more → AreTraceLines units steps (so_far ++ more)) → AreTraceLines units steps so_far
trace_all units steps i so_far past before =
    let none : drop i steps ≡ [] = drop_all i steps past in
    subst (λ (out : List ℕ). AreTraceLines units steps out) (append-nil so_far)
    (before [] (subst (λ (ss : List Step). AreTraceLines units ss []) (sym none) Ends))

pub json_more : (text rest : List ℕ) (empty : Bool) (so_far after : List ℕ) → 0 < length rest
    → after ≡ so_far ++ line_json (kind_of (first_word (first_line rest))) empty (first_line rest)
    → ((more : List ℕ) → AreLinesJson rest empty more → IsReportJson text (so_far ++ more))
    → (more : List ℕ) → AreLinesJson (lines_below rest) (empty_after (kind_of (first_word (first_line rest))) empty) more → IsReportJson text (after ++ more)
json_more text rest empty so_far after some e before more below =
    let line : List ℕ = line_json (kind_of (first_word (first_line rest))) empty (first_line rest) in
    subst (λ (out : List ℕ). IsReportJson text out) (sym (ap (λ (a : List ℕ). a ++ more) e ∙ append_assoc so_far line more))
    (before (line ++ more) (json.GoesOn rest empty more some below))

-- after the last line: the object ends
pub json_all : (text rest : List ℕ) (empty : Bool) (so_far out : List ℕ) → length rest ≡ 0 → out ≡ so_far ++ 10 ∷ 125 ∷ 10 ∷ []
    → ((more : List ℕ) → AreLinesJson rest empty more → IsReportJson text (so_far ++ more)) → IsReportJson text out
json_all text [] empty so_far out none e before = subst (λ (o : List ℕ). IsReportJson text o) (sym e) (before (10 ∷ 125 ∷ 10 ∷ []) (json.Ends empty))
json_all text (x ∷ rest) empty so_far out none e before = absurd (omega arith)

-- the first line isn't there any more
pub shorter : (rest : List ℕ) → 0 < length rest → length (lines_below rest) < length rest
shorter rest some = omega (arith, length-drop {A = ℕ})
