-- Scripts that are read as they run.
use Rattle.std.proofs.Common.{◌≡◌, ℕ, ◌+◌, ◌<◌, ◌≤◌, List, [], ◌∷◌, ◌++◌, length, map, take, drop, get_or, Option, Some, None, Err, inl, inr, refl, sym, ◌∙◌, ap, append-nil, take-append-drop, arith}
use Rattle.std.proofs.lemmas.Bool.{cases_lt}
use Rattle.std.proofs.lemmas.List.{drop_all, drop_more}
use Rattle.std.specs.Io.KnownBytes.{Appends}
use Rattle.std.proofs.KnownBytes.{Appends-trans}
use Rattle.dnp_daemons.specs.declared.script.ScriptLine.{ScriptLine}
use Rattle.dnp_daemons.specs.declared.run.ScriptStop.{ScriptStop}
use Rattle.dnp_daemons.specs.declared.run.ScriptStop.TheVariants as stop
use Rattle.dnp_daemons.specs.Scripted.{Law}
use Rattle.dnp_daemons.specs.ScriptRuns.{Does, DoesAll, ScriptEndsBy}
use Rattle.dnp_daemons.specs.steps.Readings.{TextEndsBy}
use Rattle.dnp_daemons.proofs.ScriptRunning.{does_next}

-- the next line of a text, which says the next line of its script
pub record IsNext (r : List ℕ → Option ScriptLine) (script : List ScriptLine) (done : ℕ) (more : List (List ℕ)) (read : ScriptLine) : Type 0 where
  pub low : done < length script
  pub is : read ≡ get_or script done read
  pub left : map r more ≡ map Some (drop (done + 1) script)

pub next_said : (r : List ℕ → Option ScriptLine) (script : List ScriptLine) (done : ℕ) (line : List ℕ) (more : List (List ℕ)) (read : ScriptLine)
    → map r (line ∷ more) ≡ map Some (drop done script) → r line ≡ Some read → IsNext r script done more read
next_said r script done line more read e is = elim (cases_lt done (length script)) [
  | inl low ↦
      let at : r line ∷ map r more ≡ Some (get_or script done read) ∷ map Some (drop (done + 1) script) =
      e ∙ ap (map Some) (drop_more script done read low) in
      record { low = low; is = cc; left = cc }
  | inr past ↦
      let none : r line ∷ map r more ≡ [] = e ∙ ap (map Some) (drop_all done script past) in absurd (cc)
]

-- no line of a text that says a script is none
pub said_some : (r : List ℕ → Option ScriptLine) (line : List ℕ) (more : List (List ℕ)) (script : List ScriptLine)
    → map r (line ∷ more) ≡ map Some script → r line ≡ None → ⊥
said_some r line more [] e is = cc
said_some r line more (read ∷ script) e is = cc

pub no_text : (text : List ℕ) → length text ≡ 0 → text ≡ []
no_text [] e = refl
no_text (x ∷ text) e = absurd (omega arith)

-- at the end of a text all lines are done
none_left : (script : List ScriptLine) → [] ≡ map Some script → script ≡ []
none_left [] e = refl
none_left (read ∷ script) e = absurd (cc)

pub all_done : (script : List ScriptLine) (done : ℕ) → [] ≡ map Some (drop done script) → take done script ≡ script
all_done script done e =
    sym (append-nil (take done script)) ∙ ap (λ l. take done script ++ l) (sym (none_left (drop done script) e)) ∙ take-append-drop done script

-- how a script ends that stopped, or whose writer failed
pub ends_so : {State : Type 0} (law : Law State) (old : State) (script : List ScriptLine) (by : ScriptStop) (new : State) (held held' : Option (List ℕ))
    → ScriptEndsBy law old script (Err by) new held held' → TextEndsBy law old script (Err by) new held held'
ends_so law old script (stop.Stopped n) new held held' ends = ends
ends_so law old script stop.WriteFailed new held held' ends = ends
ends_so law old script (stop.Fault cause) new held held' ends = absurd ends

-- one line more is done
pub goes_on : {State : Type 0} (law : Law State) (r : List ℕ → Option ScriptLine) (lines : List ScriptLine) (done : ℕ) (line : List ℕ)
    (more : List (List ℕ)) (read : ScriptLine) (old mid new : State) (held held' held'' : Option (List ℕ)) (text part : List ℕ)
    → map r (line ∷ more) ≡ map Some (drop done lines) → r line ≡ Some read → DoesAll law old (take done lines) mid text → Appends held held' text
    → Does law mid read new part → Appends held' held'' part
    → (all : List ℕ) × DoesAll law old (take (done + 1) lines) new all × Appends held held'' all
goes_on law r lines done line more read old mid new held held' held'' text part e is did wrote does wrote_part =
    let next = next_said r lines done line more read e is in (
      text ++ part,
      does_next law old lines done read mid new text part next.low next.is did does,
      Appends-trans held held' held'' text part wrote wrote_part,
    )
