-- Scripts that run line by line.
use Rattle.std.proofs.Common.{◌≡◌, ℕ, ◌+◌, ◌<◌, List, [], ◌∷◌, ◌++◌, length, take, get_or, slice_get, Option, Some, Result, Ok, Err, refl, sym, ap, ◌∙◌, subst, append_assoc, append-nil}
use Rattle.std.proofs.lemmas.List.{take_more}
use Rattle.std.proofs.lemmas.Option.{slice_get-get_or}
use Rattle.std.specs.Prelude.{⊤, OnOk, OnErr}
use Rattle.std.specs.Io.KnownBytes.{Appends}
use Rattle.std.proofs.KnownBytes.{Appends-trans}
use Rattle.dnp_daemons.specs.declared.script.ScriptLine.{ScriptLine}
use Rattle.dnp_daemons.specs.declared.run.ScriptStop.{ScriptStop}
use Rattle.dnp_daemons.specs.declared.run.ScriptStop.TheVariants as stop
use Rattle.dnp_streams.specs.declared.writing.NotWritten.{NotWritten}
use Rattle.dnp_daemons.specs.Scripted.{Law}
use Rattle.dnp_daemons.specs.ScriptRuns.{Does, DoesAll, StopsIn, StopsAt, IsCut, Done, Stopped, ScriptEndsBy}
use Rattle.dnp_daemons.specs.ScriptTexts.{stopped_line}
use Rattle.dnp_daemons.specs.steps.Lines.{LineEnds, line_result, SaysStopped}

-- a line that was done, and whose outcome was printed or cut off
pub line_ends : {State : Type 0} (law : Law State) (old : State) (line : ScriptLine) (new : State) (held held' : Option (List ℕ)) (text : List ℕ)
    → Does law old line new text → (written : Result ⊤ NotWritten) → OnOk written (Appends held held' text)
    → OnErr written ((part : List ℕ) × (rest : List ℕ) × (text ≡ part ++ rest) × Appends held held' part)
    → LineEnds law old line (line_result written) new held held'
line_ends law old line new held held' text does (Ok done) whole part = (text, does, whole)
line_ends law old line new held held' text does (Err fault) whole part =
    (part.0, part.1, subst (Does law old line new) part.2 does, part.3)

-- some lines, and one more
pub does_more : {State : Type 0} (law : Law State) (old : State) (lines : List ScriptLine) (mid : State) (line : ScriptLine) (new : State) (text more : List ℕ)
    → DoesAll law old lines mid text → Does law mid line new more → DoesAll law old (lines ++ line ∷ []) new (text ++ more)
does_more {State} law old [] mid line new text more did does = (
  new,
  more,
  [],
  subst (λ (s : State). Does law s line new more) did.0 does,
  (refl, refl),
  ap (λ (t : List ℕ). t ++ more) did.1 ∙ sym (append-nil more),
)
does_more law old (first ∷ lines) mid line new text more did does = (
  did.0,
  did.1,
  did.2 ++ more,
  did.3,
  does_more law did.0 lines mid line new did.2 more did.4 does,
  ap (λ (t : List ℕ). t ++ more) did.5 ∙ append_assoc did.1 did.2 more,
)

-- the next line of a script
next_lines : (script : List ScriptLine) (done : ℕ) (line : ScriptLine) → done < length script → line ≡ get_or script done line
    → take (done + 1) script ≡ take done script ++ line ∷ []
next_lines script done line low is =
    take_more script done line low ∙ ap (λ (l : ScriptLine). take done script ++ l ∷ []) (sym is)

pub does_next : {State : Type 0} (law : Law State) (old : State) (script : List ScriptLine) (done : ℕ) (line : ScriptLine) (mid new : State)
    (text more : List ℕ) → done < length script → line ≡ get_or script done line → DoesAll law old (take done script) mid text
    → Does law mid line new more → DoesAll law old (take (done + 1) script) new (text ++ more)
does_next law old script done line mid new text more low is did does =
    subst (λ (l : List ScriptLine). DoesAll law old l new (text ++ more)) (sym (next_lines script done line low is))
    (does_more law old (take done script) mid line new text more did does)

-- a line more was done, and the writer failed
pub cut_line : {State : Type 0} (law : Law State) (old : State) (script : List ScriptLine) (done : ℕ) (line : ScriptLine) (mid new : State)
    (held held' held'' : Option (List ℕ)) (text part rest : List ℕ) → done < length script → line ≡ get_or script done line
    → DoesAll law old (take done script) mid text → Appends held held' text → Does law mid line new (part ++ rest) → Appends held' held'' part
    → IsCut law old script new held held''
cut_line law old script done line mid new held held' held'' text part rest low is did wrote does more = record {
  written = text ++ part;
  unwritten = rest;
  reached = Done (done + 1)
      (subst (DoesAll law old (take (done + 1) script) new) (sym (append_assoc text part rest))
      (does_next law old script done line mid new text (part ++ rest) low is did does));
  appended = Appends-trans held held' held'' text part wrote more;
}

-- a line stopped, and that was printed or cut off
pub said_stopped : {State : Type 0} (law : Law State) (old : State) (script : List ScriptLine) (done : ℕ) (line : ScriptLine) (before new : State)
    (held held' held'' : Option (List ℕ)) (text : List ℕ) → done < length script → line ≡ get_or script done line
    → DoesAll law old (take done script) before text → Appends held held' text → StopsIn law before line new
    → (by : ScriptStop) → SaysStopped done by held' held'' → ScriptEndsBy law old script (Err by) new held held''
said_stopped law old script done line before new held held' held'' text low is did wrote stopped (stop.Stopped n) said =
    let at : StopsAt law old script done new (text ++ stopped_line done) = record {
      before = before;
      printed = text;
      did = did;
      line = line;
      next = slice_get-get_or script done line low ∙ ap Some (sym is);
      stopped = stopped;
      whole = refl;
    } in
    subst (λ (k : ℕ). ScriptEndsBy law old script (Err (stop.Stopped k)) new held held'') (sym said.0)
    (text ++ stopped_line done, at, Appends-trans held held' held'' text (stopped_line done) wrote said.1)
said_stopped law old script done line before new held held' held'' text low is did wrote stopped stop.WriteFailed said =
    let at : StopsAt law old script done new ((text ++ said.0) ++ said.1) = record {
      before = before;
      printed = text;
      did = did;
      line = line;
      next = slice_get-get_or script done line low ∙ ap Some (sym is);
      stopped = stopped;
      whole = append_assoc text said.0 said.1 ∙ ap (λ (t : List ℕ). text ++ t) (sym said.2);
    } in
    record {
      written = text ++ said.0;
      unwritten = said.1;
      reached = Stopped done at;
      appended = Appends-trans held held' held'' text said.0 wrote said.3;
    }
said_stopped law old script done line before new held held' held'' text low is did wrote stopped (stop.Fault cause) said = absurd said
