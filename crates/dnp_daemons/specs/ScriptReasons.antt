-- Definition: where a line of a script stops fitting.
use Rattle.std.specs.Prelude.{◌≡◌, ℕ, suc, ◌-◌, ◌<◌, ◌≤◌, Bool, true, false, List, [], ◌++◌, length, take, slice_index_or, Option, Some, IsSome}
use Rattle.dnp_daemons.specs.declared.script.ScriptLine.{ScriptLine}
use Rattle.dnp_daemons.specs.ScriptLines.{if_lossless, line_named, first_unread}
use Rattle.dnp_daemons.specs.Words.{lines_of, words_of}

-- what words say, where they are a line that fits
abbrev pub WordReader : Type 0
WordReader = List (List ℕ) → Option ScriptLine

-- what words say for a plan of so many substations, where units are carried and where they are not
abbrev pub words_by : Bool → ℕ → WordReader
words_by true substations words = if_lossless (line_named substations words)
words_by false substations words = line_named substations words

-- the words are the beginning of a line that fits
abbrev pub BeginLine : WordReader → List (List ℕ) → Type 0
BeginLine reads words = (more : List (List ℕ)) × IsSome (reads (words ++ more))

-- so many of a line's words begin a line that fits; with the next one they don't, or there is none
pub record StopBehind (reads : WordReader) (words : List (List ℕ)) (good : ℕ) : Type 0 where
  pub within : good ≤ length words
  pub begin : BeginLine reads (take good words)
  pub stop : good < length words → BeginLine reads (take (suc good) words) → ⊥

-- this line of the text, counted from 1, is the first that doesn't fit, and it stops fitting after so many words
pub record StopsAt (carried : Bool) (substations : ℕ) (text : List ℕ) (line good : ℕ) : Type 0 where
  pub first : first_unread (λ l. words_by carried substations (words_of l)) (lines_of text) ≡ Some line
  pub words : StopBehind (words_by carried substations) (words_of (slice_index_or (lines_of text) (line - 1) [])) good
