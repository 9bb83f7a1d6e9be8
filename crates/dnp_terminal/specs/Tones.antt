-- Definition: what stands before and after a text that is coloured (ECMA-48, select graphic rendition).
use Rattle.std.specs.Prelude.{ℕ, Bool, true, false, List, [], ◌∷◌, ◌++◌, Option, Some, None}
use Rattle.dnp_terminal.specs.declared.tone.Tone.{Tone}
use Rattle.dnp_terminal.specs.declared.tone.Tone.TheVariants as tone

-- ESC [ the numbers m
abbrev pub escape_of : Tone → List ℕ
escape_of tone.Plain = []
escape_of tone.Heading = 27 ∷ 91 ∷ 49 ∷ 109 ∷ []
escape_of tone.Good = 27 ∷ 91 ∷ 51 ∷ 50 ∷ 109 ∷ []
escape_of tone.Warning = 27 ∷ 91 ∷ 51 ∷ 51 ∷ 109 ∷ []
escape_of tone.Fault = 27 ∷ 91 ∷ 51 ∷ 49 ∷ 109 ∷ []
escape_of tone.Faint = 27 ∷ 91 ∷ 50 ∷ 109 ∷ []

-- all is as it was
abbrev pub reset : List ℕ
reset = 27 ∷ 91 ∷ 48 ∷ 109 ∷ []

-- what ends a tone: nothing where nothing began
abbrev pub closing_of : Tone → List ℕ
closing_of tone.Plain = []
closing_of tone.Heading = reset
closing_of tone.Good = reset
closing_of tone.Warning = reset
closing_of tone.Fault = reset
closing_of tone.Faint = reset

-- what is printed of a text, where it is known, at a screen with colours or without
abbrev pub painted : Bool → Tone → Option (List ℕ) → Option (List ℕ)
painted has_colours tone None = None
painted false tone (Some text) = Some text
painted true tone (Some text) = Some (escape_of tone ++ text ++ closing_of tone)
