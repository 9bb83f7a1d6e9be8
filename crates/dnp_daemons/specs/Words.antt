-- Definition: the lines of a text, and the words of a line.
use Rattle.std.specs.Prelude.{ℕ, ◌==◌, if◌then◌else◌, List, [], ◌∷◌, length}
use Rattle.std.specs.List.{slice_split}

-- all but an empty part at the end
abbrev pub without_empty_end : List (List ℕ) → List (List ℕ)
without_empty_end [] = []
without_empty_end (part ∷ []) = if length part == 0 then [] else part ∷ []
without_empty_end (part ∷ next ∷ parts) = part ∷ without_empty_end (next ∷ parts)

-- lines end in a line feed, 10, which the last may lack
abbrev pub lines_of : List ℕ → List (List ℕ)
lines_of text = without_empty_end (slice_split (λ c. c == 10) text)

-- words stand between single spaces, 32; where there are two, or one at an end, an empty one stands beside them
abbrev pub words_of : List ℕ → List (List ℕ)
words_of line = slice_split (λ c. c == 32) line
