-- Definition: the words of a text.
use Rattle.std.specs.Prelude.{ℕ, ◌==◌, List, [], Option, slice_get}
use Rattle.std.specs.List.{slice_split}
use Rattle.std.specs.Option.{unwrap_or}

-- words stand between single spaces, 32; where there are two, or one at an end, an empty one stands beside them
abbrev pub words_of : List ℕ → List (List ℕ)
words_of text = slice_split (λ c. c == 32) text

-- the word at a place, counted from 0, if there is one
abbrev pub nth_word : List ℕ → ℕ → Option (List ℕ)
nth_word text place = slice_get (words_of text) place

-- the same, or an empty one
abbrev pub word_at : List ℕ → ℕ → List ℕ
word_at text place = unwrap_or (nth_word text place) []
