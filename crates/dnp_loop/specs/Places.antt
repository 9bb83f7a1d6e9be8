-- Definition: a table of places.
use Rattle.std.specs.Prelude.{◌≡◌, ◌≢◌, ℕ, List, slice_get}
use Rattle.dnp_loop.specs.declared.place.Place.{Place}

-- every place but one is as it was
abbrev pub OthersStay : List Place → List Place → ℕ → Type 0
OthersStay old new index = (other : ℕ) → other ≢ index → slice_get new other ≡ slice_get old other
