-- Definition: which rows are printed: those over an id, in the order of their ids.
use Rattle.std.specs.Prelude.{ℕ, ◌<◌, nat_lt, ⊤, List, [], ◌∷◌, filter}
use Rattle.dnp_rows.specs.declared.item.Item.{Item}
use Rattle.dnp_rows.specs.declared.item.Item.TheVariants.{Event as Happened, Control}

abbrev pub id_of : Item → ℕ
id_of (Happened e) = e.id
id_of (Control e) = e.id

-- the rows with an id over this one
abbrev pub over : ℕ → List Item → List Item
over from items = filter (λ item. nat_lt from (id_of item)) items

-- the id of the last of them, or this one where there is none
abbrev pub last_id : ℕ → List Item → ℕ
last_id from [] = from
last_id from (item ∷ items) = last_id (id_of item) items

-- ids rise, from over this one on
abbrev pub AreRising : ℕ → List Item → Type 0
AreRising from [] = ⊤
AreRising from (item ∷ items) = (from < id_of item) × AreRising (id_of item) items
