-- Private steps: rows as they come, of which at most two wait for what follows. A lemma (proofs/Coming.antt) says that what
-- is laid of them as they come is what is laid of them all in groups (Forms.antt).
use Rattle.std.specs.Prelude.{ℕ, Bool, if◌then◌else◌, List, [], ◌∷◌, map}
use Rattle.dnp_outstation.specs.declared.offer.grouping.Coming.{Coming}
use Rattle.dnp_outstation.specs.declared.offer.grouping.Waiting.{Waiting}
use Rattle.dnp_outstation.specs.declared.offer.grouping.Waiting.TheVariants as waiting
use Rattle.dnp_outstation.specs.declared.offer.grouping.Timed.{Timed}
use Rattle.dnp_outstation.specs.declared.offer.grouping.Given.{Given}
use Rattle.dnp_outstation.specs.declared.offer.grouping.Given.TheVariants as given
use Rattle.dnp_outstation.specs.Forms.{reaches_by, time_of, told_after, told_by}
use Rattle.dnp_outstation.specs.Items.{Item, event_of}
use Rattle.dnp_outstation.specs.Layout.{Laid, lay}

-- an item, and whether its header leaves it open as which object it goes
pub record Marked : Type 0 where
  pub item : Item
  pub is_open : Bool

abbrev pub marked : Bool → Item → Marked
marked is_open x = record { item = x; is_open = is_open }

abbrev pub mark : Bool → List Item → List Marked
mark is_open xs = map (marked is_open) xs

-- by what the headers of a READ leave open
abbrev pub opened : (ℕ → Bool) → Item → Marked
opened may x = marked (may x.header) x

-- the second may stand in a group that the first begins
abbrev pub reaches_marked : Marked → Marked → Bool
reaches_marked first x = reaches_by first.is_open x.is_open first.item.thing x.item.thing

-- what waits: nothing, one item, two of a group, or nothing more in the group that this item began
pub data Open : Type 0 where
  Shut : Open
  One : (x : Marked) → Open
  Two : (x y : Marked) → Open
  Within : (first : Marked) → Open

-- what is laid of the items that wait and of those that come
abbrev pub laid_from : Open → List Marked → List Laid
laid_from Shut [] = []
laid_from Shut (z ∷ zs) = laid_from (One z) zs
laid_from (One x) [] = lay x.item ∷ []
laid_from (One x) (z ∷ zs) = if reaches_marked x z then laid_from (Two x z) zs else lay x.item ∷ laid_from (One z) zs
laid_from (Two x y) [] = lay x.item ∷ lay y.item ∷ []
laid_from (Two x y) (z ∷ zs) =
    if reaches_marked x z
    then told_after (time_of x.item) x.item ∷ told_after (time_of x.item) y.item ∷ told_after (time_of x.item) z.item ∷ laid_from (Within x) zs
    else lay x.item ∷ lay y.item ∷ laid_from (One z) zs
laid_from (Within first) [] = []
laid_from (Within first) (z ∷ zs) =
    if reaches_marked first z then told_after (time_of first.item) z.item ∷ laid_from (Within first) zs else laid_from (One z) zs

-- ---- the rows that the code has

abbrev pub item_in : Coming → Item
item_in x = event_of x.header x.lane x.row

abbrev pub marked_in : Coming → Marked
marked_in x = marked x.is_open (item_in x)

abbrev pub open_in : Waiting → Open
open_in waiting.Nothing = Shut
open_in (waiting.One x) = One (marked_in x)
open_in (waiting.Two pair) = Two (marked_in pair.first) (marked_in pair.second)
open_in (waiting.Within first) = Within (marked_in first)

-- the rows that wait
abbrev pub waiting_items : Waiting → List Item
waiting_items waiting.Nothing = []
waiting_items (waiting.One x) = item_in x ∷ []
waiting_items (waiting.Two pair) = item_in pair.first ∷ item_in pair.second ∷ []
waiting_items (waiting.Within first) = []

abbrev pub told_in : Timed → Laid
told_in x = told_by x.common (item_in x.row)

abbrev pub given_in : Given → List Laid
given_in given.Nothing = []
given_in (given.First a) = told_in a ∷ []
given_in (given.Second a b) = told_in a ∷ told_in b ∷ []
given_in (given.Third a b c) = told_in a ∷ told_in b ∷ told_in c ∷ []
