-- Definition: what calls of links make of a concentrator: turns, in each of which one of its links takes steps.
use Rattle.std.specs.Prelude.{◌≡◌, ℕ, Bool, if◌then◌else◌, List, [], ◌∷◌}
use Rattle.dnp_concentrator.specs.Concentrator.{IsBookWell, book_of, core_of, links_of, queue_of}
use Rattle.dnp_concentrator.specs.declared.concentrator.Concentrator.{Concentrator}
use Rattle.dnp_controls.specs.Book.{Ledger}
use Rattle.dnp_eventbuf.specs.EventBuffer.{EventBuffer}
use Rattle.dnp_eventbuf.specs.Sides.{other_than}
use Rattle.dnp_streams.specs.links.Deeds.{ActsAll, Deed, Ways, ways}
use Rattle.dnp_streams.specs.streams.AboveLives.{above_lives}
use Rattle.dnp_streams.specs.streams.Asking.{below_asking}
use Rattle.dnp_streams.specs.streams.BelowLives.{below_lives}
use Rattle.dnp_streams.specs.streams.Concentrators.{AboveSeen, BelowSeen, above_hung_up, above_opens, above_receives, above_seen, below_hung_up, below_opens, below_receives, below_seen}
use Rattle.dnp_streams.specs.streams.Dialogues.{asks_nothing}
use Rattle.dnp_nodes.specs.declared.slot.Slot.{Slot}
use Rattle.dnp_nodes.specs.declared.slot.Slot.TheVariants.{Below, Above}

-- ---- steps of a station

-- steps, one after the other, and then perhaps a hang-up
pub record Leads {S : Type 0} (w : Ways S) (hung_up_of : S → S) (s : S) (deeds : List Deed) (is_cut : Bool) (s' : S) : Type 0 where
  pub last : S
  pub acts : ActsAll w s deeds last
  pub end : s' ≡ (if is_cut then hung_up_of last else last)

-- there are such steps; that they lead there holds where the station is honest
pub record IsLed {S : Type 0} (w : Ways S) (hung_up_of : S → S) (honest : Type 0) (s s' : S) : Type 0 where
  pub deeds : List Deed
  pub is_cut : Bool
  pub leads : honest → Leads w hung_up_of s deeds is_cut s'

-- ---- a concentrator and its links

-- what a queue and a book say of themselves
pub record Stores (Q B : Type 0) : Type 1 where
  pub is_queue_honest : Q → Type 0
  pub contents : Q → ℕ → EventBuffer
  pub is_book_honest : B → Type 0
  pub is_stopped : B → Bool
  pub ledger : B → Ledger

abbrev pub stores : {Q B : Type 0} → (Q → Type 0) → (Q → ℕ → EventBuffer) → (B → Type 0) → (B → Bool) → (B → Ledger) → Stores Q B
stores is_queue_honest contents is_book_honest is_stopped ledger = record {
  is_queue_honest = is_queue_honest;
  contents = contents;
  is_book_honest = is_book_honest;
  is_stopped = is_stopped;
  ledger = ledger;
}

abbrev pub below_ways : Ways BelowSeen
below_ways = ways below_opens below_receives below_asking below_lives

abbrev pub above_ways : Ways AboveSeen
above_ways = ways above_opens above_receives asks_nothing above_lives

-- the concentrator as its link to a substation sees it, and as its outstation towards a centre does
abbrev pub seen_below : {Q B : Type 0} → Stores Q B → Concentrator Q B → ℕ → BelowSeen
seen_below v c number = below_seen v.contents v.ledger c number

abbrev pub seen_above : {Q B : Type 0} → Stores Q B → Concentrator Q B → ℕ → AboveSeen
seen_above v c centre = above_seen v.contents v.ledger c centre

-- queue and book have given back so far what was written to them; above, the book has not stopped either
abbrev pub IsHonest : {Q B : Type 0} → Stores Q B → Concentrator Q B → Type 0
IsHonest v c = v.is_queue_honest (queue_of c) × v.is_book_honest (book_of c)

abbrev pub IsWell : {Q B : Type 0} → Stores Q B → Concentrator Q B → Type 0
IsWell v c = v.is_queue_honest (queue_of c) × IsBookWell v.is_book_honest v.is_stopped c

-- ---- turns

-- a turn of the link to a substation
pub record IsTurnBelow {Q B : Type 0} (v : Stores Q B) (number : ℕ) (old new : Concentrator Q B) : Type 0 where
  pub held : IsHonest v new → IsHonest v old
  pub led : IsLed below_ways below_hung_up (IsHonest v new) (seen_below v old number) (seen_below v new number)

-- a turn of the outstation towards a centre: the links below and the outstation towards the other centre stay as they are
pub record IsTurnAbove {Q B : Type 0} (v : Stores Q B) (centre : ℕ) (old new : Concentrator Q B) : Type 0 where
  pub held : IsWell v new → IsWell v old
  pub led : IsLed above_ways above_hung_up (IsWell v new) (seen_above v old centre) (seen_above v new centre)
  pub links : links_of new ≡ links_of old
  pub other : core_of (other_than centre) new ≡ core_of (other_than centre) old

abbrev pub IsTurn : {Q B : Type 0} → Stores Q B → Slot → Concentrator Q B → Concentrator Q B → Type 0
IsTurn v (Below number) old new = IsTurnBelow v number old new
IsTurn v (Above centre) old new = IsTurnAbove v centre old new

-- one after the other
abbrev pub AreTurns : {Q B : Type 0} → Stores Q B → List Slot → Concentrator Q B → Concentrator Q B → Type 0
AreTurns v [] old new = new ≡ old
AreTurns {Q} {B} v (slot ∷ slots) old new = (next : Concentrator Q B) × IsTurn v slot old next × AreTurns v slots next new

-- A concentrator went its own way: by turns of its links and by nothing else.
pub record GoesItsWay {Q B : Type 0} (v : Stores Q B) (old new : Concentrator Q B) : Type 0 where
  pub slots : List Slot
  pub turns : AreTurns v slots old new
