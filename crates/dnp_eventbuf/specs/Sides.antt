-- Definition: a store of nine lanes for each of two centres: what its calls leave, and one of the two sides by itself.
use Rattle.std.specs.Borrow.{MutBor}
use Rattle.std.specs.Prelude.{◌≡◌, ◌≢◌, ◌⊎◌, ℕ, ◌<◌, ◌-◌, ◌==◌, Bool, ◌||◌, if◌then◌else◌, List, [], ◌∷◌, Result, ⊤}
use Rattle.dnp_objects.specs.declared.lane.LaneRow.{LaneRow}
use Rattle.dnp_objects.specs.declared.row.Row.{Row}
use Rattle.dnp_objects.specs.declared.store.StoreFault.{StoreFault}
use Rattle.dnp_objects.specs.declared.store.StoreFault.TheVariants.{Device}
use Rattle.dnp_objects.specs.Stores.{IsStoreCall}
use Rattle.dnp_eventbuf.specs.Calls.{IsLanesCall}
use Rattle.dnp_eventbuf.specs.Sound.{IsSoundBuffer}
use Rattle.dnp_eventbuf.specs.EventBuffer.{EventBuffer, dropped_by, exhausts, with_rows}
use Rattle.dnp_eventbuf.specs.declared.pair.TheConstants.{CENTRES}
use Rattle.dnp_eventbuf.specs.declared.plain_pair.PlainPair.{PlainPair}
use Rattle.dnp_eventbuf.specs.declared.side.Side.{Side}

-- ---- of two things, one for each centre

-- the one for this centre; a number that is no centre's counts as the second
abbrev pub at : {Thing : Type 0} → ℕ → Thing → Thing → Thing
at centre first second = if centre == 0 then first else second

-- the other centre
abbrev pub other_than : ℕ → ℕ
other_than centre = 1 - centre

-- the same holds for each centre
abbrev pub ForEach : (ℕ → Type 0) → Type 0
ForEach Holds = (centre : ℕ) → centre < CENTRES → Holds centre

-- ---- what a call leaves

-- the lanes for the other centre
abbrev pub beside_of : {Store : Type 0} → (Store → ℕ → EventBuffer) → ℕ → Store → List EventBuffer
beside_of contents centre s = contents s (other_than centre) ∷ []

-- a call that may fail, of the lanes for one centre: those for the other stay as they were
abbrev pub IsSideCall : {Store Answer : Type 0} → (Store → Type 0) → (Store → Bool) → (Store → ℕ → EventBuffer) → ℕ
    → Store → Store → Result Answer StoreFault → Type 0
IsSideCall honest is_stopped contents centre old new answer =
    IsLanesCall honest is_stopped (λ s. contents s centre) (beside_of contents centre) old new answer

-- both sides are sound
abbrev pub AreSound : {Store : Type 0} → (Store → ℕ → EventBuffer) → Store → Type 0
AreSound contents s = ForEach (λ centre. IsSoundBuffer (contents s centre))

-- both sides hold what they did
abbrev pub AreSame : {Store : Type 0} → (Store → ℕ → EventBuffer) → Store → Store → Type 0
AreSame contents s t = ForEach (λ centre. contents t centre ≡ contents s centre)

-- a call that may fail, of both sides
abbrev pub IsPairCall : {Store Answer : Type 0} → (Store → Type 0) → (Store → Bool) → (Store → ℕ → EventBuffer)
    → Store → Store → Result Answer StoreFault → Type 0
IsPairCall honest is_stopped contents old new answer =
    IsStoreCall honest is_stopped (AreSound contents) (AreSame contents) (λ _ _. ⊤) Device ⊤ old new answer

-- ---- appending to both

-- the rows came to both sides
abbrev pub BothHave : (ℕ → EventBuffer) → List LaneRow → (ℕ → EventBuffer) → Type 0
BothHave old rows new = ForEach (λ centre. new centre ≡ with_rows (old centre) rows)

-- with them an id or a count of lost rows of either side would pass 2^62
abbrev pub either_exhausts : (ℕ → EventBuffer) → List LaneRow → Bool
either_exhausts sides rows = exhausts (sides 0) rows || exhausts (sides 1) rows

-- full lanes of one side or the other drop some for them
abbrev pub EitherDrops : (ℕ → EventBuffer) → List LaneRow → Type 0
EitherDrops sides rows = (dropped_by (sides 0) rows ≢ []) ⊎ (dropped_by (sides 1) rows ≢ [])

-- ---- two lists of lanes in memory

abbrev pub side_of : PlainPair → ℕ → EventBuffer
side_of p centre = at centre p.first p.second

-- ---- one side

-- the reference to the store, and the store
abbrev pub lent_pair : {Pair : Type 0} → Side Pair → MutBor Pair
lent_pair s = s.pair

abbrev pub pair_in : {Pair : Type 0} → Side Pair → Pair
pair_in s = s.pair.now

-- the centre
abbrev pub centre_in : {Pair : Type 0} → Side Pair → ℕ
centre_in s = if s.is_second then 1 else 0
