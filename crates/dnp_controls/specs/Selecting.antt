-- Definition: select before operate (IEEE Std 1815-2012, application layer: functions SELECT and OPERATE): which
-- select stands, and what an OPERATE is answered.
use Rattle.std.specs.Prelude.{◌≡◌, ℕ, ◌+◌, ◌-◌, ◌%◌, ◌^◌, ◌<◌, ◌≤◌, nat_eq, nat_lt, min, Bool, ◌&&◌, ◌==◌, if◌then◌else◌, List, [], ◌∷◌, Option, Some, None}
use Rattle.std.specs.Cmp.Lexicographic.{pointwise}
use Rattle.dnp_controls.specs.declared.limits.TheConstants.{SEQUENCE_NUMBERS}
use Rattle.dnp_objects.specs.Status as status

-- a SELECT whose commands were all answered SUCCESS: the moment at which it came, in milliseconds, its
-- sequence number, and the octets of its objects
pub record Select : Type 0 where
  pub at : ℕ
  pub seq : ℕ
  pub octets : List ℕ

-- what happens to selects: one is made, an OPERATE uses one up, or they are forgotten
pub data SelectCall : Type 0 where
  Selecting : (select : Select) → SelectCall
  Operating : SelectCall
  Forgetting : SelectCall

-- the select that stands after these calls, the newest first: the last one that was made, unless an
-- OPERATE came after it, whatever that was answered, or it was forgotten
abbrev pub standing : List SelectCall → Option Select
standing [] = None
standing (Selecting select ∷ before) = Some select
standing (Operating ∷ before) = None
standing (Forgetting ∷ before) = None

-- what is kept is the select after these calls, the newest first: they came since it was new
abbrev pub IsSelectAfter : List SelectCall → Option Select → Type 0
IsSelectAfter calls kept = kept ≡ standing calls

-- the moment at which a timer ends that was started at a moment and runs this many milliseconds, or the
-- last moment there is
abbrev pub deadline : ℕ → ℕ → ℕ
deadline start time = min (start + time) (2 ^ 64 - 1)

-- an OPERATE with this sequence number and these octets goes with the select: its number is the next
-- one modulo 16, and the octets are equal one for one
pub record GoesWith (select : Select) (seq : ℕ) (octets : List ℕ) : Type 0 where
  pub next_number : seq % SEQUENCE_NUMBERS ≡ (select.seq + 1) % SEQUENCE_NUMBERS
  pub same_octets : octets ≡ select.octets

-- the same as a test
abbrev pub goes_with : Select → ℕ → List ℕ → Bool
goes_with select seq octets = seq % SEQUENCE_NUMBERS == (select.seq + 1) % SEQUENCE_NUMBERS && pointwise nat_eq octets select.octets

-- the select's timer of this many milliseconds still runs
abbrev pub IsRunning : Select → ℕ → ℕ → Type 0
IsRunning select time now = now < deadline select.at time

-- it has ended
abbrev pub HasEnded : Select → ℕ → ℕ → Type 0
HasEnded select time now = deadline select.at time ≤ now

-- the octets of the objects of the select that stands, where its timer still runs
abbrev pub running : Option Select → ℕ → ℕ → Option (List ℕ)
running None now time = None
running (Some select) now time = if nat_lt now (deadline select.at time) then Some select.octets else None

-- the status of an OPERATE, by the select that stands and its timer's time
abbrev pub answer : Option Select → ℕ → ℕ → List ℕ → ℕ → ℕ
answer None now seq octets time = status.no_select
answer (Some select) now seq octets time =
    (if goes_with select seq octets
    then (if nat_lt now (deadline select.at time) then status.success else status.timeout)
    else status.no_select)

-- none of the calls makes a select
abbrev pub MakesNoSelect : List SelectCall → Type 0
MakesNoSelect [] = Unit {0}
MakesNoSelect (Selecting select ∷ calls) = ⊥
MakesNoSelect (Operating ∷ calls) = MakesNoSelect calls
MakesNoSelect (Forgetting ∷ calls) = MakesNoSelect calls
