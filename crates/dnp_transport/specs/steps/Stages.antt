-- Private steps: what the fields of an assembler mean, and what a segment makes of them.
use Rattle.std.specs.Prelude.{◌≡◌, ℕ, ◌+◌, ◌%◌, ◌<◌, ◌≤◌, true, false, List, ◌++◌, length}
use Rattle.dnp_transport.specs.Segments.{is_first, is_last, number, carried}
use Rattle.dnp_transport.specs.Assembly.{Assembly, Idle, Joining, Complete, ArePushed}
use Rattle.dnp_transport.specs.declared.assembler.Pushed.{Pushed}
use Rattle.dnp_transport.specs.declared.assembler.Pushed.TheVariants.{Nothing, Whole, Dropped}
use Rattle.dnp_transport.specs.declared.assembler.Stage.{Stage}
use Rattle.dnp_transport.specs.declared.assembler.Stage.TheVariants as stage
use Rattle.dnp_transport.specs.declared.limits.TheConstants.{MAX_FRAGMENT, SEGMENT_NUMBERS}

-- the newest segment counts only in a series, and the octets are the data so far or the fragment
abbrev pub assembly : Stage → List ℕ → List ℕ → Assembly
assembly stage.Idle last octets = Idle
assembly stage.Joining last octets = Joining last octets
assembly stage.Complete last octets = Complete octets

-- some pushed strings made the assembler what it is
abbrev pub HasHistory : Assembly → Type 0
HasHistory a = (pushed : List (List ℕ)) × ArePushed pushed a

-- the segment begins a series, or is the next of the one in progress and no repeat
pub data MayGoOn (a : Assembly) (segment : List ℕ) : Type 0 where
  First : is_first segment ≡ true → MayGoOn a segment
  Next : (last octets : List ℕ) → a ≡ Joining last octets → is_first segment ≡ false → (segment ≡ last → ⊥) →
      number segment ≡ (number last + 1) % SEGMENT_NUMBERS → MayGoOn a segment

-- the answer to a segment that goes on with these data so far, and the data after it: they would pass the longest
-- fragment, or the segment is the last one, or it waits for the next
pub data GoesOn (so_far segment octets : List ℕ) (answer : Pushed) : Type 0 where
  Passes : answer ≡ Dropped → MAX_FRAGMENT < length (so_far ++ carried segment) → GoesOn so_far segment octets answer
  Completes : answer ≡ Whole → octets ≡ so_far ++ carried segment → length octets ≤ MAX_FRAGMENT → is_last segment ≡ true →
      GoesOn so_far segment octets answer
  Waits : answer ≡ Nothing → octets ≡ so_far ++ carried segment → length octets ≤ MAX_FRAGMENT → is_last segment ≡ false →
      GoesOn so_far segment octets answer

-- where an answer leaves the assembler
abbrev pub stage_after : Pushed → Stage
stage_after Dropped = stage.Idle
stage_after Whole = stage.Complete
stage_after Nothing = stage.Joining
