-- Private steps: what is checked of units and of what waits in a stream.
use Rattle.std.specs.Prelude.{◌≡◌, ℕ, ◌*◌, ◌<◌, ◌≤◌, List, ◌++◌, length, take, drop}
use Rattle.dnp_linkframe.specs.Frames.{IsChecked, IsUnchecked}
use Rattle.dnp_linkframe.specs.Stream.{BeginsFrame, said_size, Waits, IsFront}
use Rattle.dnp_linkframe.specs.declared.frame.TheConstants.{MAX_UNIT}

-- each block of the octets ends in its check word
abbrev pub EachChecked : List ℕ → Type 0
EachChecked octets = (n : ℕ) → 18 * n < length octets → IsChecked (take 18 (drop (18 * n) octets))

-- this block, counted from 0, is the first that doesn't end in its check word
pub record IsFirstUnchecked (octets : List ℕ) (n : ℕ) : Type 0 where
  pub here : IsUnchecked octets n
  pub first : (k : ℕ) → k < n → IsUnchecked octets k → ⊥

-- what is tested of a unit before it is read: a header, all the octets that its LENGTH says, and blocks
-- that end in their check words
pub record IsWhole (unit : List ℕ) : Type 0 where
  pub begins : BeginsFrame unit
  pub sized : length unit ≡ said_size unit
  pub checked : EachChecked (drop 10 unit)

-- there are too few octets to tell what they are, and so it stays as long as they are fewer than needed
pub record Awaits (stream : List ℕ) (needed : ℕ) : Type 0 where
  pub fewer : length stream < needed
  pub most : needed ≤ MAX_UNIT
  pub waits : (more : List ℕ) → length (stream ++ more) < needed → IsFront (stream ++ more) Waits
