-- Definition: what a contract sees of an assembler, and which pushed strings of octets it stands for.
use Rattle.std.specs.Prelude.{◌≡◌, ℕ, ◌↔◌, List, []}
use Rattle.dnp_transport.specs.Series.{newest, joined, IsOpen, IsWhole, IsDropped, IsNothing}
use Rattle.dnp_transport.specs.declared.assembler.Pushed.{Pushed}
use Rattle.dnp_transport.specs.declared.assembler.Pushed.TheVariants.{Nothing, Whole, Dropped}

-- an assembler has no series, or joins one, with its newest segment and the data so far, or has a fragment to give
pub data Assembly : Type 0 where
  Idle : Assembly
  Joining : (last octets : List ℕ) → Assembly
  Complete : (fragment : List ℕ) → Assembly

-- the newest segment and the data are those of the open series
pub record IsJoining (pushed : List (List ℕ)) (last octets : List ℕ) : Type 0 where
  pub series : List (List ℕ)
  pub opened : IsOpen pushed series
  pub last_is : last ≡ newest series
  pub octets_are : octets ≡ joined series

-- no series is open, and the last push did not complete a fragment
pub record IsIdle (pushed : List (List ℕ)) : Type 0 where
  pub no_series : (series : List (List ℕ)) → IsOpen pushed series → ⊥
  pub no_whole : (fragment : List ℕ) → IsWhole pushed fragment → ⊥

-- the assembler is as these pushed strings, newest first, make it: the strings since it was new or was reset
unfoldable pub ArePushed : List (List ℕ) → Assembly → Type 0
ArePushed pushed Idle = IsIdle pushed
ArePushed pushed (Joining last octets) = IsJoining pushed last octets
ArePushed pushed (Complete fragment) = IsWhole pushed fragment

-- the right answer to the last of these pushes, each one both ways
pub record Answers (pushed : List (List ℕ)) (answer : Pushed) : Type 0 where
  pub whole : (answer ≡ Whole) ↔ ((fragment : List ℕ) × IsWhole pushed fragment)
  pub dropped : (answer ≡ Dropped) ↔ IsDropped pushed
  pub nothing : (answer ≡ Nothing) ↔ IsNothing pushed

-- the octets are the fragment that the last of these pushes completed, or none where it did not complete one
pub record Shows (pushed : List (List ℕ)) (octets : List ℕ) : Type 0 where
  pub whole : (fragment : List ℕ) → IsWhole pushed fragment → octets ≡ fragment
  pub none : ((fragment : List ℕ) → IsWhole pushed fragment → ⊥) → octets ≡ []
