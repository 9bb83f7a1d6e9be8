-- Definition: the grammar of a link frame (IEEE Std 1815-2012, data link layer): which octets spell which frame.
use Rattle.std.specs.Prelude.{◌≡◌, ◌≢◌, ℕ, zero, suc, ◌+◌, ◌*◌, ◌/◌, ◌<◌, ◌≤◌, ◌^◌, List, [], ◌∷◌, ◌++◌, length, take, drop, slice_index}
use Rattle.std.specs.Int.{w16, to_le_bytes}
use Rattle.dnp_linkframe.specs.CheckWord.{IsCheckWord}
use Rattle.dnp_linkframe.specs.declared.frame.Frame.{Frame}
use Rattle.dnp_linkframe.specs.declared.frame.FrameFault.{FrameFault}
use Rattle.dnp_linkframe.specs.declared.frame.FrameFault.TheVariants.{Short, Start, HeaderCheck, Length, Size, BlockCheck}
use Rattle.dnp_linkframe.specs.declared.frame.TheConstants.{MAX_USER_DATA}

-- the part with its check word after it, low octet first
pub record HasCheck (part octets : List ℕ) : Type 0 where
  pub word : ℕ
  pub checks : IsCheckWord part word
  pub joined : octets ≡ part ++ to_le_bytes w16 word

-- octets that end in the check word of those before
pub record IsChecked (octets : List ℕ) : Type 0 where
  pub part : List ℕ
  pub has : HasCheck part octets

-- each of the parts with its check word after it, one after the other
abbrev pub AreChecked : List (List ℕ) → List ℕ → Type 0
AreChecked [] octets = octets ≡ []
AreChecked (part ∷ parts) octets =
    (first : List ℕ) × (rest : List ℕ) × HasCheck part first × AreChecked parts rest × (octets ≡ first ++ rest)

-- the first n blocks of user data: 16 octets each, the last as many as are left
abbrev pub first_blocks : ℕ → List ℕ → List (List ℕ)
first_blocks zero user = []
first_blocks (suc n) user = take 16 user ∷ first_blocks n (drop 16 user)

-- how many blocks n octets of user data take
abbrev pub block_count : ℕ → ℕ
block_count n = (n + 15) / 16

-- the blocks of the user data
abbrev pub blocks : List ℕ → List (List ℕ)
blocks user = first_blocks (block_count (length user)) user

-- how many octets a frame with n octets of user data has
abbrev pub frame_size : ℕ → ℕ
frame_size n = 10 + n + 2 * block_count n

-- the first 8 octets: 05 64, LENGTH, CONTROL, destination, source. LENGTH counts CONTROL, both
-- addresses and the user data.
abbrev pub header : Frame → List ℕ
header f = 5 ∷ 100 ∷ (length f.user.items + 5) ∷ f.control ∷ (to_le_bytes w16 f.dest ++ to_le_bytes w16 f.source)

-- addresses of 16 bits, at most MAX_USER_DATA octets of user data
pub record IsFrame (f : Frame) : Type 0 where
  pub dest : f.dest < 2 ^ 16
  pub source : f.source < 2 ^ 16
  pub user : length f.user.items ≤ MAX_USER_DATA

-- the unit of octets is the frame's header and its blocks, each with its check word after it
abbrev pub Spells : List ℕ → Frame → Type 0
Spells unit f = IsFrame f × AreChecked (header f ∷ blocks f.user.items) unit

-- block n of the octets, counted from 0, is there and doesn't end in its check word
pub record IsUnchecked (octets : List ℕ) (n : ℕ) : Type 0 where
  pub stands : 18 * n < length octets
  pub unchecked : IsChecked (take 18 (drop (18 * n) octets)) → ⊥

-- what is wrong with a unit of octets, whatever else is wrong with it
abbrev pub IsFault : List ℕ → FrameFault → Type 0
IsFault unit Short = length unit < 10
IsFault unit Start = take 2 unit ≢ 5 ∷ 100 ∷ []
IsFault unit HeaderCheck = IsChecked (take 10 unit) → ⊥
IsFault unit Length = slice_index unit 2 < 5
IsFault unit Size = (n : ℕ) → slice_index unit 2 ≡ n + 5 → length unit ≢ frame_size n
IsFault unit (BlockCheck n) = IsUnchecked (drop 10 unit) n

-- the order in which faults are checked
abbrev pub place : FrameFault → ℕ
place Short = 0
place Start = 1
place HeaderCheck = 2
place Length = 3
place Size = 4
place (BlockCheck n) = 5 + n

-- the fault that a unit is refused for: the first in that order
abbrev pub IsFirstFault : List ℕ → FrameFault → Type 0
IsFirstFault unit fault =
    IsFault unit fault × ((other : FrameFault) → place other < place fault → IsFault unit other → ⊥)
