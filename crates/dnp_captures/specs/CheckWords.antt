-- Definition: which octets of a frame a check word stands behind (IEEE Std 1815-2012, data link layer): the eight of the header, and
-- each block of sixteen octets of user data, the last one of those that are left of what LENGTH, the third octet, counts beside five.
use Rattle.std.specs.Prelude.{◌≡◌, ℕ, ◌+◌, ◌-◌, ◌*◌, List, [], length, take, drop, min}
use Rattle.std.specs.List.{slice_index}
use Rattle.dnp_linkframe.specs.CheckWord.{IsCheckWord}
use Rattle.dnp_linkframe.specs.declared.frame.FrameFault.{FrameFault}
use Rattle.dnp_linkframe.specs.declared.frame.FrameFault.TheVariants.{Short, Start, HeaderCheck, Length, Size, BlockCheck}
use Rattle.dnp_captures.specs.declared.check_words.WrongWord.{WrongWord}

-- where the octets begin whose check word is wrong
abbrev pub begin_of : FrameFault → ℕ
begin_of (BlockCheck block) = 10 + 18 * block
begin_of _ = 0

-- how many octets these are, of a frame with this LENGTH
abbrev pub size_of : ℕ → FrameFault → ℕ
size_of counted (BlockCheck block) = min 16 (counted - 5 - 16 * block)
size_of _ _ = 8

-- The check word of the frame that these octets begin with, at `place`, isn't the one that it should be, which is `belongs`.
pub record IsWrongIn (octets : List ℕ) (fault : FrameFault) (wrong : WrongWord) : Type 0 where
  pub stands_behind : wrong.place ≡ begin_of fault + size_of (slice_index octets 2) fault
  pub is_right : IsCheckWord (take (size_of (slice_index octets 2) fault) (drop (begin_of fault) octets)) wrong.belongs
