-- Private steps: octets that are written over others, in place.
use Rattle.std.specs.Prelude.{ℕ, ◌+◌, List, ◌++◌, length, take, drop}

-- the octets with these written over as many of them, from a place on
abbrev pub written_over : List ℕ → ℕ → List ℕ → List ℕ
written_over octets at news = take at octets ++ (news ++ drop (at + length news) octets)
