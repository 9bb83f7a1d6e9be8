use Rattle.std.proofs.Common.{◌≡◌, ℕ, ◌++◌, List, length}
use Rattle.std.specs.Io.KnownBytes.{Appends}
use Rattle.dnp_streams.proofs.writing.write_out.Given as goal

-- a part is written, and the rest is still to come
abbrev pub invariant-loop-rest : goal.invariant-loop-rest
invariant-loop-rest g l =
    (part : List ℕ) × (l.fn.text ≡ part ++ l.rest)
    × Appends (g.W.Write.contents l.fn.out) (g.W.Write.contents l.out) part

abbrev pub decreases-loop-rest : goal.decreases-loop-rest
decreases-loop-rest g l = length l.rest
