use Rattle.std.proofs.Common.{◌≡◌, ℕ, ◌++◌, List, length}
use Rattle.std.specs.Io.KnownBytes.{Appends}
use Rattle.dnp_streams.specs.steps.Serving.{left_with}
use Rattle.dnp_streams.proofs.stream.sending.send.Given as goal

-- a part is written, and the rest still waits
abbrev pub invariant-loop-out : goal.invariant-loop-out
invariant-loop-out g l =
    (part : List ℕ) × (l.fn.link.pending ≡ part ++ l.link.pending) × (l.link ≡ left_with l.fn.link l.link.pending)
    × Appends (g.W.Write.contents l.fn.out) (g.W.Write.contents l.out) part

abbrev pub decreases-loop-out : goal.decreases-loop-out
decreases-loop-out g l = length l.link.pending
