use Rattle.std.proofs.Common.{map, drop}
use Rattle.std.specs.List.{concat}
use Rattle.dnp_daemons.proofs.Written.{Leaves}
use Rattle.dnp_daemons.proofs.run.printing.write_parts.Given as goal

-- some are written, and the others are still to come
abbrev pub invariant-loop-part : goal.invariant-loop-part
invariant-loop-part g l =
    Leaves (concat (map (λ part. part.now) l.parts)) (g.W.Write.contents l.fn.out) (g.W.Write.contents l.out)
    (drop l.part-index (map (λ part. part.now) l.parts))
