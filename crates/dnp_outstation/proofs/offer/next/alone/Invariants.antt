use Rattle.std.proofs.Common.{◌≡◌, ◌≤◌, ℕ, length, take, drop, None}
use Rattle.std.specs.List.{All}
use Rattle.dnp_appfragment.specs.Written.{IsOf}
use Rattle.dnp_outstation.specs.declared.offer.grouping.Waiting.TheVariants as waiting
use Rattle.dnp_outstation.specs.steps.Putting.{GoOn}
use Rattle.dnp_outstation.proofs.offer.next.alone.Given as goal

-- those before this one go as their own objects
abbrev pub invariant-loop-x : goal.invariant-loop-x
invariant-loop-x l = record {
  few : l.n ≤ length l.rows;
  rest : l.rest ≡ drop l.n l.rows;
  alike : All (λ x. IsOf l.kind l.has_time x.row) (take l.n l.rows);
  goes : (header lane : ℕ) → GoOn waiting.Nothing header l.is_open lane None (take l.n l.rows) (drop l.n l.rows);
}

abbrev pub decreases-loop-x : goal.decreases-loop-x
decreases-loop-x l = length l.rest
