use Rattle.std.proofs.Common.{◌≡◌, ◌≤◌, ◌&&◌, true, length, take, drop, Some}
use Rattle.std.specs.List.{All}
use Rattle.dnp_objects.specs.Equality.{kind_eq}
use Rattle.dnp_objects.specs.Events.{IsEvent}
use Rattle.dnp_objects.specs.Relative.{FitsRelative}
use Rattle.dnp_objects.specs.declared.row.Kind.TheVariants.{Binary}
use Rattle.dnp_outstation.specs.Forms.{is_in_reach}
use Rattle.dnp_outstation.proofs.offer.next.in_reach.Given as goal

-- those before this one are in reach
abbrev pub invariant-loop-x : goal.invariant-loop-x
invariant-loop-x l = record {
  few : l.n ≤ length l.rows;
  rest : l.rest ≡ drop l.n l.rows;
  near : All (λ x. (kind_eq x.row.kind Binary && is_in_reach (Some l.common) x.row.time) ≡ true) (take l.n l.rows);
  tells : All (λ x. IsEvent x.row) l.rows → All (λ x. FitsRelative l.common x.row) (take l.n l.rows);
}

abbrev pub decreases-loop-x : goal.decreases-loop-x
decreases-loop-x l = length l.rest
