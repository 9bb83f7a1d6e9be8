-- What a node tells of drops leaves its concentrator and its links as they are.
use Rattle.std.proofs.Common.{◌≡◌, ℕ, subst, sym, ◌∙◌}
use Rattle.dnp_concentrator.specs.Concentrator.{core_of, links_of}
use Rattle.dnp_concentrator.specs.PerCentre.{at}
use Rattle.dnp_eventbuf.specs.Sides.{other_than}
use Rattle.dnp_streams.specs.streams.Concentrators.{AboveSeen}
use Rattle.dnp_nodes.specs.ConcentratorNodes.{CallsAbove, IsBeside, Shows, above_in, below_in, concentrator_in}
use Rattle.dnp_nodes.specs.Turns.{IsWell, Stores, seen_above}
use Rattle.dnp_nodes.specs.declared.callee.Callee.{Callee}
use Rattle.dnp_nodes.specs.declared.concentrator_node.ConcentratorNode.{ConcentratorNode}

pub still_called : {Q B : Type 0} (v : Stores Q B) (centre : ℕ) (Law : Type 0 → Callee → AboveSeen → Callee → AboveSeen → Type 0) (old between new : ConcentratorNode Q B)
    → CallsAbove v centre Law old between → Shows (concentrator_in between) (below_in between) (above_in between) new → CallsAbove v centre Law old new
still_called v centre Law old between new calls shows = record {
  there = (
    calls.there.0,
    shows.centres ∙ calls.there.1,
    subst (λ c. Law (IsWell v c) (at centre (above_in old)) (seen_above v (concentrator_in old) centre) calls.there.0 (seen_above v c centre)) (sym shows.same) calls.there.2,
  );
  below = shows.links ∙ calls.below;
}

pub still_beside : {Q B : Type 0} (v : Stores Q B) (centre : ℕ) (old between new : ConcentratorNode Q B)
    → IsBeside v centre old between → Shows (concentrator_in between) (below_in between) (above_in between) new → IsBeside v centre old new
still_beside v centre old between new beside shows = record {
  held = subst (λ c. IsWell v c → IsWell v (concentrator_in old)) (sym shows.same) beside.held;
  links = subst (λ c. links_of c ≡ links_of (concentrator_in old)) (sym shows.same) beside.links;
  other = subst (λ c. core_of (other_than centre) c ≡ core_of (other_than centre) (concentrator_in old)) (sym shows.same) beside.other;
}
