-- What stands at a centre: its book has what came to the concentrator's over its link, and that can be sent.
use Rattle.std.proofs.Common.{arith}
use Rattle.dnp_concentrator.specs.Mapped.{command_below}
use Rattle.dnp_world.specs.Behind.{Elsewhere, IsFrom}
use Rattle.dnp_world.specs.BothSteady.{side_of}
use Rattle.dnp_world.specs.Kept.{command_of, commands_in, is_used, kept_in}
use Rattle.dnp_world.specs.LawLink.{LawLink}
use Rattle.dnp_world.specs.Steady.{IsSteadyBeside}
use Rattle.dnp_world.specs.Systems.{System}
use Rattle.dnp_world.proofs.RelayWidths.{CommandLaws, performed_fit}
use Rattle.dnp_world.proofs.SystemCounts.{covered_filter_map, picked}

pub from_there : CommandLaws → (s : System) {el : Elsewhere} (h : IsSteadyBeside el s) → IsFrom s.indices (side_of h.standing.links (kept_in s))
from_there laws s h =
    let l : LawLink = h.standing.links.above in
    let b = h.standing.behind in
    record {
      entered = covered_filter_map (command_below s.indices) l.performed (commands_in s.centre.orders.entries)
          (record {
            at_most = λ test. omega (
              arith,
              (laws.performed l b.above_stands).at_most test,
              b.asked_above.at_most test,
              (picked is_used command_of s.centre.orders.entries).at_most test,
            );
          });
      widths = performed_fit laws s h.standing h.controls.widths;
    }
