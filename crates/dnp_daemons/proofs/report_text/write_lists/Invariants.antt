use Rattle.std.proofs.Common.{◌≤◌, drop, map, vec_capacity}
use Rattle.std.specs.List.{concat}
use Rattle.dnp_daemons.specs.declared.report_text.line.TheConstants.{LINE_OCTETS}
use Rattle.dnp_daemons.specs.ReportText.{events_text}
use Rattle.dnp_daemons.proofs.Written.{Leaves}
use Rattle.dnp_daemons.proofs.report_text.write_lists.Given as goal

-- there is room for a line, and the lists that are not written yet are still to come
abbrev pub invariant-loop-name : goal.invariant-loop-name
invariant-loop-name g l = record {
  room : LINE_OCTETS ≤ vec_capacity l.line;
  left : Leaves (concat (map (λ list. events_text list.0.now list.1.now) l.lists)) (g.W.Write.contents l.fn.out) (g.W.Write.contents l.out)
      (drop l.name-index (map (λ list. events_text list.0.now list.1.now) l.lists));
}
