use Rattle.std.proofs.Common.{◌≤◌, drop, map, vec_capacity}
use Rattle.dnp_daemons.specs.declared.report_text.line.TheConstants.{LINE_OCTETS}
use Rattle.dnp_daemons.specs.ReportText.{item_line, list_text}
use Rattle.dnp_daemons.proofs.Written.{Leaves}
use Rattle.dnp_daemons.proofs.report_text.write_list.Given as goal

-- there is room for a line, and the lines that are not written yet are still to come
abbrev pub invariant-loop-substation : goal.invariant-loop-substation
invariant-loop-substation g l = record {
  room : LINE_OCTETS ≤ vec_capacity l.line;
  left : Leaves (list_text g.T.Worded.words l.name l.things) (g.W.Write.contents l.fn.out) (g.W.Write.contents l.out)
      (drop l.substation-index (map (λ item. item_line item.0 (g.T.Worded.words item.1)) l.things));
}
