use Rattle.std.proofs.Common.{◌++◌, ℕ, List, length}
use denote.Shadow.{shadow}
use denote.Text.{Utf8}
use Rattle.dnp_trace.specs.ReportJsons.{AreLinesJson, IsReportJson}
use Rattle.dnp_trace.proofs.json.report_json.Given as goal

-- what is left is text; what is written, and then whatever the lines to come make
abbrev pub invariant-lines : goal.invariant-lines
invariant-lines l = record {
  text : shadow (Utf8 l.rest);
  so_far : (more : List ℕ) → AreLinesJson l.rest l.empty more → IsReportJson l.text (l.sheet ++ more);
}

abbrev pub decreases-lines : goal.decreases-lines
decreases-lines l = length l.rest
