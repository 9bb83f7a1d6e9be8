use Rattle.std.proofs.Common.{◌≡◌, ℕ, ◌-◌, [], Some, Err, length, sym, ◌∙◌, ap, subst}
use Rattle.std.specs.List.{slice_index_or}
use Rattle.dnp_daemons.specs.ScriptLines.{first_unread}
use Rattle.dnp_daemons.specs.ScriptReasons.{StopBehind, words_by}
use Rattle.dnp_daemons.specs.Words.{lines_of, words_of}
use Rattle.dnp_daemons.specs.steps.Forms.{most_taken}
use Rattle.dnp_daemons.specs.steps.Judging.{reading_by}
use Rattle.dnp_daemons.proofs.LineStops.{none_unread, read_by_words, stops_behind}
use Rattle.dnp_daemons.proofs.script.reason.script_fault.Goals as goal

pub returns-in-Ok : goal.returns-in-Ok
returns-in-Ok c =
    let n = length c.args.plan.now.substations in
    none_unread (reading_by c.args.carried n) (lines_of c.args.text.now) c.in-Ok.ensures.read.0 c.in-Ok.ensures.read.1

pub returns-in-Err-Line : goal.returns-in-Err-Line
returns-in-Err-Line c =
    let n = length c.args.plan.now.substations in
    let stops = slice_index_or (lines_of c.args.text.now) (c.in-Err-Line.line - 1) [] in
    let line : c.line_at-stops.result.now ≡ stops =
    c.line_at-stops.ensures ∙ ap (λ (k : ℕ). slice_index_or (lines_of c.args.text.now) k []) c.saturating_sub.ensures in
    let good : c.good_words.result ≡ most_taken c.args.carried n (words_of stops) =
    c.good_words.ensures ∙ ap (λ (k : ℕ). most_taken c.args.carried k (words_of c.line_at-stops.result.now)) (ap length c.as_slice-substations.ensures)
    ∙ ap (λ l. most_taken c.args.carried n (words_of l)) line in
    record {
      first = subst (λ r. first_unread r (lines_of c.args.text.now) ≡ Some c.in-Err-Line.line) (read_by_words c.args.carried n)
          (c.in-Err-Line.ensures.refused c.in-Err-Line.line (ap Err c.in-Err-Line.field-0-is));
      words = subst (λ (g : ℕ). StopBehind (words_by c.args.carried n) (words_of stops) g) (sym good)
          (stops_behind c.args.carried n c.requires.some (words_of stops));
    }
