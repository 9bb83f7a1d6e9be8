use Rattle.std.proofs.Common.{ℕ, List, ◌∷◌, length, map, subst, ◌∙◌}
use Rattle.std.specs.Fmt.{decimal}
use Rattle.std.specs.Io.KnownBytes.{Appends}
use Rattle.dnp_daemons.specs.ReportText.{count_line, item_line}
use Rattle.dnp_daemons.proofs.Written.{Begins, next_of, next_written, next_cut, none_written, none_left, of_fault}
use Rattle.dnp_daemons.proofs.report_text.write_list.Goals as goal

abbrev line_of : {A : Type 0} → (A → List (List ℕ)) → ℕ × A → List ℕ
line_of words thing = item_line thing.0 (words thing.1)

-- the list's lines, one for its name and length, and one for each thing
abbrev lines_of : {A : Type 0} → (A → List (List ℕ)) → List ℕ → List (ℕ × A) → List (List ℕ)
lines_of words name things = count_line name (decimal (length things)) ∷ map (line_of words) things

pub returns-in_err-write_count-clause-part : goal.returns-in_err-write_count-clause-part
returns-in_err-write_count-clause-part g c =
    of_fault c.from_residual.result
    (next_cut _ (none_written _ (lines_of g.T.Worded.words c.args.name.now c.args.things.now)) c.in_err-write_count.ensures.part)

pub loop-substation-init : goal.loop-substation-init
loop-substation-init g c = record {
  room = c.requires;
  left = next_written (none_written _ (lines_of g.T.Worded.words c.args.name.now c.args.things.now)) c.in_ok-write_count.ensures.whole;
}

pub loop-substation-preserved : goal.loop-substation-preserved
loop-substation-preserved g c =
    let now = g.W.Write.contents c.loop-substation.out in
    let later = g.W.Write.contents c.write_out.new.out in
    let line = line_of g.T.Worded.words in record {
      room = c.make_line.ensures.room;
      left =
          next_written (next_of line c.args.things.now c.loop-substation.substation-index _ c.loop-substation-test.true c.loop-substation.invariant.left)
          (subst (λ thing. Appends now later (line thing)) c.loop-substation-item.is
          (rw (c.deref.ensures.value ∙ c.make_line.ensures.items) at c.in_ok-write_out.ensures.whole));
    }

pub returns-in_err-write_out-clause-part : goal.returns-in_err-write_out-clause-part
returns-in_err-write_out-clause-part g c =
    let now = g.W.Write.contents c.loop-substation.out in
    let later = g.W.Write.contents c.write_out.new.out in
    let line = line_of g.T.Worded.words in
    of_fault c.from_residual-in_err-write_out.result
    (next_cut later (next_of line c.args.things.now c.loop-substation.substation-index c.loop-substation-item.result c.loop-substation-test.true
    c.loop-substation.invariant.left)
    (subst (λ thing. Begins (line thing) now later) c.loop-substation-item.is
    (rw (c.deref.ensures.value ∙ c.make_line.ensures.items) at c.in_err-write_out.ensures.part)))

pub returns-clause-whole : goal.returns-clause-whole
returns-clause-whole g c =
    none_left (line_of g.T.Worded.words) c.args.things.now c.loop-substation.substation-index c.loop-substation-test.false
    c.loop-substation.invariant.left
