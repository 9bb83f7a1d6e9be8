use Rattle.std.proofs.Common.{ℕ, List, Bor, subst}
use Rattle.std.specs.Io.KnownBytes.{Appends}
use Rattle.dnp_objects.specs.declared.row.Row.{Row}
use Rattle.dnp_daemons.specs.ReportText.{events_text}
use Rattle.dnp_daemons.proofs.Written.{Begins, next_of, next_written, next_cut, of_fault}
use Rattle.dnp_daemons.proofs.report_text.write_lists.Goals as goal

abbrev text_of : Bor (List ℕ) × Bor (List (ℕ × Row)) → List ℕ
text_of list = events_text list.0.now list.1.now

pub loop-name-preserved : goal.loop-name-preserved
loop-name-preserved g c =
    let now = g.W.Write.contents c.loop-name.out in
    let later = g.W.Write.contents c.write_list.new.out in record {
      room = c.write_list.ensures.room;
      left =
          next_written (next_of text_of c.args.lists.now c.loop-name.name-index _ c.loop-name-test.true c.loop-name.invariant.left)
          (subst (λ list. Appends now later (text_of list)) c.loop-name-item.is (rw c.as_slice.ensures at c.in_ok-write_list.ensures.whole));
    }

pub returns-in_err-write_list-clause-part : goal.returns-in_err-write_list-clause-part
returns-in_err-write_list-clause-part g c =
    let now = g.W.Write.contents c.loop-name.out in
    let later = g.W.Write.contents c.write_list.new.out in
    of_fault c.from_residual.result
    (next_cut later (next_of text_of c.args.lists.now c.loop-name.name-index c.loop-name-item.result c.loop-name-test.true c.loop-name.invariant.left)
    (subst (λ list. Begins (text_of list) now later) c.loop-name-item.is (rw c.as_slice.ensures at c.in_err-write_list.ensures.part)))
