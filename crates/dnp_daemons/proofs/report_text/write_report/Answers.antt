use Rattle.dnp_daemons.proofs.ReportLists.{unwritten}
use Rattle.dnp_daemons.proofs.Written.{next_written, next_cut, all_written, of_fault}
use Rattle.dnp_daemons.proofs.report_text.write_report.Goals as goal

pub returns-in_err-write_lists-clause-part : goal.returns-in_err-write_lists-clause-part
returns-in_err-write_lists-clause-part g c =
    of_fault c.from_residual.result (next_cut _ (unwritten _ c.args.report.now) c.in_err-write_lists.ensures.part)

pub returns-in_err-write_list-clause-part : goal.returns-in_err-write_list-clause-part
returns-in_err-write_list-clause-part g c =
    let lists = next_written (unwritten _ c.args.report.now) c.in_ok-write_lists.ensures.whole in
    of_fault c.from_residual-in_err-write_list.result (next_cut _ lists (rw c.as_slice.ensures at c.in_err-write_list.ensures.part))

pub returns-in_err-write_list-2-clause-part : goal.returns-in_err-write_list-2-clause-part
returns-in_err-write_list-2-clause-part g c =
    let lists = next_written (unwritten _ c.args.report.now) c.in_ok-write_lists.ensures.whole in
    let issued = next_written lists (rw c.as_slice.ensures at c.in_ok-write_list.ensures.whole) in
    of_fault c.from_residual-in_err-write_list-2.result (next_cut _ issued (rw c.as_slice-2.ensures at c.in_err-write_list-2.ensures.part))

pub returns-in_err-write_count-clause-part : goal.returns-in_err-write_count-clause-part
returns-in_err-write_count-clause-part g c =
    let lists = next_written (unwritten _ c.args.report.now) c.in_ok-write_lists.ensures.whole in
    let issued = next_written lists (rw c.as_slice.ensures at c.in_ok-write_list.ensures.whole) in
    let operated = next_written issued (rw c.as_slice-2.ensures at c.in_ok-write_list-2.ensures.whole) in
    of_fault c.from_residual-in_err-write_count.result (next_cut _ operated c.in_err-write_count.ensures.part)

pub returns-in_err-write_count-2-clause-part : goal.returns-in_err-write_count-2-clause-part
returns-in_err-write_count-2-clause-part g c =
    let lists = next_written (unwritten _ c.args.report.now) c.in_ok-write_lists.ensures.whole in
    let issued = next_written lists (rw c.as_slice.ensures at c.in_ok-write_list.ensures.whole) in
    let operated = next_written issued (rw c.as_slice-2.ensures at c.in_ok-write_list-2.ensures.whole) in
    let lost = next_written operated c.in_ok-write_count.ensures.whole in
    of_fault c.from_residual-in_err-write_count-2.result (next_cut _ lost c.in_err-write_count-2.ensures.part)

pub returns-clause-whole : goal.returns-clause-whole
returns-clause-whole g c =
    let lists = next_written (unwritten _ c.args.report.now) c.in_ok-write_lists.ensures.whole in
    let issued = next_written lists (rw c.as_slice.ensures at c.in_ok-write_list.ensures.whole) in
    let operated = next_written issued (rw c.as_slice-2.ensures at c.in_ok-write_list-2.ensures.whole) in
    let lost = next_written operated c.in_ok-write_count.ensures.whole in
    all_written (next_written lost c.in_ok-write_count-2.ensures.whole)
