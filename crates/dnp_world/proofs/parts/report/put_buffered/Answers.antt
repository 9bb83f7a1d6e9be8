-- The rows of the lanes are listed, and the lanes are what they were.
use Rattle.std.proofs.Common.{◌∙◌, ◌++◌, List, map, ap}
use Rattle.dnp_objects.specs.declared.row.Row.{Row}
use Rattle.dnp_eventbuf.specs.declared.numbered.Numbered.{Numbered}
use Rattle.dnp_eventbuf.specs.EventBuffer.{EventBuffer, row_of}
use Rattle.dnp_outstation.specs.Parts.{lanes_of}
use Rattle.dnp_world.specs.ReportShown.{all_in}
use Rattle.dnp_world.specs.Systems.{at_substation}
use Rattle.dnp_world.proofs.ReportReading.{all_rows_in}
use Rattle.dnp_world.proofs.parts.report.put_buffered.Goals as goal

pub returns-clause-rows : goal.returns-clause-rows
returns-clause-rows c =
    let before = c.args.list.now.items in
    let substation = c.args.substation in
    c.in_ok-put_rows_of.ensures
    ∙ ap (λ (rows : List Numbered). before ++ at_substation substation (map row_of rows)) (c.as_slice.ensures.value ∙ c.in_ok-rows.ensures.rows tt)
    ∙ ap (λ (s : EventBuffer). before ++ at_substation substation (map row_of (all_in s))) (c.all_rows.ensures.same tt ∙ c.lanes.ensures.value)
    ∙ ap (λ (rows : List Row). before ++ at_substation substation rows) (all_rows_in (lanes_of c.args.below.now.outstation))
