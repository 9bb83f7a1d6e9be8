use Rattle.std.proofs.Common.{sym}
use Rattle.dnp_objects.specs.Events.{IsEvent}
use Rattle.dnp_appfragment.specs.Headers.{count_of}
use Rattle.dnp_appfragment.specs.Meaning.{row_in}
use Rattle.dnp_appfragment.specs.Seen.{head}
use Rattle.dnp_appfragment.proofs.EventRows.{walked, all_walked}
use Rattle.dnp_appfragment.proofs.RelativeRows.{any_row_past, any_row_there}
use Rattle.dnp_appfragment.proofs.Walked.{long_as, no_longer}
use Rattle.dnp_appfragment.proofs.header.Header.rows.Goals as goal

pub returns-clause-few : goal.returns-clause-few
returns-clause-few c =
    let h = c.args.self.now in
    no_longer c.new.result (row_in (head h)) (count_of h.range) c.new.ensures (any_row_past (head h))

pub returns-clause-counted : goal.returns-clause-counted
returns-clause-counted c = λ has.
    let h = c.args.self.now in
    long_as c.new.result (row_in (head h)) (count_of h.range) c.new.ensures (λ k. any_row_there (head h) k has)
    (any_row_past (head h))

pub returns-clause-all : goal.returns-clause-all
returns-clause-all c =
    let h = head c.args.self.now in
    sym (walked c.new.result (row_in h) (count_of h.range) c.new.ensures (returns-clause-few c))

pub returns-clause-events : goal.returns-clause-events
returns-clause-events c =
    let h = head c.args.self.now in
    all_walked IsEvent c.new.result (row_in h) c.new.ensures (λ k row is. c.rows_are_events.ensures h k row
    ((c.objects_say_rows_and_commands.ensures.row h k row c.a_slice_is_of_octets.ensures.each).0 is))
