use Rattle.std.proofs.Common.{subst}
use Rattle.dnp_concentrator.specs.Centre.{book_of, journal_of}
use Rattle.dnp_streams.specs.streams.Centres.{centre_hung_up, centre_seen}
use Rattle.dnp_nodes.specs.CallerCalls.{IsTicked}
use Rattle.dnp_nodes.specs.CentreNodes.{centre_ways}
use Rattle.dnp_nodes.proofs.centre_node.CentreNode.issue.Goals as goal

pub returns-clause-issued : goal.returns-clause-issued
returns-clause-issued g c =
    let J = g.J.JournalStore in
    let B = g.B.Book in
    let is = c.issue-issued.ensures in
    let time = c.tick.ensures in
    let seen = centre_seen J.archive B.contents in
    record {
      centre = c.issue-issued.new.self;
      issued = record { no_output = is.no_output; adds = is.added; id = is.id; leaves = is.book; journal = is.journal };
      held = time.held;
      ticked = subst (λ link. IsTicked centre_ways centre_hung_up (g.J.Sink.honest (journal_of c.tick.new.station) × B.honest (book_of c.tick.new.station)) c.args.now link (seen c.issue-issued.new.self) c.tick.new.self (seen c.tick.new.station)) c.look_for_control.ensures
          (record { waited = time.waited; over = time.over; passes = time.passes; full = time.full; rests = time.rests; basis = time.basis });
    }
