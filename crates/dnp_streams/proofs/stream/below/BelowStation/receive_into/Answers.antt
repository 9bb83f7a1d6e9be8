use Rattle.std.proofs.Common.{rules, ◌<◌, length, ap, arith}
use Rattle.std.proofs.lemmas.Result.{MatchResult-at_ok}
use Rattle.dnp_concentrator.specs.Concentrator.{links_of, taking_at, link_at, queue_of, queued_at}
use Rattle.dnp_concentrator.specs.BookOutputs.{book_in, map_in}
use Rattle.dnp_streams.specs.streams.Concentrators.BelowReceives.{Taken}
use Rattle.dnp_streams.proofs.streams.Taken.{taken, answered, seen}
use Rattle.dnp_eventbuf.specs.Sides.{either_exhausts}
use Rattle.dnp_streams.proofs.streams.Refused.{refused_rows}
use Rattle.dnp_streams.proofs.streams.Told.{tells_device, was_device, was_memory}
use Rattle.dnp_streams.proofs.stream.below.BelowStation.receive_into.Goals as goal

pub returns-in-Ok-clause-answered : goal.returns-in-Ok-clause-answered
returns-in-Ok-clause-answered g c honest =
    let old = c.args.self.now.concentrator.now in
    let at = c.args.self.now.substation in
    let told = c.in-Ok.ensures in
    let there : at < length (links_of old) = search rules in
    let found = taken (taking_at old at c.args.now c.args.octets.now) (c.in-Ok.actions, c.in-Ok.field-0-1) told.refused in
    let links = MatchResult-at_ok _ _ found.0 found.1 told.link in
    let cores = MatchResult-at_ok _ _ found.0 found.1 told.readings in
    let queues = MatchResult-at_ok _ _ found.0 found.1 (told.queued honest.0) in
    let by = MatchResult-at_ok _ _ found.0 found.1 told.actions in
    Taken there found.0 found.1 (answered _ _ found.0 _ c.take.ensures.answer by)
    (seen at links (cores 0 (omega arith)) (cores 1 (omega arith)) (ap (λ outputs. map_in outputs) told.outputs) told.plan
    (queues 0 (omega arith)) (queues 1 (omega arith)) (ap (λ outputs. g.B.Book.contents (book_in outputs)) told.outputs))

pub returns-clause-refused : goal.returns-clause-refused
returns-clause-refused g c honest =
    let old = c.args.self.now.concentrator.now in
    let at = c.args.self.now.substation in
    let there : at < length (links_of old) = search rules in
    record {
      there = there;
      by_rows =
          refused_rows (link_at old at).master c.args.now c.args.octets.now
          (λ t. either_exhausts (g.Q.PairLanes.contents (queue_of old)) (queued_at old at t.events)) c.in-Err.fault c.fault_of.result c.fault_of.ensures
          c.in-Err.ensures.named (c.in-Err.ensures.exhausted honest.0);
    }

pub returns-clause-stopped : goal.returns-clause-stopped
returns-clause-stopped g c = λ is. c.in-Err.ensures.queue.device_stops (was_device c.in-Err.fault c.fault_of.result c.fault_of.ensures is)

pub returns-clause-runs_on : goal.returns-clause-runs_on
returns-clause-runs_on g c = λ other. c.in-Err.ensures.queue.runs_on (λ is. other (tells_device c.in-Err.fault c.fault_of.result c.fault_of.ensures is))

pub returns-clause-exhausted_first : goal.returns-clause-exhausted_first
returns-clause-exhausted_first g c = λ honest is.
    c.in-Err.ensures.exhausted_first honest (was_memory c.in-Err.fault c.fault_of.result c.fault_of.ensures is)
