use Rattle.dnp_concentrator.specs.Centre.{journal_of, link_of}
use Rattle.dnp_eventbuf.specs.Archive.{passes_limit}
use Rattle.dnp_streams.proofs.streams.Refused.{refused_rows}
use Rattle.dnp_streams.proofs.streams.Told.{tells_device, was_device, was_memory}
use Rattle.dnp_streams.proofs.stream.centre.CentreStation.receive_into.Goals as goal

pub returns-in-Err-clause-refused : goal.returns-in-Err-clause-refused
returns-in-Err-clause-refused g c honest =
    let old = c.args.self.now in
    refused_rows (link_of old).master c.args.now c.args.octets.now (λ t. passes_limit (g.J.JournalStore.archive (journal_of old)) t.events)
    c.in-Err.fault c.fault_of.result c.fault_of.ensures c.in-Err.ensures.named (c.in-Err.ensures.exhausted honest.0)

pub returns-in-Err-clause-stopped : goal.returns-in-Err-clause-stopped
returns-in-Err-clause-stopped g c = λ is. c.in-Err.ensures.journal.device_stops (was_device c.in-Err.fault c.fault_of.result c.fault_of.ensures is)

pub returns-in-Err-clause-runs_on : goal.returns-in-Err-clause-runs_on
returns-in-Err-clause-runs_on g c = λ other. c.in-Err.ensures.journal.runs_on (λ is. other (tells_device c.in-Err.fault c.fault_of.result c.fault_of.ensures is))

pub returns-in-Err-clause-exhausted_first : goal.returns-in-Err-clause-exhausted_first
returns-in-Err-clause-exhausted_first g c = λ honest is.
    c.in-Err.ensures.exhausted_first honest (was_memory c.in-Err.fault c.fault_of.result c.fault_of.ensures is)
