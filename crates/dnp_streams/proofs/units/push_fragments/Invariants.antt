use Rattle.std.specs.Prelude.{drop}
use Rattle.dnp_linkstation.specs.Station.{ends}
use Rattle.dnp_outstation.specs.Station.{sent_of}
use Rattle.dnp_streams.specs.Units.{frames_of}
use Rattle.dnp_streams.proofs.Lines.{AreBegun}
use Rattle.dnp_streams.proofs.units.push_fragments.Given as goal

abbrev pub invariant-loop-fragment : goal.invariant-loop-fragment
invariant-loop-fragment l =
    AreBegun (ends l.fn.port.link) l.fn.text.items (frames_of (ends l.fn.port.link) l.fn.port.number (sent_of l.fragments))
    (ends l.port.link) l.port.number (drop l.fragment-index l.fragments) l.text.items
