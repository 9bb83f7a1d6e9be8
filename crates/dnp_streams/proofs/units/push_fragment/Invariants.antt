use Rattle.std.specs.Prelude.{map}
use Rattle.dnp_linkstation.specs.Station.{ends, sent}
use Rattle.dnp_transport.specs.Cuts.{cuts}
use Rattle.dnp_streams.proofs.Lines.{IsBegun}
use Rattle.dnp_streams.proofs.units.push_fragment.Given as goal

abbrev pub invariant-loop-k : goal.invariant-loop-k
invariant-loop-k l =
    IsBegun (ends l.port.link) l.fragment l.port.number l.fn.text.items (map (sent (ends l.port.link)) (cuts l.fragment l.port.number)) l.k l.count l.text.items
