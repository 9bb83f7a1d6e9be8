use Rattle.std.proofs.Common.{◌≡◌, [], false}
use Rattle.dnp_streams.specs.streams.Dialogues.{unbegun}
use Rattle.dnp_streams.specs.streams.Stations.{endpoint}
use Rattle.dnp_streams.specs.steps.Asking.{Awaits, Talking, dialogue_of}
use Rattle.dnp_streams.specs.links.Deeds.{ways}
use Rattle.dnp_streams.proofs.stream.ask.ask_on.Given as goal

abbrev pub invariant-loop : goal.invariant-loop
invariant-loop g l =
    (l.dialogue.link.pending ≡ [])
    × (l.dialogue.link.waiting ≡ [])
    × Awaits g.S.Station.asking.is_idle (g.S.Station.state l.station) l.dialogue.agenda
    × (g.S.Station.honest l.station → g.S.Station.honest l.fn.station)
    × (g.S.Station.honest l.station → Talking (ways g.S.Station.opens g.S.Station.receives g.S.Station.asking g.S.Station.life) l.now l.counter
    (unbegun (endpoint (g.S.Station.state l.fn.station) l.fn.dialogue.link.port) l.fn.dialogue.agenda.left.now) (g.R.Read.remaining l.fn.reader) (g.R.Read.remaining l.reader)
    (g.W.Write.contents l.fn.out) (g.W.Write.contents l.out) (dialogue_of (g.S.Station.state l.station) l.dialogue.link.port l.dialogue.agenda) l.dialogue.link)
    × (g.S.Station.kept l.station ≡ g.S.Station.kept l.fn.station)
    × (l.dialogue.log ≡ record { reads = l.counter; read_failed = false; write_failed = false })
