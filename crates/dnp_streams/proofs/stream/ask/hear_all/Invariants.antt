use Rattle.std.proofs.Common.{◌≡◌, false, [], length}
use Rattle.dnp_streams.specs.steps.Asking.{Awaits, TalksOn}
use Rattle.dnp_streams.specs.links.Deeds.{ways}
use Rattle.dnp_streams.proofs.stream.ask.hear_all.Given as goal

abbrev pub invariant-loop-dialogue : goal.invariant-loop-dialogue
invariant-loop-dialogue g l =
    (l.dialogue.link.pending ≡ [])
    × Awaits g.S.Station.asking.is_idle (g.S.Station.state l.station) l.dialogue.agenda
    × (g.S.Station.honest l.station → g.S.Station.honest l.fn.station)
    × (g.S.Station.honest l.station → TalksOn (ways g.S.Station.opens g.S.Station.receives g.S.Station.asking g.S.Station.life) l.now false
    (g.S.Station.state l.fn.station) l.fn.dialogue (g.W.Write.contents l.fn.out) (g.S.Station.state l.station) l.dialogue (g.W.Write.contents l.out))
    × (g.S.Station.kept l.station ≡ g.S.Station.kept l.fn.station)
    × (l.dialogue.log ≡ l.fn.dialogue.log)

abbrev pub decreases-loop-dialogue : goal.decreases-loop-dialogue
decreases-loop-dialogue g l = length l.dialogue.link.waiting
