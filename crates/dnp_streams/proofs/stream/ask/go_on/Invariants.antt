use Rattle.std.proofs.Common.{◌≡◌, ◌≤◌, ℕ, List, Option, true, [], length}
use Rattle.dnp_streams.specs.streams.Dialogues.{Dialogue}
use Rattle.dnp_streams.specs.steps.Asking.{Talking, dialogue_of}
use Rattle.dnp_streams.specs.links.Deeds.{ways}
use Rattle.dnp_streams.proofs.stream.ask.go_on.Given as goal

abbrev pub invariant-loop : goal.invariant-loop
invariant-loop g l =
    (l.dialogue.agenda.is_begun ≡ true)
    × (l.dialogue.link.pending ≡ [])
    × (l.dialogue.link.waiting ≡ l.fn.dialogue.link.waiting)
    × (g.S.Station.honest l.station → g.S.Station.honest l.fn.station)
    × (g.S.Station.honest l.station → (reads : ℕ) (began : Dialogue g.S.Station.State) (left left' from : Option (List ℕ))
    → Talking (ways g.S.Station.opens g.S.Station.receives g.S.Station.asking g.S.Station.life) l.now reads began left left' from (g.W.Write.contents l.fn.out)
    (dialogue_of (g.S.Station.state l.fn.station) l.fn.dialogue.link.port l.fn.dialogue.agenda) l.fn.dialogue.link
    → (t : Talking (ways g.S.Station.opens g.S.Station.receives g.S.Station.asking g.S.Station.life) l.now reads began left left' from (g.W.Write.contents l.out)
    (dialogue_of (g.S.Station.state l.station) l.dialogue.link.port l.dialogue.agenda) l.dialogue.link) × (l.counter ≤ length t.steps))
    × (g.S.Station.kept l.station ≡ g.S.Station.kept l.fn.station)
    × (l.dialogue.log ≡ l.fn.dialogue.log)
