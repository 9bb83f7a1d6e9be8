use Rattle.std.proofs.Common.{ℕ, refl, ap, subst}
use Rattle.dnp_concentrator.specs.Concentrator.{above_of, core_of, outputs_of, panel_above}
use Rattle.dnp_concentrator.specs.Reserving.{reserved_by}
use Rattle.dnp_outstation.specs.Calls.{performed_in}
use Rattle.dnp_outstation.specs.State.{Core}
use Rattle.dnp_outstation.specs.Station.{actions_of}
use Rattle.dnp_streams.specs.streams.Concentrators.{AboveReceives, above_seen, seen_at}
use Rattle.dnp_streams.specs.streams.Outstations.{RefusesFragment}
use Rattle.dnp_streams.specs.streams.Stations.{answer_in}
use Rattle.dnp_streams.proofs.streams.AboveSteps.{above_is, performed_above}
use Rattle.dnp_streams.proofs.streams.Refused.{no_message_above}
use Rattle.dnp_streams.proofs.stream.above.AboveStation.receive_into.Goals as goal

pub returns-in-Ok-clause-answered : goal.returns-in-Ok-clause-answered
returns-in-Ok-clause-answered g c honest =
    let old = c.args.self.now.concentrator.now in
    let new = c.receive_above.new.self in
    let at = c.centre-centre.result in
    let contents = g.Q.PairLanes.contents in
    let ledger = g.B.Book.contents in
    let commands = performed_in (core_of at old) (panel_above ledger at c.args.now old) c.args.now c.args.octets.now in
    let outputs = c.in-Ok.ensures.outputs in
    let performed = performed_above ledger (outputs_of old) (outputs_of new) commands outputs.idle (outputs.performed honest.1) in
    let Answered : ℕ → Type 0 = λ centre.
    AboveReceives (above_seen contents ledger old centre) c.args.now c.args.octets.now (answer_in c.done.new.self) (above_seen contents ledger new centre) in
    let answered : Answered at = record {
      does = actions_of c.receive_above.new.actions;
      step = c.in-Ok.ensures.received honest.0 honest.1;
      answered = c.done.ensures;
      after =
          above_is (above_of contents ledger at new) _ _ _ _ _ _ performed.0 performed.1 (ap (λ (core : Core). reserved_by core) c.in-Ok.ensures.other);
    } in
    subst Answered c.centre-centre.ensures.number answered

pub returns-in-Err-clause-refused : goal.returns-in-Err-clause-refused
returns-in-Err-clause-refused g c honest =
    let old = c.args.self.now.concentrator.now in
    let Refused : ℕ → Type 0 = λ centre.
    RefusesFragment (seen_at (above_seen g.Q.PairLanes.contents g.B.Book.contents old centre) c.args.now) c.args.now c.args.octets.now c.cause_of.result in
    let refused : Refused c.centre-centre.result = record {
      looked_at = c.in-Err.ensures.looked_at refl;
      held = c.in-Err.ensures.asks_held refl;
      inside = c.in-Err.ensures.asks_inside refl;
      message = no_message_above c.cause_of.result c.from.result c.cause_of.ensures;
    } in
    subst Refused c.centre-centre.ensures.number refused
