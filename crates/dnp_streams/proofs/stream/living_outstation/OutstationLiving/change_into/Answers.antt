use Rattle.std.proofs.Common.{◌≡◌, ap}
use Rattle.std.specs.Prelude.{⊤}
use Rattle.dnp_pointdb.specs.Database.{answer_of}
use Rattle.dnp_outstation.specs.Calls.{change_of}
use Rattle.dnp_outstation.specs.Parts.{core_of, whole_of}
use Rattle.dnp_outstation.specs.Station.{actions_of}
use Rattle.dnp_streams.proofs.streams.Changing.{taken_by_points, message_of_points}
use Rattle.dnp_streams.proofs.stream.living_outstation.OutstationLiving.change_into.Goals as goal

pub returns-in-Ok-clause-answered : goal.returns-in-Ok-clause-answered
returns-in-Ok-clause-answered g c honest =
    let change = c.args.change.now in
    let old = whole_of g.L.Lanes.contents g.O.Outputs.panel c.args.self.now in
    let new = whole_of g.L.Lanes.contents g.O.Outputs.panel c.change_into.new.self in
    let (made, taken, step) =
    taken_by_points {A = ⊤} _ (answer_of (core_of c.args.self.now).points change.kind change.index change.reading) tt
    (λ made. change_of old c.args.now change.kind change.index change.reading made ≡ record { state = new; does = actions_of c.change_into.new.actions })
    c.in-Ok.ensures.refused (c.in-Ok.ensures.changed honest.0) in
    record { made = made; taken = taken; does = actions_of c.change_into.new.actions; step = step; answered = c.done.ensures; outputs = ap g.O.Outputs.panel c.in-Ok.ensures.outputs }

pub returns-in-Err-clause-refused : goal.returns-in-Err-clause-refused
returns-in-Err-clause-refused g c honest =
    let change = c.args.change.now in
    record {
      message =
          message_of_points _ _ (answer_of (core_of c.args.self.now).points change.kind change.index change.reading) c.in-Err.fault c.change_fault.result
          c.change_fault.ensures c.in-Err.ensures.refused c.in-Err.ensures.named;
    }
