use Rattle.std.proofs.Common.{◌≡◌, ◌++◌, ◌∙◌, ap, arith, length, length-append, subst, sym}
use Rattle.dnp_eventbuf.specs.EventBuffer.{LaneState}
use Rattle.dnp_eventbuf.proofs.InOrder.{few_pass, is_up_to, rises_back}
use Rattle.dnp_eventbuf.proofs.Offers.{Rises}
use Rattle.dnp_eventbuf.proofs.lane_of.LaneOf.count_up_to.Goals as goal

pub cut-requires-2 : goal.cut-requires-2
cut-requires-2 g c =
    let all = c.runs.ensures ∙ ap (λ (l : LaneState). l.rows) c.self.view_is in
    record { rising = rises_back c.runs.result.0.now c.runs.result.1.now (subst Rises (sym all) c.requires.rising) }

pub returns-clause-few : goal.returns-clause-few
returns-clause-few g c =
    let front = c.runs.result.0.now in
    let back = c.runs.result.1.now in
    let all : front ++ back ≡ c.args.self.now.rows = c.runs.ensures ∙ ap (λ (l : LaneState). l.rows) c.self.view_is in
    let fits = c.len.type_inv in
    omega (
      arith,
      ap length all,
      length-append front back,
      few_pass (is_up_to c.args.upto) front,
      few_pass (is_up_to c.args.upto) back,
      ap length c.cut.ensures.front,
      ap length c.cut-2.ensures.front,
      c.len.ensures,
    )
