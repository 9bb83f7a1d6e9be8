use Rattle.std.proofs.Common.{◌≡◌, ◌∷◌, ◌++◌, ℕ, Bool, IsTrue, true, false, ap, subst, sym, ◌∙◌, arith, rules, length, map}
use Rattle.dnp_appfragment.specs.Left.{Left}
use Rattle.dnp_appfragment.specs.Seen.{head}
use Rattle.dnp_eventbuf.specs.EventBuffer.{EventBuffer}
use Rattle.dnp_outstation.specs.steps.Filling.{after_release, fill, reached}
use Rattle.dnp_outstation.specs.Items.{items_of, part_of, parts_left}
use Rattle.dnp_outstation.specs.steps.Grouping.{opened}
use Rattle.dnp_outstation.specs.steps.Putting.{LeavesOpen}
use Rattle.dnp_outstation.proofs.OfferParts.{part_put, part_full, none_left}
use Rattle.dnp_outstation.proofs.offer.writer.Writer.put_headers.Goals as goal

pub loop-header-preserved : goal.loop-header-preserved
loop-header-preserved g c =
    let l = c.loop-header in
    let from = c.args.from.now in
    let put = c.in_ok-put_part.ensures in
    let left : l.header-iterator.headers ≡ head c.in-Some.header ∷ c.next.new.self.headers = c.in-Some.ensures.steps.0 in
    let fits : IsTrue c.in_ok-put_part.field-0 = search rules in
    record {
      few = (let one = ap length left in let before = l.invariant.few in omega arith);
      written = λ honest s points panel lanes may leaves.
          let before = put.look.held honest in
          let here : s.lanes ≡ after_release (g.L.Lanes.contents l.lanes) from.released.now =
          lanes ∙ ap (λ (t : EventBuffer). after_release t from.released.now) (sym (l.invariant.same before)) in
          let all = l.invariant.written before s points panel lanes may leaves in
          let opens : LeavesOpen may l.at (head c.in-Some.header ∷ c.next.new.self.headers) = subst (LeavesOpen may l.at) left all.0 in (
            opens.1,
            λ more.
                part_put may s from.stood (reached l.self) (reached c.put_part.new.self) l.at l.count l.header-iterator.headers
                (head c.in-Some.header) c.next.new.self.headers
                l.self c.put_part.new.self c.in_ok-put_part.field-0 more left opens.0 (put.written honest s points panel here) c.if-not-branch.false
                (put.given honest s points panel here fits)
                ∙ all.1 more,
          );
      response = put.response ∙ l.invariant.response;
      held = λ honest. l.invariant.held (put.look.held honest);
      same = λ honest. put.look.same honest ∙ l.invariant.same (put.look.held honest);
      place = put.look.place ∙ l.invariant.place;
      beside = λ honest. put.look.beside honest ∙ l.invariant.beside (put.look.held honest);
      runs_on = search rules;
    }

pub returns-then-not-branch-clause-written : goal.returns-then-not-branch-clause-written
returns-then-not-branch-clause-written g c = λ honest s points panel lanes may leaves more.
    let l = c.loop-header in
    let from = c.args.from.now in
    let put = c.in_ok-put_part.ensures in
    let left : l.header-iterator.headers ≡ head c.in-Some.header ∷ c.next.new.self.headers = c.in-Some.ensures.steps.0 in
    let full : c.in_ok-put_part.field-0 ≡ false = search rules in
    let same = c.into_iter-header-iterator.ensures.into_iter_gives in
    let before = put.look.held honest in
    let here : s.lanes ≡ after_release (g.L.Lanes.contents l.lanes) from.released.now =
    lanes ∙ ap (λ (t : EventBuffer). after_release t from.released.now) (sym (l.invariant.same before)) in
    let all = l.invariant.written before s points panel lanes may (subst (λ (it : Left). LeavesOpen may c.args.first it.headers) (sym same) leaves) in
    let opens : LeavesOpen may l.at (head c.in-Some.header ∷ c.next.new.self.headers) = subst (LeavesOpen may l.at) left all.0 in
    ap (λ (it : Left). fill c.args.self.now (map (opened may)
    (items_of s from.stood (reached c.args.self.now) c.args.first (parts_left c.args.given (map (part_of s) it.headers))) ++ more)) (sym same)
    ∙ sym (all.1 more)
    ∙ part_full may s from.stood (reached l.self) l.at l.count l.header-iterator.headers (head c.in-Some.header) c.next.new.self.headers
    l.self c.put_part.new.self c.in_ok-put_part.field-0 more left opens.0 (put.written honest s points panel here) full

pub returns-clause-written : goal.returns-clause-written
returns-clause-written g c = λ honest s points panel lanes may leaves more.
    let l = c.loop-header in
    let from = c.args.from.now in
    let same = c.into_iter-header-iterator.ensures.into_iter_gives in
    let all = l.invariant.written honest s points panel lanes may (subst (λ (it : Left). LeavesOpen may c.args.first it.headers) (sym same) leaves) in
    ap (λ (it : Left). fill c.args.self.now (map (opened may)
    (items_of s from.stood (reached c.args.self.now) c.args.first (parts_left c.args.given (map (part_of s) it.headers))) ++ more)) (sym same)
    ∙ sym (all.1 more)
    ∙ none_left may s from.stood (reached l.self) l.at l.count l.header-iterator.headers l.self more c.in-None.ensures.steps.0.0
