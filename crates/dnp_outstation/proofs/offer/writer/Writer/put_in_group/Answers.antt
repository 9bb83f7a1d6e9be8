use Rattle.std.proofs.Common.{◌≡◌, ◌∙◌, ap, sym, subst, ℕ, map, Option, Some, take}
use Rattle.std.specs.List.{All}
use Rattle.std.specs.Option.{IsSomeAnd, unwrap_or}
use Rattle.dnp_objects.specs.Relative.{FitsRelative}
use Rattle.dnp_appfragment.specs.Built.{context_of, objects_put, with_objects}
use Rattle.dnp_appfragment.specs.Written.{relative}
use Rattle.dnp_outstation.specs.steps.Putting.{passed_rows}
use Rattle.dnp_outstation.proofs.ListedRuns.{IsListed, all_rows, group_goes, listed_first, listed_stops}
use Rattle.dnp_outstation.proofs.PutLists.{rows_in, said}
use Rattle.dnp_outstation.proofs.offer.writer.Writer.put_in_group.Goals.{After-pass_rows}
use Rattle.dnp_outstation.proofs.offer.writer.Writer.put_in_group.Goals as goal

pub relatives-put-requires-clause-fits : goal.relatives-put-requires-clause-fits
relatives-put-requires-clause-fits c =
    subst (λ (o : Option ℕ). IsSomeAnd o (λ common. All (FitsRelative common) (rows_in c.split_at.result.0.now))) (sym c.requires.there)
    (all_rows (FitsRelative c.args.common) c.in_reach.result c.args.rows.now c.split_at.result.0.now c.split_at.ensures.front
    (c.in_reach.ensures.tells c.requires.events))

says : (c : After-pass_rows)
    → map (relative (unwrap_or (context_of c.args.self.now.builder) 0)) (rows_in c.split_at.result.0.now) ≡ said (Some c.args.common) c.split_at.result.0.now
says c = ap (λ (o : Option ℕ). map (relative (unwrap_or o 0)) (rows_in c.split_at.result.0.now)) c.requires.there

listed : (c : After-pass_rows)
    → IsListed c.args.self.now c.pass_rows.new.self c.args.header c.args.is_open c.args.lane (Some c.args.common) c.in_reach.result c.args.rows.now
    c.split_at.result.0.now c.split_at.result.1.now c.relatives-put.result
listed c = record {
  stands = record { run = c.requires.run; continues = c.requires.continues; under = c.requires.header; there = c.requires.there };
  own_is = c.split_at.ensures.front;
  left_is = c.split_at.ensures.back;
  tells = c.in_reach.ensures.tells c.requires.events;
  goes = group_goes c.args.self.now.waiting c.args.header c.args.is_open c.args.lane c.args.common _ _ c.requires.laid c.in_reach.ensures.near;
  put = c.relatives-put.ensures.count ∙ ap (objects_put c.args.self.now.builder) (says c);
  few = c.relatives-put.ensures.few;
  is =
      c.pass_rows.ensures
      ∙ (λ i. passed_rows (record c.args.self.now { builder = (c.relatives-put.ensures.put ∙ ap (with_objects c.args.self.now.builder) (says c)) i })
      (c.requires.header i) c.args.lane (take c.relatives-put.result c.split_at.result.0.now));
}

pub returns-then-put-own-clause-stop : goal.returns-then-put-own-clause-stop
returns-then-put-own-clause-stop c = λ _.
    listed_stops c.a_common_time_stays.ensures.object c.args.self.now c.pass_rows.new.self c.args.header c.args.is_open c.args.lane (Some c.args.common)
    c.in_reach.result c.args.rows.now c.split_at.result.0.now c.split_at.result.1.now c.relatives-put.result
    (listed (goal.at.returns-then-put-own-clause-stop c).After-pass_rows) c.if-put-own.true

pub returns-clause-put : goal.returns-clause-put
returns-clause-put c =
    listed_first c.a_common_time_stays.ensures.object c.args.self.now c.pass_rows.new.self c.args.header c.args.is_open c.args.lane (Some c.args.common)
    c.in_reach.result c.args.rows.now c.split_at.result.0.now c.split_at.result.1.now c.relatives-put.result
    (listed (goal.at.returns-clause-put c).After-pass_rows) c.requires.none c.if-put-own.false
