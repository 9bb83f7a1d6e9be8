use Rattle.std.proofs.Common.{◌∙◌, ap, sym, subst, None, take, drop}
use Rattle.std.proofs.lemmas.List.Elements.{All-take}
use Rattle.dnp_eventbuf.specs.declared.numbered.Numbered.{Numbered}
use Rattle.dnp_objects.specs.Events.{IsEvent}
use Rattle.dnp_appfragment.specs.Written.{IsOf}
use Rattle.dnp_outstation.specs.declared.offer.grouping.Waiting.{Waiting}
use Rattle.dnp_outstation.specs.steps.Grouping.{waiting_items}
use Rattle.dnp_outstation.specs.steps.Putting.{GoOn, passed_rows}
use Rattle.dnp_outstation.proofs.ListedRuns.{IsListed, all_rows, listed_first, listed_stops}
use Rattle.dnp_outstation.proofs.offer.writer.Writer.put_lone.Goals.{After-pass_rows}
use Rattle.dnp_outstation.proofs.offer.writer.Writer.put_lone.Goals as goal

pub events-put-requires-clause-fits : goal.events-put-requires-clause-fits
events-put-requires-clause-fits c =
    all_rows IsEvent c.alone.result c.args.rows.now c.split_at.result.0.now c.split_at.ensures.front
    (All-take (λ (x : Numbered). IsEvent x.row) c.alone.result c.args.rows.now c.requires.events)

pub events-put-requires-clause-same : goal.events-put-requires-clause-same
events-put-requires-clause-same c =
    all_rows (IsOf c.in-Some.first.now.row.kind c.is_some-has_time.result) c.alone.result c.args.rows.now c.split_at.result.0.now c.split_at.ensures.front
    c.alone.ensures.alike

listed : (c : After-pass_rows)
    → IsListed c.args.self.now c.pass_rows.new.self c.args.header c.args.is_open c.args.lane None c.alone.result c.args.rows.now
    c.split_at.result.0.now c.split_at.result.1.now c.events-put.result
listed c = record {
  stands = record { run = c.requires.run; continues = c.requires.continues; under = c.requires.header; there = tt };
  own_is = c.split_at.ensures.front;
  left_is = c.split_at.ensures.back;
  tells = λ k d less. tt;
  goes =
      subst (λ (v : Waiting). GoOn v c.args.header c.args.is_open c.args.lane None (take c.alone.result c.args.rows.now)
      (drop c.alone.result c.args.rows.now)) (sym c.requires.nothing)
      (c.alone.ensures.goes c.args.header c.args.lane);
  put = c.events-put.ensures.count;
  few = c.events-put.ensures.few;
  is =
      c.pass_rows.ensures
      ∙ (λ i. passed_rows (record c.args.self.now { builder = c.events-put.ensures.put i }) (c.requires.header i) c.args.lane
      (take c.events-put.result c.split_at.result.0.now));
}

pub returns-then-put-own-clause-stop : goal.returns-then-put-own-clause-stop
returns-then-put-own-clause-stop c = λ _.
    listed_stops c.a_common_time_stays.ensures.object c.args.self.now c.pass_rows.new.self c.args.header c.args.is_open c.args.lane None
    c.alone.result c.args.rows.now c.split_at.result.0.now c.split_at.result.1.now c.events-put.result
    (listed (goal.at.returns-then-put-own-clause-stop c).After-pass_rows) c.if-put-own.true

pub returns-clause-put : goal.returns-clause-put
returns-clause-put c =
    listed_first c.a_common_time_stays.ensures.object c.args.self.now c.pass_rows.new.self c.args.header c.args.is_open c.args.lane None
    c.alone.result c.args.rows.now c.split_at.result.0.now c.split_at.result.1.now c.events-put.result
    (listed (goal.at.returns-clause-put c).After-pass_rows) (ap waiting_items c.requires.nothing) c.if-put-own.false
