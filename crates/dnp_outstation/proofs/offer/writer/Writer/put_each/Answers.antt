use Rattle.std.proofs.Common.{rules, refl, List, subst, sym}
use Rattle.dnp_eventbuf.specs.declared.numbered.Numbered.{Numbered}
use Rattle.dnp_outstation.specs.steps.Putting.{PutsFirst, StopsIn}
use Rattle.dnp_outstation.proofs.Runs.{parted, then_first, then_stops}
use Rattle.dnp_outstation.proofs.offer.writer.Writer.put_each.Goals as goal

pub put_on-requires-clause-events : goal.put_on-requires-clause-events
put_on-requires-clause-events c =
    let l = c.loop-x in (parted l.rest.now c.in-Some.x.now c.in-Some.after.now c.in-Some.ensures.cases.0 l.invariant.1).1

pub returns-then-not-put_first-clause-written : goal.returns-then-not-put_first-clause-written
returns-then-not-put_first-clause-written c =
    let l = c.loop-x in
    let w = c.put_first.new.self in
    then_stops c.args.self.now l.self w c.args.header c.args.is_open c.args.lane c.args.rows.now l.rest.now l.invariant.0
    (subst (λ (rows : List Numbered). StopsIn l.self c.args.header c.args.is_open c.args.lane rows w) (sym c.in-Some.ensures.cases.0)
    (c.if-not-put_first.ensures.stop refl))

pub returns-in_default-put_on-clause-written : goal.returns-in_default-put_on-clause-written
returns-in_default-put_on-clause-written c =
    let l = c.loop-x in
    let v = c.put_first.new.self in
    then_stops c.args.self.now v c.put_on.new.self c.args.header c.args.is_open c.args.lane c.args.rows.now c.in-Some.after.now
    (then_first c.args.self.now l.self v c.args.header c.args.is_open c.args.lane c.args.rows.now l.rest.now c.in-Some.after.now l.invariant.0
    (subst (λ (rows : List Numbered). PutsFirst l.self c.args.header c.args.is_open c.args.lane rows c.in-Some.after.now v) (sym c.in-Some.ensures.cases.0)
    (c.if-not-put_first.ensures.put refl)))
    (c.in_default-put_on.ensures.stop refl)

pub loop-x-preserved : goal.loop-x-preserved
loop-x-preserved c =
    let l = c.loop-x in
    let v = c.put_first.new.self in (
      then_first c.args.self.now v c.put_on.new.self c.args.header c.args.is_open c.args.lane c.args.rows.now c.in-Some.after.now
          c.in-Some-put_on.left.now
          (then_first c.args.self.now l.self v c.args.header c.args.is_open c.args.lane c.args.rows.now l.rest.now c.in-Some.after.now l.invariant.0
          (subst (λ (rows : List Numbered). PutsFirst l.self c.args.header c.args.is_open c.args.lane rows c.in-Some.after.now v) (sym c.in-Some.ensures.cases.0)
          (c.if-not-put_first.ensures.put refl)))
          c.in-Some-put_on.ensures.put,
      c.in-Some-put_on.ensures.left.1,
      search rules,
    )
