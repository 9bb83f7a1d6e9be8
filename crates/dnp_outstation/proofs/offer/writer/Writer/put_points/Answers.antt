use Rattle.std.proofs.Common.{◌≡◌, ◌∙◌, ap, sym, subst, ℕ, ◌<◌, ◌+◌, ◌==◌, ◌++◌, List, [], ◌∷◌, cond, false, length, map, arith}
use Rattle.std.specs.Prelude.{All}
use Rattle.dnp_appfragment.specs.Built.{with_objects, objects_put}
use Rattle.dnp_appfragment.specs.Written.{FitsPoint, point}
use Rattle.dnp_outstation.specs.declared.offer.writer.Run.TheVariants.{OfBlock}
use Rattle.dnp_outstation.specs.declared.offer.writer.Writer.{Writer}
use Rattle.dnp_outstation.specs.Items.{present_of, static_at, statics_from}
use Rattle.dnp_outstation.specs.Layout.{lay}
use Rattle.dnp_outstation.specs.declared.offer.grouping.Waiting.TheVariants as waiting
use Rattle.dnp_pointdb.specs.declared.state.PointState.{PointState}
use Rattle.dnp_outstation.specs.steps.Filling.{fill_laid, fill, ended, built_for}
use Rattle.dnp_outstation.specs.steps.Grouping.{Marked, laid_from, open_in}
use Rattle.dnp_outstation.specs.steps.Grouping.Open.{Shut}
use Rattle.dnp_outstation.specs.steps.Putting.{shown, rows_from, passed_by, group_of}
use Rattle.dnp_outstation.proofs.Fed.{presents_put, presents_full}
use Rattle.dnp_outstation.proofs.PointValues.{length_rows, rows_in_order, rows_fit, heads_from, none_puts, some_puts}
use Rattle.dnp_outstation.proofs.offer.writer.Writer.put_points.Goals.{After-points-count}
use Rattle.dnp_outstation.proofs.offer.writer.Writer.put_points.Goals as goal

pub points-count-requires-clause-fits : goal.points-count-requires-clause-fits
points-count-requires-clause-fits c =
    subst (λ (o : ℕ × ℕ). All (FitsPoint o.0 o.1) (rows_from c.args.kind c.args.first c.args.points.now)) (sym c.static_object-group.ensures)
    (rows_fit c.readings_fit_their_static_objects.ensures.carried c.args.kind c.args.ask.variation c.args.first c.args.points.now c.requires.sound)

pub points-count-requires-clause-in_order : goal.points-count-requires-clause-in_order
points-count-requires-clause-in_order c = rows_in_order c.args.kind c.args.first c.args.points.now

pub points-count-requires-clause-narrow : goal.points-count-requires-clause-narrow
points-count-requires-clause-narrow c = omega (arith, length_rows c.args.kind c.args.first c.args.points.now, c.requires.narrow)

pub overflow_cast-count : goal.overflow_cast-count
overflow_cast-count c =
    omega (arith, length_rows c.args.kind c.args.first c.args.points.now, c.requires.narrow, c.points-count.ensures.few)

-- how many are put, of what is built there
count : (c : After-points-count) → objects_put (built_for c.settle.new.self (OfBlock c.args.ask.header (group_of c.args.kind c.args.ask.variation) c.args.block))
    (heads_from c.args.ask.variation c.args.kind c.args.first c.args.points.now) ≡ c.points-count.result
count c =
    ap (λ (o : ℕ × ℕ). objects_put (built_for c.settle.new.self (OfBlock c.args.ask.header o.0 c.args.block))
    (map (point o.0 o.1) (rows_from c.args.kind c.args.first c.args.points.now))) (sym c.static_object-group.ensures)
    ∙ ap (λ (w : Writer). objects_put w.builder
    (map (point c.static_object-group.result.0 c.static_object-group.result.1) (rows_from c.args.kind c.args.first c.args.points.now))) (sym c.end_other_block.ensures)
    ∙ sym c.points-count.ensures.count

builder : (c : After-points-count) → with_objects (built_for c.settle.new.self (OfBlock c.args.ask.header (group_of c.args.kind c.args.ask.variation) c.args.block))
    (heads_from c.args.ask.variation c.args.kind c.args.first c.args.points.now) ≡ c.points-count.new.self
builder c =
    ap (λ (o : ℕ × ℕ). with_objects (built_for c.settle.new.self (OfBlock c.args.ask.header o.0 c.args.block))
    (map (point o.0 o.1) (rows_from c.args.kind c.args.first c.args.points.now))) (sym c.static_object-group.ensures)
    ∙ ap (λ (w : Writer). with_objects w.builder
    (map (point c.static_object-group.result.0 c.static_object-group.result.1) (rows_from c.args.kind c.args.first c.args.points.now))) (sym c.end_other_block.ensures)
    ∙ sym c.points-count.ensures.put

-- the rows that wait come before them
front : (c : After-points-count) (more : List Marked) → fill c.args.self.now
    (shown c.args.ask.header (statics_from c.args.ask.variation c.args.block c.args.kind c.args.first c.args.points.now) ++ more)
    ≡ fill_laid c.settle.new.self (map lay (map (present_of c.args.ask.header)
    (statics_from c.args.ask.variation c.args.block c.args.kind c.args.first c.args.points.now)) ++ laid_from Shut more)
front c more = go c.args.points.now (omega (arith, c.if-len-eq0.false))
  where
    go : (ps : List PointState) → 0 < length ps
        → fill c.args.self.now (shown c.args.ask.header (statics_from c.args.ask.variation c.args.block c.args.kind c.args.first ps) ++ more)
        ≡ fill_laid c.settle.new.self (map lay (map (present_of c.args.ask.header)
        (statics_from c.args.ask.variation c.args.block c.args.kind c.args.first ps)) ++ laid_from Shut more)
    go [] some = absurd (omega arith)
    go (p ∷ ps) some =
        presents_put c.args.self.now c.settle.new.self c.args.ask.header (static_at c.args.ask.variation c.args.block c.args.kind c.args.first p)
        (statics_from c.args.ask.variation c.args.block c.args.kind (c.args.first + 1) ps) more c.if-not-settle.ensures.written

pub returns-then-not-settle-clause-written : goal.returns-then-not-settle-clause-written
returns-then-not-settle-clause-written c = λ more. go c.args.points.now more (omega (arith, c.if-len-eq0.false))
  where
    go : (ps : List PointState) (more : List Marked) → 0 < length ps
        → fill c.args.self.now (shown c.args.ask.header (statics_from c.args.ask.variation c.args.block c.args.kind c.args.first ps) ++ more)
        ≡ ended false c.settle.new.self
    go [] more some = absurd (omega arith)
    go (p ∷ ps) more some =
        presents_full c.args.self.now c.settle.new.self c.args.ask.header (static_at c.args.ask.variation c.args.block c.args.kind c.args.first p)
        (statics_from c.args.ask.variation c.args.block c.args.kind (c.args.first + 1) ps) more c.if-not-settle.ensures.written

pub returns-then-count-eq0-clause-written : goal.returns-then-count-eq0-clause-written
returns-then-count-eq0-clause-written c = λ more.
    let at = (goal.at.returns-then-count-eq0-clause-written c).After-points-count in
    front at more
    ∙ none_puts c.settle.new.self c.args.ask.header c.args.ask.variation c.args.block c.args.kind c.args.first c.args.points.now (laid_from Shut more)
    (omega (arith, c.if-len-eq0.false)) (count at ∙ c.if-count-eq0.true)
    ∙ (λ i.
    let w = sym c.end_other_block.ensures i in
    ended false (let w' : Writer = record { builder = builder at i; run = w.run; place = w.place; upto = w.upto; waiting = w.waiting } in w'))

pub returns-clause-written : goal.returns-clause-written
returns-clause-written c = λ more.
    let at = (goal.at.returns-clause-written c).After-points-count in
    let header = c.args.ask.header in
    let v = c.settle.new.self in
    let place = ap (λ (w : Writer). passed_by w.place header c.points-count.result) (sym c.end_other_block.ensures) ∙ sym c.pass_by.ensures in
    let some : 0 < objects_put (built_for v (OfBlock header (group_of c.args.kind c.args.ask.variation) c.args.block))
    (heads_from c.args.ask.variation c.args.kind c.args.first c.args.points.now) =
    omega (arith, count at, c.if-count-eq0.false) in
    front at more
    ∙ some_puts v header c.args.ask.variation c.args.block c.args.kind c.args.first c.args.points.now (laid_from Shut more) some
    ∙ (λ i.
    let w' : Writer = record {
      builder = builder at i;
      run = OfBlock header (sym c.static_object-group.ensures i).0 c.args.block;
      place = passed_by v.place header (count at i);
      upto = v.upto;
      waiting = v.waiting;
    } in
    cond (count at i == length c.args.points.now) (fill_laid w' (laid_from Shut more)) (ended false w'))
    ∙ (λ i.
    let w' : Writer = record {
      builder = c.points-count.new.self;
      run = OfBlock header c.static_object-group.result.0 c.args.block;
      place = place i;
      upto = (sym c.end_other_block.ensures i).upto;
      waiting = (sym c.end_other_block.ensures i).waiting;
    } in
    cond (c.points-count.result == length c.args.points.now) (fill_laid w' (laid_from Shut more)) (ended false w'))
    ∙ (λ i.
    let w' : Writer = record {
      builder = c.points-count.new.self;
      run = OfBlock header c.static_object-group.result.0 c.args.block;
      place = c.pass_by.new.self;
      upto = c.end_other_block.new.self.upto;
      waiting = c.end_other_block.new.self.waiting;
    } in
    cond (c.points-count.result == length c.args.points.now) (fill_laid w' (laid_from (open_in (waits i)) more)) (ended false w'))
  where
    waits : waiting.Nothing ≡ c.end_other_block.new.self.waiting
    waits = sym c.if-not-settle.ensures.none ∙ ap (λ (w : Writer). w.waiting) (sym c.end_other_block.ensures)
