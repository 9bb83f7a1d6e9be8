use Rattle.std.proofs.Common.{rules, ◌≡◌, ◌≤◌, ◌+◌, ◌*◌, Bool, if◌then◌else◌, true, IsTrue, ap, arith}
use Rattle.dnp_appfragment.specs.Built.{size, front_size}
use Rattle.dnp_objects.specs.declared.limits.TheConstants.{MAX_FRAGMENT}
use Rattle.dnp_objects.specs.declared.row.Kind.{Kind}
use Rattle.dnp_objects.specs.declared.row.Kind.TheVariants.{Binary, Counter, Analog}
use Rattle.dnp_outstation.specs.steps.Putting.{least_octets}
use Rattle.dnp_outstation.proofs.Holding.{held_full, held_fits}
use Rattle.dnp_outstation.proofs.offer.writer.Writer.put_held_lane.Goals as goal

none : (kind : Kind) → least_octets kind * 0 ≤ MAX_FRAGMENT + 7
none Binary = omega arith
none Counter = omega arith
none Analog = omega arith

pub returns-then-not-put_rows-clause-written : goal.returns-then-not-put_rows-clause-written
returns-then-not-put_rows-clause-written c = λ all firsts.
    let some : 1 ≤ firsts.most = omega (arith, firsts.enough 0 (none firsts.kind)) in
    held_full c.args.self.now c.put_rows.new.self c.args.lane firsts.most all c.args.rows.now c.kept.result.now c.args.new.now some firsts.is
    c.kept.ensures.value
    c.if-not-put_rows.ensures.written

pub returns-clause-written : goal.returns-clause-written
returns-clause-written c = λ all firsts.
    let b = c.args.self.now.builder in
    let front : front_size b.function ≡ 4 = ap (λ (response : Bool). if response then 4 else 2) c.requires.response in
    let short : size b ≤ MAX_FRAGMENT = omega (arith, c.left-left.ensures) in
    let yes' : IsTrue true = search rules in
    let room = c.if-not-put_rows.ensures.room yes' short in
    held_fits c.args.self.now c.put_rows.new.self c.put_new.new.self c.args.lane all c.args.rows.now c.kept.result.now c.args.new.now c.put_new.result
    firsts c.kept.ensures.value (omega arith) c.if-not-put_rows.ensures.written c.put_new.ensures.written
