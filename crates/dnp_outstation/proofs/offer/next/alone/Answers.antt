use Rattle.std.proofs.Common.{refl, None}
use Rattle.dnp_eventbuf.specs.declared.numbered.Numbered.{Numbered}
use Rattle.dnp_appfragment.specs.Written.{IsOf}
use Rattle.dnp_outstation.specs.declared.offer.grouping.Waiting.TheVariants as waiting
use Rattle.dnp_outstation.proofs.ListedRuns.{all_next, next_is, goes_next}
use Rattle.dnp_outstation.proofs.offer.next.alone.Goals as goal

pub loop-x-preserved : goal.loop-x-preserved
loop-x-preserved c =
    let l = c.loop-x in
    let x = c.in-Some.x.now in
    let after = c.in-Some.after.now in
    let rows = c.args.rows.now in
    let next = next_is l.n rows l.rest.now x after l.invariant.rest c.in-Some.ensures.cases.0 in
    record {
      few = next.few;
      rest = next.rest;
      alike = all_next (λ (y : Numbered). IsOf c.args.kind c.args.has_time y.row) l.n rows x after next l.invariant.alike (c.if-not-is_of.ensures refl);
      goes = λ header lane.
          goes_next waiting.Nothing header c.args.is_open lane None l.n rows l.rest.now x after l.invariant.rest c.in-Some.ensures.cases.0 next
          (l.invariant.goes header lane) (λ more. c.if-not-is_alone.ensures refl header lane more);
    }
