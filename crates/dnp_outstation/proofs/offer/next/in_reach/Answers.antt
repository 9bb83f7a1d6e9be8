use Rattle.std.proofs.Common.{◌≡◌, ◌&&◌, true, refl, sym, subst, List, Some}
use Rattle.std.specs.List.{All}
use Rattle.std.proofs.lemmas.List.Elements.{All-drop}
use Rattle.dnp_eventbuf.specs.declared.numbered.Numbered.{Numbered}
use Rattle.dnp_objects.specs.Equality.{kind_eq}
use Rattle.dnp_objects.specs.Events.{IsEvent}
use Rattle.dnp_objects.specs.Relative.{FitsRelative}
use Rattle.dnp_objects.specs.declared.row.Kind.TheVariants.{Binary}
use Rattle.dnp_outstation.specs.Forms.{is_in_reach}
use Rattle.dnp_outstation.proofs.ListedRuns.{all_next, next_is}
use Rattle.dnp_outstation.proofs.Runs.{parted}
use Rattle.dnp_outstation.proofs.offer.next.in_reach.Goals as goal

pub loop-x-preserved : goal.loop-x-preserved
loop-x-preserved c =
    let l = c.loop-x in
    let x = c.in-Some.x.now in
    let after = c.in-Some.after.now in
    let rows = c.args.rows.now in
    let next = next_is l.n rows l.rest.now x after l.invariant.rest c.in-Some.ensures.cases.0 in
    record {
      few = next.few;
      rest = next.rest;
      near =
          all_next (λ (y : Numbered). (kind_eq y.row.kind Binary && is_in_reach (Some c.args.common) y.row.time) ≡ true) l.n rows x after next
          l.invariant.near (sym c.if-not-goes_on.ensures.goes_on);
      tells = λ events.
          let there = subst (λ (xs : List Numbered). All (λ (y : Numbered). IsEvent y.row) xs) (sym l.invariant.rest)
          (All-drop (λ (y : Numbered). IsEvent y.row) l.n rows events) in
          all_next (λ (y : Numbered). FitsRelative c.args.common y.row) l.n rows x after next (l.invariant.tells events)
          (c.if-not-goes_on.ensures.tells refl (parted l.rest.now x after c.in-Some.ensures.cases.0 there).0);
    }
