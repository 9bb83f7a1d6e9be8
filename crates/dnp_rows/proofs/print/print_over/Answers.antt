use Rattle.std.proofs.Common.{◌<◌, List, length, take, sym, ap, subst, ◌∙◌, arith}
use Rattle.dnp_rows.specs.declared.item.Item.{Item}
use Rattle.dnp_rows.specs.Lines.{IsPrinted}
use Rattle.dnp_rows.specs.Pages.{over, AreRising}
use Rattle.dnp_rows.proofs.Paging.{Printed, nothing_printed, page_printed, page_goes_on}
use Rattle.dnp_rows.proofs.print.print_over.Goals as goal

pub loop-alloc-init : goal.loop-alloc-init
loop-alloc-init g c = λ honest.
    nothing_printed (IsPrinted c.args.form (g.N.Naming.is_named c.args.names.now)) c.args.from _ _ (g.W.Write.contents c.args.out.now) (c.in_ok-page.ensures.rising honest) (c.in_ok-page.ensures.items honest)

pub loop-alloc-smaller : goal.loop-alloc-smaller
loop-alloc-smaller g c =
    let some : 0 < length c.deref.result.now =
    grind (arith, c.deref.ensures.len, c.is_empty.ensures, c.loop-alloc-test.true, c.loop-alloc-test.ensures) in
    let more = page_goes_on c.loop-alloc.last c.deref.result.now c.in_ok-last.ensures.rising some in
    omega (arith, more, c.in_ok-last.ensures.last)

pub loop-alloc-preserved : goal.loop-alloc-preserved
loop-alloc-preserved g c = λ honest.
    let items = g.S.Source.items in
    let done = c.loop-alloc.invariant (c.in_ok-page-2.ensures.before honest) in
    let (more, grown) = c.in_ok-page-2.ensures.later honest in
    let (lines, spelt, wrote) = c.in_ok-last.ensures.lines in
    let last = c.in_ok-last.last in
    let page = c.in_ok-page-2.page.items in
    let held = g.W.Write.contents c.args.out.now in
    let now = g.W.Write.contents c.loop-alloc.out in
    let upon = g.W.Write.contents c.print_page.new.out in
    subst (λ (xs : List Item). Printed (IsPrinted c.args.form (g.N.Naming.is_named c.args.names.now)) c.args.from last xs page held upon) (sym grown)
    (page_printed (IsPrinted c.args.form (g.N.Naming.is_named c.args.names.now)) c.args.from c.loop-alloc.last last (items c.loop-alloc.source) more c.loop-alloc.page.items page lines held now upon done
    (rw c.deref.ensures.value at c.in_ok-last.ensures.last) (rw c.deref.ensures.value at spelt) wrote
    (subst (AreRising 0) grown (c.in_ok-page-2.ensures.rising honest))
    (c.in_ok-page-2.ensures.items honest ∙ ap (λ (xs : List Item). take 1000 (over last xs)) grown))
