use Rattle.std.proofs.Common.{sym, ap, ◌∙◌, ℕ, Some}
use Rattle.dnp_objects.specs.declared.row.Row.{Row}
use Rattle.dnp_appfragment.specs.Reading.{object_at}
use Rattle.dnp_appfragment.proofs.Numbers.{are_octets}
use Rattle.dnp_appfragment.proofs.HeaderObjects.{row_cut, cut_reads, no_cut}
use Rattle.dnp_appfragment.proofs.objects.object_row_at.Goals as goal

pub returns-in_err-index-clause-only : goal.returns-in_err-index-clause-only
returns-in_err-index-clause-only c = λ row is.
    let a = c.args in
    absurd (no_cut a.group a.variation a.range a.octets.now c.size.result a.k is.size is.index is.octets
    (c.in_ok-shape.ensures.size ∙ ap (λ (n : ℕ). Some n) (sym c.size.ensures)) (sym c.in_err-index.ensures.value) is.size_is is.object)

pub returns-clause-found : goal.returns-clause-found
returns-clause-found c =
    let a = c.args in
    let shape = c.in_ok-shape.shape in
    row_cut a.group a.variation a.range a.octets.now shape a.k c.in_ok-index.index c.in_ok-index.octets.now c.row.result
    (are_octets a.octets.now (λ i. let fits = c.type_inv.octets i in fits.fits))
    (sym c.in_ok-shape.ensures.value) c.in_ok-shape.ensures.size
    (ap (λ (n : ℕ). object_at a.range a.octets.now n a.k) (sym c.size.ensures) ∙ sym c.in_ok-index.ensures.value)
    c.row.ensures.found

pub returns-clause-only : goal.returns-clause-only
returns-clause-only c = λ row is.
    let a = c.args in
    let shape = c.in_ok-shape.shape in
    ap (λ (r : Row). Some r) (c.row.ensures.only row
    (cut_reads a.group a.variation a.range a.octets.now shape a.k c.in_ok-index.index c.in_ok-index.octets.now row
    (sym c.in_ok-shape.ensures.value) c.in_ok-shape.ensures.size
    (ap (λ (n : ℕ). object_at a.range a.octets.now n a.k) (sym c.size.ensures) ∙ sym c.in_ok-index.ensures.value) is))
