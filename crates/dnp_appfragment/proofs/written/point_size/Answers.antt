use Rattle.std.proofs.Common.{◌≡◌, ◌∙◌, sym, length, Some}
use Rattle.dnp_objects.specs.Objects.{object_size}
use Rattle.dnp_objects.specs.Rows.{written}
use Rattle.dnp_appfragment.proofs.written.point_size.Goals as goal

pub returns-clause-value : goal.returns-clause-value
returns-clause-value c =
    let a = c.args in
    let size = length (written a.group a.variation a.row.now) in
    let found : object_size a.group a.variation ≡ Some c.unwrap.result = sym c.object_size.ensures.value ∙ c.unwrap.ensures in
    let fills : object_size a.group a.variation ≡ Some size =
    c.a_written_row_fills_its_object.ensures a.group a.variation a.row.now c.requires.row_fits in
    cc
