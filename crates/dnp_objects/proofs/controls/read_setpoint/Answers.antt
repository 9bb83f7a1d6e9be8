use Rattle.std.proofs.Common.{ℕ, ◌%◌, sym, subst, ap, ◌∙◌}
use Rattle.std.specs.Prelude.{slice_index}
use Rattle.dnp_objects.specs.declared.command.Command.{Command}
use Rattle.dnp_objects.specs.declared.table.Content.TheVariants as content
use Rattle.dnp_objects.specs.Commands.{IsCommandOf}
use Rattle.dnp_objects.specs.Parts.{setpoint_of}
use Rattle.dnp_objects.proofs.CommandOctets.{is_setpoint}
use Rattle.dnp_objects.proofs.controls.read_setpoint.Goals as goal

pub returns : goal.returns
returns c =
    let a = c.args in
    let small = λ (i : ℕ). let fits = c.type_inv.octets i in fits.fits in
    let status = c.of_octet.ensures ∙ ap (λ (width : ℕ). slice_index a.octets.now width % 128) c.from.ensures in
    subst (λ (r : Command). IsCommandOf (content.Setpoint a.width) a.index a.octets.now r c.of_octet.result) (sym c.setpoint_of.ensures)
    (subst (λ (s : ℕ). IsCommandOf (content.Setpoint a.width) a.index a.octets.now (setpoint_of a.width a.index a.octets.now) s) (sym status)
    (is_setpoint a.width a.index a.octets.now c.requires.width small c.requires.size))
