use Rattle.std.proofs.Common.{ℕ, sym, subst}
use Rattle.dnp_objects.specs.declared.command.Command.{Command}
use Rattle.dnp_objects.specs.declared.table.Content.TheVariants as content
use Rattle.dnp_objects.specs.Commands.{IsCommandOf}
use Rattle.dnp_objects.specs.Parts.{block_of}
use Rattle.dnp_objects.proofs.CommandOctets.{is_block}
use Rattle.dnp_objects.proofs.controls.read_block.Goals as goal

pub returns : goal.returns
returns c =
    let a = c.args in
    let small = λ (i : ℕ). let fits = c.type_inv.octets i in fits.fits in
    subst (λ (r : Command). IsCommandOf content.Block a.index a.octets.now r c.of_octet.result) (sym c.block_of.ensures)
    (subst (λ (s : ℕ). IsCommandOf content.Block a.index a.octets.now (block_of a.index a.octets.now) s) (sym c.of_octet.ensures)
    (is_block a.index a.octets.now small c.requires))
