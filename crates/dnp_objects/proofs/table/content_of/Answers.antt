use Rattle.std.proofs.Common.{sym, subst, IfSome, Option}
use Rattle.dnp_objects.specs.declared.table.Content.{Content}
use Rattle.dnp_objects.specs.Objects.{IsContent}
use Rattle.dnp_objects.proofs.Lines.{content_sound}
use Rattle.dnp_objects.proofs.table.content_of.Goals as goal

pub returns-clause-sound : goal.returns-clause-sound
returns-clause-sound c =
    subst (λ (o : Option Content). IfSome o IsContent) (sym c.line_of.ensures) (content_sound c.args.group c.args.variation)
