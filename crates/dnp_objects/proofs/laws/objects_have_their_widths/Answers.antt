use Rattle.dnp_objects.proofs.Lines.{content_sound}
use Rattle.dnp_objects.proofs.laws.objects_have_their_widths.Goals as goal

pub returns : goal.returns
returns c = content_sound
