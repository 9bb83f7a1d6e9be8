use Rattle.dnp_outstation.proofs.PresentFits.{present_can_be_written}
use Rattle.dnp_outstation.proofs.link_laws.what_is_sound_can_be_written.Goals as goal

pub returns : goal.returns
returns c = present_can_be_written c.readings_fit_their_static_objects.ensures.carried
