use Rattle.dnp_pointdb.proofs.Sound.{new_is_sound, changed_is_sound, set_is_sound, lost_is_sound, restarted_is_sound}
use Rattle.dnp_pointdb.proofs.laws.points_stay_sound.Goals as goal

pub returns : goal.returns
returns c = record {
  new = new_is_sound;
  changed = changed_is_sound;
  set = set_is_sound;
  lost = lost_is_sound;
  restarted = restarted_is_sound;
}
