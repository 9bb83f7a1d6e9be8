use Rattle.dnp_pointdb.proofs.Carried.{fits_static, kept_fits}
use Rattle.dnp_pointdb.proofs.laws.readings_fit_their_static_objects.Goals as goal

pub returns : goal.returns
returns c = record { carried = fits_static; kept = kept_fits }
