use Rattle.std.proofs.Common.{refl, length}
use Rattle.dnp_transport.specs.Cuts.{cut_count}
use Rattle.dnp_transport.proofs.Carried.{says_its_place, length-cuts, joined_all}
use Rattle.dnp_transport.proofs.laws.segments_say_their_places.Goals as goal

pub returns : goal.returns
returns c =
    record {
      places = says_its_place;
      count = length-cuts;
      joined = λ fragment first. joined_all fragment first (cut_count (length fragment)) refl;
    }
