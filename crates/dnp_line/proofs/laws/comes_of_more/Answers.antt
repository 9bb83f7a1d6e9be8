use Rattle.dnp_line.proofs.Coming.{Comes-drop, Comes-behind, Comes-front}
use Rattle.dnp_line.proofs.laws.comes_of_more.Goals as goal

pub returns : goal.returns
returns g c =
    record {
      of_an_end = λ came sent n h. Comes-drop came sent n h;
      behind = λ came sent more h. Comes-behind came sent more h;
      in_front = λ came before sent h. Comes-front came before sent h;
    }
