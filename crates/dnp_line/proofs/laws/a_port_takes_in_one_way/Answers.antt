use Rattle.dnp_line.proofs.One.{one_take, one_shown, history_goes_on}
use Rattle.dnp_line.proofs.laws.a_port_takes_in_one_way.Goals as goal

pub returns : goal.returns
returns c =
    record {
      takes = one_take c.history_does_not_matter.ensures.one c.history_does_not_matter-2.ensures.one;
      shows = one_shown c.history_does_not_matter-2.ensures.shown;
      goes_on = history_goes_on;
    }
