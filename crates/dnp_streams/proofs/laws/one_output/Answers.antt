use Rattle.dnp_streams.proofs.streams.OneOutput.{one_output}
use Rattle.dnp_streams.proofs.laws.one_output.Goals as goal

pub returns : goal.returns
returns g c =
    one_output g.S.Station.opens g.S.Station.receives
    record {
      takes = c.a_port_takes_in_one_way.ensures.takes;
      shows = c.a_port_takes_in_one_way.ensures.shows;
      goes_on = c.a_port_takes_in_one_way.ensures.goes_on;
      gives = c.a_stream_gives_one_answer.ensures;
      spells = c.a_frame_has_one_spelling.ensures;
    }
