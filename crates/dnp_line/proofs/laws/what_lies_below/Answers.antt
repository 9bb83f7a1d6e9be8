use Rattle.dnp_line.proofs.laws.what_lies_below.Goals as goal

pub returns : goal.returns
returns c =
    record {
      one_frame = c.a_unit_spells_one_frame.ensures;
      to_peer = c.what_is_sent_is_for_the_peer.ensures;
      gives = c.cuts_give_whole.ensures;
      places = c.segments_say_their_places.ensures.places;
      joins = c.segments_say_their_places.ensures.joined;
      opens = c.a_push_goes_on.ensures.opens;
      completes = c.a_push_goes_on.ensures.completes;
      none_open = c.a_push_goes_on.ensures.none_open;
      idle = c.a_push_goes_on.ensures.idle;
    }
