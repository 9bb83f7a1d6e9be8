use Rattle.dnp_streams.proofs.OneAnswer.{one_line_printed}
use Rattle.dnp_streams.proofs.laws.one_answer.Goals as goal

pub returns : goal.returns
returns c = one_line_printed (record {
  spelling = c.a_frame_has_one_spelling.ensures;
  frame = c.a_unit_spells_one_frame.ensures;
  no_fault = c.a_spelling_has_no_fault.ensures;
  first = c.a_unit_has_one_first_fault.ensures;
  fragment = c.one_fragment.ensures;
})
