use Rattle.std.proofs.Common.{refl, sym}
use Rattle.dnp_streams.specs.AnswerLine.{is_frame}
use Rattle.dnp_streams.proofs.answer.answer_line.Goals as goal

pub returns-clause-part : goal.returns-clause-part
returns-clause-part g c _ =
    let (part, rest, split, appended) = c.in-Err.ensures.part in (
      part,
      rest,
      is_frame c.in-Ok.answer,
      record {
        answer = c.in-Ok.answer;
        given = c.in-Ok.ensures.answer;
        text_is = sym split;
        accepted_is = refl;
      },
      appended,
    )
