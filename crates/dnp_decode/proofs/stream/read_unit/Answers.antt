-- The octets spell a frame, or are refused for their first fault.
use Rattle.std.proofs.Common.{[], ◌∷◌, ◌++◌, take, ◌∙◌, ap, refl}
use Rattle.dnp_decode.specs.declared.line.Line.{Line}
use Rattle.dnp_decode.specs.StreamLines.{refused_line, Reads, Refuses}
use Rattle.dnp_decode.proofs.stream.read_unit.Goals as goal

pub returns-in_ok-hear-in-Ok : goal.returns-in_ok-hear-in-Ok
returns-in_ok-hear-in-Ok c = λ heard remembers.
    let got = c.in_ok-hear-in-Ok.ensures heard remembers in
    record {
      own = got.0;
      after = c.in-Ok.frame ∷ heard;
      step = Reads c.in-Ok.frame (c.requires.within, c.in-Ok.ensures.found) got.1 refl;
      remembers = got.3;
      lines = got.2;
    }

pub returns-in_ok-push-in-Err : goal.returns-in_ok-push-in-Err
returns-in_ok-push-in-Err c = λ heard remembers.
    let stream = c.args.stream.now in
    let why = c.in-Err.fault in
    record {
      own = refused_line stream c.args.size why ∷ [];
      after = heard;
      step =
          Refuses why (
            c.requires.begins,
            c.requires.said,
            c.requires.within,
            λ frame spells. c.a_spelling_has_no_fault.ensures (take c.args.size stream) frame spells why c.in-Err.ensures.fault.0,
          )
          c.in-Err.ensures.fault refl refl;
      remembers = remembers;
      lines = c.in_ok-push-in-Err.ensures.items ∙ ap (λ (l : Line). c.args.out.now.items ++ l ∷ []) c.refused_line.ensures;
    }
