-- What the calls of the port did is what `HearsUnit` says.
use Rattle.std.proofs.Common.{refl}
use Rattle.dnp_line.specs.Ways.{AFrame, NoFrame}
use Rattle.dnp_line.proofs.way.hear.Goals as goal

pub returns-in-Ok : goal.returns-in-Ok
returns-in-Ok c =
    λ given fragment shown. AFrame c.in-Ok.frame c.take.result fragment c.in-Ok.ensures.found c.take.ensures.takes shown refl

pub returns-in-Err : goal.returns-in-Err
returns-in-Err c =
    λ given fragment shown. NoFrame
    (λ reads.
    let a = c.read_frame.ensures.only reads.0 reads.1 in
    let b = c.in-Err.is in
    cc)
    refl refl
