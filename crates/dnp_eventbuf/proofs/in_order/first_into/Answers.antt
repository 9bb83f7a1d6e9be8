use Rattle.std.proofs.Common.{◌≡◌, ◌++◌, arith, length, length-append, length-take}
use Rattle.dnp_eventbuf.proofs.Remaining.{on_err}
use Rattle.dnp_eventbuf.proofs.in_order.first_into.Goals as goal

pub returns-in_err-empty_for-clause-memory : goal.returns-in_err-empty_for-clause-memory
returns-in_err-empty_for-clause-memory c =
    on_err c.from_residual.result (omega (
      arith,
      length-take c.args.most (c.args.front.now ++ c.args.back.now),
      length-append c.args.front.now c.args.back.now,
      c.min-of_front.ensures,
      c.min-of_back.ensures,
      c.in_err-empty_for.ensures.asks,
    ))
