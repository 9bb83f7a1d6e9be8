use Rattle.std.proofs.Common.{rules, arith, ℕ}
use Rattle.dnp_outstation.proofs.OfferPresent.{output_fits}
use Rattle.dnp_outstation.proofs.offer.present.output_row.Goals as goal

pub returns-clause-fits : goal.returns-clause-fits
returns-clause-fits c = output_fits (λ (index : ℕ). c.args.status) c.args.index _ (omega arith) (search rules)
