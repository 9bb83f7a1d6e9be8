use Rattle.std.proofs.Common.{◌≡◌, ◌∙◌, refl, sym, ap, subst, ℕ, Option, Some}
use Rattle.std.specs.Prelude.{OnOk, IsErr}
use Rattle.std.specs.Option.{unwrap_or}
use Rattle.dnp_objects.specs.Relative.{FitsRelative}
use Rattle.dnp_appfragment.specs.Built.{context_of, with_object}
use Rattle.dnp_appfragment.specs.Written.{relative}
use Rattle.dnp_appfragment.proofs.RelativePut.{relative_put, fits_unwrapped, relative_sized}
use Rattle.dnp_appfragment.proofs.builder.Builder.relative.Goals as goal
use Rattle.dnp_appfragment.proofs.builder.Builder.relative.Goals.{After-unwrap_or-common}

same : (c : After-unwrap_or-common) → c.unwrap_or-common.result ≡ unwrap_or (context_of c.args.self.now) 0
same c = c.unwrap_or-common.ensures ∙ ap (λ (o : Option ℕ). unwrap_or o 0) (c.self.invariant.1 ∙ ap context_of c.self.view_is)

fits : (c : After-unwrap_or-common) → FitsRelative c.unwrap_or-common.result c.args.row.now
fits c = subst (λ (n : ℕ). FitsRelative n c.args.row.now) (sym (same c)) (fits_unwrapped (context_of c.args.self.now) c.args.row.now c.requires.fits).1

pub put-requires-clause-can : goal.put-requires-clause-can
put-requires-clause-can c = fits (goal.at.put-requires-clause-can c).After-unwrap_or-common

pub put-requires-clause-fits : goal.put-requires-clause-fits
put-requires-clause-fits c = λ _.
    let at = (goal.at.put-requires-clause-fits c).After-unwrap_or-common in
    relative_put c.a_relative_row_is_read.ensures.low c.args.self.now.function (context_of c.args.self.now) c.unwrap_or-common.result c.args.row.now
    c.requires.response
    ((fits_unwrapped (context_of c.args.self.now) c.args.row.now c.requires.fits).0 ∙ ap (λ (n : ℕ). Some n) (sym (same at)))
    (fits at)

pub put-requires-clause-sized : goal.put-requires-clause-sized
put-requires-clause-sized c = relative_sized

pub put-requires-clause-other : goal.put-requires-clause-other
put-requires-clause-other c = refl

pub returns-clause-ok : goal.returns-clause-ok
returns-clause-ok c = rw (sym (same (goal.at.returns-clause-ok c).After-unwrap_or-common)) c.put.ensures.ok

pub returns-clause-full : goal.returns-clause-full
returns-clause-full c = rw (sym (same (goal.at.returns-clause-full c).After-unwrap_or-common)) c.put.ensures.full
