use Rattle.std.proofs.Common.{◌≡◌, ◌∙◌, refl, sym, ap, subst, ℕ, Option, Some}
use Rattle.std.specs.Prelude.{All}
use Rattle.std.specs.Option.{unwrap_or}
use Rattle.dnp_objects.specs.Relative.{FitsRelative}
use Rattle.dnp_appfragment.specs.Built.{context_of}
use Rattle.dnp_appfragment.proofs.EventLists.{relatives_stand, all_unwrapped}
use Rattle.dnp_appfragment.proofs.RelativePut.{relative_sized}
use Rattle.dnp_appfragment.proofs.builder.Builder.relatives.Given.{Over}
use Rattle.dnp_appfragment.proofs.builder.Builder.relatives.Goals as goal
use Rattle.dnp_appfragment.proofs.builder.Builder.relatives.Goals.{After-unwrap_or-common}

same : (g : Over) (c : After-unwrap_or-common g) → c.unwrap_or-common.result ≡ unwrap_or (context_of c.args.self.now) 0
same g c = c.unwrap_or-common.ensures ∙ ap (λ (o : Option ℕ). unwrap_or o 0) (c.self.invariant.1 ∙ ap context_of c.self.view_is)

fits : (g : Over) (c : After-unwrap_or-common g) → All (FitsRelative c.unwrap_or-common.result) (g.R.RowSource.rows c.args.rows)
fits g c =
    subst (λ (n : ℕ). All (FitsRelative n) (g.R.RowSource.rows c.args.rows)) (sym (same g c))
    (all_unwrapped (context_of c.args.self.now) (g.R.RowSource.rows c.args.rows) c.requires.fits).1

pub put_list-requires-clause-fits : goal.put_list-requires-clause-fits
put_list-requires-clause-fits g c = fits g (goal.at.put_list-requires-clause-fits g c).After-unwrap_or-common

pub put_list-requires-clause-stands : goal.put_list-requires-clause-stands
put_list-requires-clause-stands g c = λ n few low.
    let at = (goal.at.put_list-requires-clause-stands g c).After-unwrap_or-common in
    relatives_stand c.a_relative_row_is_read.ensures.low c.args.self.now.function (context_of c.args.self.now) c.unwrap_or-common.result n
    (g.R.RowSource.rows c.args.rows) c.requires.response
    ((all_unwrapped (context_of c.args.self.now) (g.R.RowSource.rows c.args.rows) c.requires.fits).0 ∙ ap (λ (n : ℕ). Some n) (sym (same g at)))
    (fits g at) few low

pub put_list-requires-clause-sized : goal.put_list-requires-clause-sized
put_list-requires-clause-sized g c = relative_sized
