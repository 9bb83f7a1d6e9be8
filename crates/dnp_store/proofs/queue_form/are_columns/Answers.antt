use Rattle.std.proofs.Common.{rules, ◌≡◌, ◌∙◌, ◌<◌, ℕ, length, sym, arith}
use Rattle.std.specs.Prelude.{map}
use Rattle.std.proofs.lemmas.List.{ext_get_or, length-map}
use Rattle.sqlite.specs.Kind.TheVariants.{Integer}
use Rattle.dnp_store.specs.Tables.{column_of, no_column}
use Rattle.dnp_store.proofs.queue_form.are_columns.Goals as goal

pub returns-clause-form : goal.returns-clause-form
returns-clause-form c is =
    let wanted = map (λ w. column_of w.0.now Integer w.1) c.args.wanted.now in
    let long : length c.args.columns.now ≡ length c.args.wanted.now = search rules in
    ext_get_or no_column c.args.columns.now wanted (long ∙ sym (length-map _ _))
    (λ k low. c.loop-number.invariant k (omega (arith, low, long, c.loop-number-test.false)))
