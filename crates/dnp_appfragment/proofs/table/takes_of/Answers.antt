use Rattle.std.proofs.Common.{◌≡◌, sym, ◌∙◌, ap, List, ℕ, None, Bor}
use Rattle.std.specs.Option.{option_map}
use Rattle.dnp_appfragment.specs.Table.{listed_for}
use Rattle.dnp_appfragment.proofs.ResponseRows.{takes_listed, takes_row, takes_no_row, takes_nothing}
use Rattle.dnp_appfragment.proofs.table.takes_of.Goals as goal
use Rattle.dnp_appfragment.proofs.table.takes_of.Goals.{in_default-form-via-in-Response+else-carries_row, in_default-form-via-in_default-form}

pub returns-in-Some : goal.returns-in-Some
returns-in-Some c =
    sym (takes_listed c.args.form c.args.group c.args.variation c.in-Some.takes.now
    (sym c.line_of.ensures ∙ ap (option_map (λ (b : Bor (List ℕ)). b.now)) c.in-Some.is))

pub returns-in-Response : goal.returns-in-Response
returns-in-Response c =
    let none : listed_for c.args.form c.args.group c.args.variation ≡ None = sym c.line_of.ensures ∙ ap (option_map (λ (b : Bor (List ℕ)). b.now)) c.in_default.is in
    sym (takes_row c.args.form c.args.group c.args.variation c.in-Response.is none (sym c.carries_row.ensures ∙ c.if-carries_row.true))

pub returns-in_default-form : goal.returns-in_default-form
returns-in_default-form c =
    let none : listed_for c.args.form c.args.group c.args.variation ≡ None = sym c.line_of.ensures ∙ ap (option_map (λ (b : Bor (List ℕ)). b.now)) c.in_default.is in
    elim c.in_default-form.branch [
      | in_default-form-via-in-Response+else-carries_row w ↦
          sym (takes_no_row c.args.form c.args.group c.args.variation w.in-Response.is none (sym w.carries_row.ensures ∙ w.if-carries_row.false))
      | in_default-form-via-in_default-form w ↦ sym (takes_nothing c.args.form c.args.group c.args.variation w.in_default-form.not-Response none)
    ]
