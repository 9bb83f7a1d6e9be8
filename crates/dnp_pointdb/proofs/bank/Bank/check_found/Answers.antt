use Rattle.std.proofs.Common.{◌≡◌, sym, ◌∙◌, ap, Some, None, Option, Err, rules}
use Rattle.dnp_pointdb.specs.declared.state.PointState.{PointState}
use Rattle.dnp_pointdb.specs.Database.{state_in, checked, new_state}
use Rattle.dnp_pointdb.specs.steps.Order.{extents, place_in}
use Rattle.dnp_pointdb.proofs.Lookups.{lookup_lacks}
use Rattle.dnp_pointdb.proofs.Changes.{can_have, refused_there}
use Rattle.dnp_pointdb.proofs.bank.Bank.check_found.Goals as goal

pub returns-in_default-clause-fault : goal.returns-in_default-clause-fault
returns-in_default-clause-fault c =
    let none : place_in (extents c.args.self.now) c.args.index ≡ None = sym c.requires ∙ c.in_default.is in
    ap (λ (o : Option PointState). checked o c.args.kind c.args.reading) ((lookup_lacks c.args.self.now c.args.index none).state)

pub returns-in_err-check_reading-clause-fault : goal.returns-in_err-check_reading-clause-fault
returns-in_err-check_reading-clause-fault c =
    let at : place_in (extents c.args.self.now) c.args.index ≡ Some (c.in-Some.block, c.in-Some.place) = sym c.requires ∙ c.in-Some.is in
    let refused : checked (state_in c.args.self.now c.args.index) c.args.kind c.args.reading ≡ Err c.in_err-check_reading.field-0.0 =
    refused_there c.args.self.now c.args.index c.in-Some.block c.in-Some.place c.args.kind c.args.reading _ at
    (λ s. sym (c.check_reading.ensures s) ∙ c.in_err-check_reading.was) in
    search (rules, refused)

pub returns-clause-in_range : goal.returns-clause-in_range
returns-clause-in_range c =
    let blank : PointState = new_state (record { class = 0; deadband = 0 }) in
    can_have blank c.args.kind c.args.reading (sym (c.check_reading.ensures blank) ∙ c.in_ok-check_reading.was)
