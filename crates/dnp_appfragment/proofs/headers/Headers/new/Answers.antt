use Rattle.std.proofs.Common.{◌≡◌, ◌<◌, length, sym, ◌∙◌, ap, eqb-true}
use Rattle.std.proofs.lemmas.Result.{err_from_is_err_and}
use Rattle.dnp_appfragment.specs.Headers.{Context, begin}
use Rattle.dnp_appfragment.specs.Reading.{headers_at, headers_from}
use Rattle.dnp_appfragment.proofs.Commons.{common_there}
use Rattle.dnp_appfragment.proofs.Numbers.{octets_all}
use Rattle.dnp_appfragment.proofs.Walk.{fewer_left, fault_of, fault_on, all_read, all_whole, fault_of_all, none_left, not_empty}
use Rattle.dnp_appfragment.proofs.headers.Headers.new.Goals as goal

pub loop-rest-smaller : goal.loop-rest-smaller
loop-rest-smaller c = fewer_left c.args.form c.loop-rest.common c.loop-rest.rest.now _ (c.in_ok-header.ensures).gives

pub loop-rest-preserved : goal.loop-rest-preserved
loop-rest-preserved c =
    let some : 0 < length c.loop-rest.rest.now = not_empty c.loop-rest.rest.now (sym c.is_empty.ensures ∙ c.loop-rest-test.true) in
    ap (λ (now : Context). fault_of (headers_from c.args.form now c.in_ok-header.after.now)) c.common_after-common.ensures
    ∙ fault_on c.args.form c.loop-rest.common c.loop-rest.rest.now _ some (c.in_ok-header.ensures).gives ∙ c.loop-rest.invariant

pub returns-in_err-header-clause-gives : goal.returns-in_err-header-clause-gives
unfolding headers_at
returns-in_err-header-clause-gives c =
    let some : 0 < length c.loop-rest.rest.now = not_empty c.loop-rest.rest.now (sym c.is_empty.ensures ∙ c.loop-rest-test.true) in
    let p = err_from_is_err_and c.from_residual.result c.from_residual.ensures.1 in
    rw (p.1, p.2) (fault_of_all c.args.form begin c.loop-rest.common c.args.octets.now c.loop-rest.rest.now
    c.in_err-header.field-0.0 some (c.in_err-header.ensures).gives c.loop-rest.invariant)

pub invariant_of-result : goal.invariant_of-result
invariant_of-result c =
    let none : length c.loop-rest.rest.now ≡ 0 = eqb-true (length c.loop-rest.rest.now) 0 (sym c.is_empty.ensures ∙ c.loop-rest-test.false) in
    all_whole c.args.form begin c.args.octets.now (none_left c.args.form begin c.loop-rest.common c.args.octets.now c.loop-rest.rest.now none
    c.loop-rest.invariant)

pub returns-clause-gives : goal.returns-clause-gives
unfolding headers_at
returns-clause-gives c =
    let none : length c.loop-rest.rest.now ≡ 0 = eqb-true (length c.loop-rest.rest.now) 0 (sym c.is_empty.ensures ∙ c.loop-rest-test.false) in
    all_read c.args.form begin c.args.octets.now (none_left c.args.form begin c.loop-rest.common c.args.octets.now c.loop-rest.rest.now none
    c.loop-rest.invariant)

pub common_after-common-requires : goal.common_after-common-requires
common_after-common-requires c =
    let some : 0 < length c.loop-rest.rest.now = not_empty c.loop-rest.rest.now (sym c.is_empty.ensures ∙ c.loop-rest-test.true) in
    record {
      there = common_there c.args.form c.loop-rest.common c.loop-rest.rest.now _ some
          (octets_all c.loop-rest.rest.now c.a_slice_is_of_octets.ensures.each) (c.in_ok-header.ensures).gives;
    }
