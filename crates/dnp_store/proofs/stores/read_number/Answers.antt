use Rattle.std.proofs.Common.{[], rules, refl, sym, subst}
use Rattle.sqlite.specs.Held.{state}
use Rattle.dnp_store.specs.steps.Shown.{ShowsForm}
use Rattle.dnp_store.specs.PairTables.{pair_schema}
use Rattle.dnp_store.specs.declared.store_kind.StoreKind.TheVariants.{Queue}
use Rattle.dnp_store.specs.steps.Stores.{schema_for}
use Rattle.dnp_store.specs.Texts.{form_select}
use Rattle.dnp_store.proofs.Selecting.{form_selects, stays}
use Rattle.dnp_store.proofs.Opening.{form_plain, form_query, reads_number}
use Rattle.dnp_store.proofs.PairReading.{form_plain as pair_form_plain, reads_pair_number}
use Rattle.dnp_store.proofs.QueueShowing.{pair_number, queue_number}
use Rattle.dnp_store.proofs.Unread.{err_on, means_nothing}
use Rattle.dnp_store.proofs.stores.read_number.Goals as goal

pub returns-in-Some-clause-read : goal.returns-in-Some-clause-read
returns-in-Some-clause-read g c clean =
    let shows : ShowsForm c.in_ok-rows.rows.items c.in-Some.number = search rules in
    reads_number (state g.S.Store c.args.tx.now.conn.now) (state g.S.Store c.list.new.tx.conn.now) c.in_ok-rows.rows.items c.in-Some.number
    (c.in_ok-rows.ensures.shown clean) shows

pub returns-in-Some-clause-read_pair : goal.returns-in-Some-clause-read_pair
returns-in-Some-clause-read_pair g c clean =
    let shows : ShowsForm c.in_ok-rows.rows.items c.in-Some.number = search rules in
    reads_pair_number (state g.S.Store c.args.tx.now.conn.now) (state g.S.Store c.list.new.tx.conn.now) c.in_ok-rows.rows.items c.in-Some.number
    (c.in_ok-rows.ensures.shown clean) shows

pub returns-in-Some-clause-shown : goal.returns-in-Some-clause-shown
returns-in-Some-clause-shown g c clean =
    let shows : ShowsForm c.in_ok-rows.rows.items c.in-Some.number = search rules in
    record {
      old = c.args.tx.now.conn.now;
      new = c.list.new.tx.conn.now;
      rows = c.in_ok-rows.rows.items;
      of = refl;
      shown = c.in_ok-rows.ensures.shown clean;
      one = shows;
    }

pub returns-in_err-rows-clause-denies : goal.returns-in_err-rows-clause-denies
returns-in_err-rows-clause-denies g c clean =
    let old = state g.S.Store c.args.tx.now.conn.now in
    let new = state g.S.Store c.list.new.tx.conn.now in
    err_on _ c.from_residual.result _ c.from_residual.ensures (λ told.
    let none = means_nothing old new form_query [] _ told (c.in_err-rows.ensures.refused clean) in
    (none.is_open, λ f r m sound has form. none.none (schema_for Queue f r m) has (form_plain Queue f r m)))

pub returns-in_err-rows-clause-denies_pair : goal.returns-in_err-rows-clause-denies_pair
returns-in_err-rows-clause-denies_pair g c clean =
    let old = state g.S.Store c.args.tx.now.conn.now in
    let new = state g.S.Store c.list.new.tx.conn.now in
    err_on _ c.from_residual.result _ c.from_residual.ensures (λ told.
    let none = means_nothing old new form_query [] _ told (c.in_err-rows.ensures.refused clean) in
    (none.is_open, λ checks sound has form. none.none (pair_schema checks) has (pair_form_plain checks)))

pub returns-clause-denies : goal.returns-clause-denies
returns-clause-denies g c clean told =
    let old = state g.S.Store c.args.tx.now.conn.now in
    let new = state g.S.Store c.list.new.tx.conn.now in
    let rows = c.in_ok-rows.rows.items in (
      c.in_ok-rows.ensures.open clean,
      λ f r m sound has form.
          (let shows = queue_number old new rows f r m form.0 has (c.in_ok-rows.ensures.shown clean) form.1 in
          let is = c.number_of.ensures.found form.0 (subst (λ rs. ShowsForm rs form.0) (sym c.deref.ensures.value) shows) in
          let none = c.in-None.is in absurd cc),
    )

pub returns-clause-denies_pair : goal.returns-clause-denies_pair
returns-clause-denies_pair g c clean told =
    let old = state g.S.Store c.args.tx.now.conn.now in
    let new = state g.S.Store c.list.new.tx.conn.now in
    let rows = c.in_ok-rows.rows.items in (
      c.in_ok-rows.ensures.open clean,
      λ checks sound has form.
          (let shows = pair_number old new rows checks form.0 has (c.in_ok-rows.ensures.shown clean) form.1 in
          let is = c.number_of.ensures.found form.0 (subst (λ rs. ShowsForm rs form.0) (sym c.deref.ensures.value) shows) in
          let none = c.in-None.is in absurd cc),
    )

pub returns-in-Some-clause-same : goal.returns-in-Some-clause-same
returns-in-Some-clause-same g c clean =
    stays form_select [] (state g.S.Store c.args.tx.now.conn.now) (state g.S.Store c.list.new.tx.conn.now) c.in_ok-rows.rows.items form_selects
    (c.in_ok-rows.ensures.shown clean)
