use Rattle.std.proofs.Common.{[], rules, refl, subst, sym}
use Rattle.sqlite.specs.Held.{state}
use Rattle.dnp_store.specs.steps.Shown.{ShowsForm1}
use Rattle.dnp_store.specs.steps.Stores.{schema_for}
use Rattle.dnp_store.specs.Texts.{form_select}
use Rattle.dnp_store.proofs.Selecting.{form_selects, stays}
use Rattle.dnp_store.proofs.Opening.{form_plain, form_query, reads_form}
use Rattle.dnp_store.proofs.Unread.{err_on, form_shown, means_nothing}
use Rattle.dnp_store.proofs.stores.read_form.Goals as goal

pub returns-in-Some-clause-read : goal.returns-in-Some-clause-read
returns-in-Some-clause-read g c clean =
    let shows : ShowsForm1 c.in_ok-rows.rows.items c.in-Some._id = search rules in
    reads_form (state g.S.Store c.args.tx.now.conn.now) (state g.S.Store c.list.new.tx.conn.now) c.in_ok-rows.rows.items c.in-Some._id
    (c.in_ok-rows.ensures.shown clean) shows

pub returns-clause-wrong : goal.returns-clause-wrong
returns-clause-wrong g c clean told = (
  c.in_ok-rows.rows.items,
  c.in_ok-rows.ensures.shown clean,
  λ id shows.
      (let is = c.form1.ensures.found id (subst (λ rs. ShowsForm1 rs id) (sym c.deref.ensures.value) shows) in
      let none = c.in-None.is in cc),
)

pub returns-in_err-rows-clause-denies : goal.returns-in_err-rows-clause-denies
returns-in_err-rows-clause-denies g c clean =
    let old = state g.S.Store c.args.tx.now.conn.now in
    let new = state g.S.Store c.list.new.tx.conn.now in
    err_on _ c.from_residual.result _ c.from_residual.ensures (λ kind told.
    let none = means_nothing old new form_query [] _ told (c.in_err-rows.ensures.refused clean) in
    (none.is_open, λ f r m sound has form. none.none (schema_for kind f r m) has (form_plain kind f r m)))

pub returns-clause-denies : goal.returns-clause-denies
returns-clause-denies g c clean kind told =
    let old = state g.S.Store c.args.tx.now.conn.now in
    let new = state g.S.Store c.list.new.tx.conn.now in (
      c.in_ok-rows.ensures.open clean,
      λ f r m sound has form.
          (let shows = form_shown old new c.in_ok-rows.rows.items kind f r m has (c.in_ok-rows.ensures.shown clean) form in
          let is = c.form1.ensures.found shows.0 (subst (λ rs. ShowsForm1 rs shows.0) (sym c.deref.ensures.value) shows.1) in
          let none = c.in-None.is in absurd cc),
    )

pub returns-in-Some-clause-numbered : goal.returns-in-Some-clause-numbered
returns-in-Some-clause-numbered g c clean =
    let shows : ShowsForm1 c.in_ok-rows.rows.items c.in-Some._id = search rules in
    record {
      old = c.args.tx.now.conn.now;
      new = c.list.new.tx.conn.now;
      rows = c.in_ok-rows.rows.items;
      of = refl;
      shown = c.in_ok-rows.ensures.shown clean;
      one = record { id = c.in-Some._id; one = shows.one; id_is = shows.id_is; number = shows.number };
    }

pub returns-in-Some-clause-same : goal.returns-in-Some-clause-same
returns-in-Some-clause-same g c clean =
    stays form_select [] (state g.S.Store c.args.tx.now.conn.now) (state g.S.Store c.list.new.tx.conn.now) c.in_ok-rows.rows.items form_selects
    (c.in_ok-rows.ensures.shown clean)
