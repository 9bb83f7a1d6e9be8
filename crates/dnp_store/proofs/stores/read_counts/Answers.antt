use Rattle.sqlite.specs.Held.{state}
use Rattle.std.proofs.Common.{[]}
use Rattle.dnp_store.specs.steps.Stores.{schema_for}
use Rattle.dnp_store.specs.Texts.{sequence_select}
use Rattle.dnp_store.proofs.Outcomes.{on_each}
use Rattle.dnp_store.proofs.Selecting.{counts_select, stays}
use Rattle.dnp_store.proofs.Opening.{count_plain, count_query, counts_if}
use Rattle.dnp_store.proofs.Unread.{if_err, means_nothing}
use Rattle.dnp_store.proofs.PairCounting.{two_if, count_plain as pair_count_plain}
use Rattle.dnp_store.specs.PairTables.{pair_schema}
use Rattle.dnp_store.proofs.QueueDenying.{most_if}
use Rattle.dnp_store.proofs.stores.read_counts.Goals as goal

pub returns-clause-read : goal.returns-clause-read
returns-clause-read g c clean =
    counts_if (state g.S.Store c.args.tx.now.conn.now) (state g.S.Store c.list.new.tx.conn.now) c.list.result (c.list.ensures.shown clean)

pub returns-clause-read_pair : goal.returns-clause-read_pair
returns-clause-read_pair g c clean =
    two_if (state g.S.Store c.args.tx.now.conn.now) (state g.S.Store c.list.new.tx.conn.now) c.list.result (c.list.ensures.shown clean)

pub returns-clause-denies : goal.returns-clause-denies
returns-clause-denies g c clean =
    let old = state g.S.Store c.args.tx.now.conn.now in
    let new = state g.S.Store c.list.new.tx.conn.now in
    if_err _ _ c.list.result (λ e refused kind told.
    let none = means_nothing old new count_query [] e told refused in
    (none.is_open, λ f r m sound has any. none.none (schema_for kind f r m) has (count_plain kind f r m))) (c.list.ensures.refused clean)

pub returns-clause-denies_pair : goal.returns-clause-denies_pair
returns-clause-denies_pair g c clean =
    let old = state g.S.Store c.args.tx.now.conn.now in
    let new = state g.S.Store c.list.new.tx.conn.now in
    if_err _ _ c.list.result (λ e refused told.
    let none = means_nothing old new count_query [] e told refused in
    (none.is_open, λ checks sound has any. none.none (pair_schema checks) has (pair_count_plain checks))) (c.list.ensures.refused clean)

pub returns-clause-in_range : goal.returns-clause-in_range
returns-clause-in_range g c clean =
    most_if (state g.S.Store c.args.tx.now.conn.now) (state g.S.Store c.list.new.tx.conn.now) c.list.result (c.list.ensures.shown clean)

pub returns-clause-same : goal.returns-clause-same
returns-clause-same g c clean =
    on_each _ _ c.list.result (λ rows shown. stays sequence_select [] (state g.S.Store c.args.tx.now.conn.now) (state g.S.Store c.list.new.tx.conn.now) rows.items
    counts_select shown) (c.list.ensures.shown clean)
