use Rattle.std.proofs.Common.{[], ◌∷◌, subst}
use Rattle.std.specs.Prelude.{IfErr}
use Rattle.dnp_store.specs.Refusals.{IsStopped, RefusesOne}
use Rattle.dnp_store.specs.Schemas.{form_text, rows_text}
use Rattle.dnp_store.specs.steps.Making.{ExecuteAll}
use Rattle.dnp_store.proofs.Adding.{made_texts}
use Rattle.dnp_store.proofs.Numbering.{began, number_text}
use Rattle.dnp_store.proofs.Stepping.{on_then}
use Rattle.dnp_store.proofs.stores.make_tables.Goals as goal

pub returns-clause-step : goal.returns-clause-step
returns-clause-step g c = c.run_all.ensures.step

pub returns-clause-made : goal.returns-clause-made
returns-clause-made g c clean =
    let old = c.args.tx.now.conn.now in
    let new = c.run_all.new.tx.conn.now in
    on_then _ _ c.run_all.result (λ ran none. began g.S.Store c.args.kind old new none
    (subst (λ text. ExecuteAll g.S.Store (form_text ∷ text ∷ number_text ∷ []) old new) c.rows_text.ensures ran))
    (c.run_all.ensures.ran clean)

pub returns-clause-added : goal.returns-clause-added
returns-clause-added g c clean =
    let old = c.args.tx.now.conn.now in
    let new = c.run_all.new.tx.conn.now in
    on_then _ _ c.run_all.result (λ ran. made_texts g.S.Store (form_text ∷ rows_text c.args.kind ∷ number_text ∷ []) old new
    (subst (λ text. ExecuteAll g.S.Store (form_text ∷ text ∷ number_text ∷ []) old new) c.rows_text.ensures ran))
    (c.run_all.ensures.ran clean)

pub returns-clause-refused : goal.returns-clause-refused
returns-clause-refused g c clean =
    let old = c.args.tx.now.conn.now in
    let new = c.run_all.new.tx.conn.now in
    subst (λ text. IfErr c.run_all.result (IsStopped g.S.Store (RefusesOne g.S.Store ((form_text, []) ∷ (text, []) ∷ (number_text, []) ∷ [])) old new))
    c.rows_text.ensures (c.run_all.ensures.refused clean)
