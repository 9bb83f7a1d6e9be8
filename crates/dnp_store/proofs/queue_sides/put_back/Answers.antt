use Rattle.std.proofs.Common.{◌≡◌, ℕ, List, IsTrue, true, false, refl, sym, subst, ◌∙◌}
use Rattle.dnp_objects.specs.declared.limits.TheConstants.{MAX_ID}
use Rattle.dnp_store.specs.steps.Shown.{IsMost}
use Rattle.dnp_store.proofs.queue_sides.put_back.Goals as goal

pub returns-then-restore_rows-clause-put : goal.returns-then-restore_rows-clause-put
returns-then-restore_rows-clause-put c = record {
  last = c.in-Some.last_id;
  bare = c.in-Ok.lanes;
  begun = c.in-Ok.ensures;
  restored = c.restore_rows.ensures.put c.if-restore_rows.true;
  same = c.in-Some.ensures.value.1;
}

-- the rows would be put back
pub returns-else-restore_rows-clause-wrong : goal.returns-else-restore_rows-clause-wrong
returns-else-restore_rows-clause-wrong c told most can =
    let put = can.put c.in-Ok.lanes c.in-Some.last_id (can.topped c.in-Some.last_id c.in-Some.ensures.over) c.in-Ok.ensures in
    let yes : IsTrue c.restore_rows.result = c.restore_rows.ensures.fits put.0 can.whole put.1 in
    let no : true ≡ false = sym yes ∙ c.if-restore_rows.false in
    absurd (let wrong = no in cc)

-- the last id would be found
pub returns-in_default-clause-wrong : goal.returns-in_default-clause-wrong
returns-in_default-clause-wrong c told most can =
    let name = subst (λ (table : List ℕ). IsMost table c.args.counts.now MAX_ID) (sym c.rows_name.ensures) most in
    c.in_default.ensures.some name can.in_range refl
