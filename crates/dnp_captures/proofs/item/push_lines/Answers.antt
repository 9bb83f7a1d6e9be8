use Rattle.std.proofs.Common.{◌≡◌, ℕ, ◌≤◌, List, [], ◌∷◌, ◌++◌, ◌∙◌, ap, get_or, subst, arith, rules}
use Rattle.dnp_decode.specs.declared.line.Line.{Line}
use Rattle.dnp_captures.specs.Items.{brought_by, item_at, told_with}
use Rattle.dnp_captures.proofs.Marks.{marked_step, told_low, told_up}
use Rattle.dnp_captures.proofs.item.push_lines.Goals as goal

pub loop-line-preserved : goal.loop-line-preserved
loop-line-preserved c =
    let marks = c.args.marks.now in
    let next = c.loop-line.next in
    let n = c.saturating_add-next.result in
    let line : Line = get_or c.args.lines.now c.loop-line.line-index c.line-item.result in
    let told : n ≡ told_with next line = subst (λ (l : Line). n ≡ told_with next l) c.line-item.is (search rules) in
    let up : next ≤ n = told_up next n line c.loop-line.invariant.bound told in
    let brought : c.pass.result.1 ≡ brought_by 0 n marks = c.pass.ensures.brought ∙ c.loop-line.invariant.onward n up in
    record {
      all =
          marked_step marks c.args.lines.now c.loop-line.line-index c.line-item.result next n c.pass.result.1 c.loop-line.items.items
          c.push.new.self.items _ c.loop-line-test.true told brought
          (c.in_ok-push.ensures.items ∙ ap (λ (l : Line). c.loop-line.items.items ++ item_at c.pass.result.1 l ∷ []) c.line-item.is)
          c.loop-line.invariant.all;
      bound = told_low next n line told;
      within = c.pass.ensures.within;
      onward = λ m more. c.pass.ensures.onward m more ∙ c.loop-line.invariant.onward m (omega (arith, up, more));
    }
