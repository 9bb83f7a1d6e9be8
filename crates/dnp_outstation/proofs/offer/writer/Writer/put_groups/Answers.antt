use Rattle.std.proofs.Common.{rules, ℕ, ◌+◌, ◌-◌, ◌++◌, ap, refl, sym, ◌∙◌, List, get_or, drop, length}
use Rattle.std.proofs.lemmas.List.{drop_more}
use Rattle.std.specs.List.{flat_map}
use Rattle.dnp_outstation.specs.Items.{in_range, statics_of}
use Rattle.dnp_outstation.specs.steps.Filling.{fill}
use Rattle.dnp_outstation.specs.steps.Grouping.{Marked}
use Rattle.dnp_outstation.specs.steps.Putting.{presents}
use Rattle.dnp_outstation.proofs.OfferPresent.{group_first, puts_more, puts_full}
use Rattle.dnp_outstation.proofs.offer.writer.Writer.put_groups.Goals as goal

pub returns-then-not-put_group-clause-written : goal.returns-then-not-put_group-clause-written
returns-then-not-put_group-clause-written g c = λ s points panel more.
    let l = c.loop-group in
    let header = c.args.ask.header in
    let r = c.args.ask.range in
    let groups = c.args.groups.now in
    let group = get_or groups l.group-index 0 in
    let rest = drop (l.group-index + 1) groups in
    let skip' = l.skip - length (in_range r (statics_of s c.args.ask.variation group)) in
    sym (l.invariant.written s points panel more)
    ∙ ap (λ (gs : List ℕ). fill l.self (presents header l.skip (in_range r (flat_map (statics_of s c.args.ask.variation) gs)) ++ more))
    (drop_more groups l.group-index 0 (search rules))
    ∙ ap (λ (items : List Marked). fill l.self (items ++ more)) (group_first header l.skip skip' r s c.args.ask.variation group rest refl)
    ∙ puts_full l.self c.put_group.new.self c.put_group.result
    (presents header l.skip (in_range r (statics_of s c.args.ask.variation group))) (presents header skip' (in_range r (flat_map (statics_of s c.args.ask.variation) rest))) more
    (c.put_group.ensures.written s points panel) (search rules)

pub loop-group-preserved : goal.loop-group-preserved
loop-group-preserved g c =
    let l = c.loop-group in
    let header = c.args.ask.header in
    let r = c.args.ask.range in
    let groups = c.args.groups.now in
    let group = get_or groups l.group-index 0 in
    let rest = drop (l.group-index + 1) groups in
    let skip' = c.put_group.new.skip in
    record {
      written = λ s points panel more.
          sym (puts_more l.self c.put_group.new.self c.put_group.result
          (presents header l.skip (in_range r (statics_of s c.args.ask.variation group))) (presents header skip' (in_range r (flat_map (statics_of s c.args.ask.variation) rest))) more
          (c.put_group.ensures.written s points panel) (search rules))
          ∙ ap (λ (items : List Marked). fill l.self (items ++ more))
          (sym (group_first header l.skip skip' r s c.args.ask.variation group rest (c.put_group.ensures.skipped s points panel (search rules))))
          ∙ ap (λ (gs : List ℕ). fill l.self (presents header l.skip (in_range r (flat_map (statics_of s c.args.ask.variation) gs)) ++ more))
          (sym (drop_more groups l.group-index 0 (search rules)))
          ∙ l.invariant.written s points panel more;
      response = c.put_group.ensures.response ∙ l.invariant.response;
      given = c.put_group.ensures.given (search rules) ∙ l.invariant.given;
    }
