use Rattle.std.proofs.Common.{rules, ◌++◌, ap, sym, ◌∙◌, List}
use Rattle.dnp_outstation.specs.Items.{in_range, statics_from, statics_in}
use Rattle.dnp_outstation.specs.steps.Filling.{fill}
use Rattle.dnp_outstation.specs.steps.Grouping.{Marked}
use Rattle.dnp_outstation.specs.steps.Putting.{presents}
use Rattle.std.proofs.Common.{◌+◌, drop}
use Rattle.dnp_outstation.proofs.OfferPresent.{block_first, block_skipped, puts_more, puts_full}
use Rattle.dnp_outstation.proofs.offer.writer.Writer.put_blocks.Goals as goal

pub returns-then-not-put_block-clause-written : goal.returns-then-not-put_block-clause-written
returns-then-not-put_block-clause-written c = λ more.
    let l = c.loop-number in
    let header = c.args.ask.header in
    let r = c.args.ask.range in
    let kind = c.args.kind in
    let block = c.index-blocks-number.result in
    let blocks = c.args.blocks.now in
    let skip' = c.put_block.new.skip in
    sym (l.invariant.written more)
    ∙ ap (λ (items : List Marked). fill l.self (items ++ more))
    (block_first header l.skip skip' r c.args.ask.variation kind l.number block blocks (search rules) c.index-blocks-number.is c.put_block.ensures.skipped)
    ∙ puts_full l.self c.put_block.new.self c.put_block.result
    (presents header l.skip (in_range r (statics_from c.args.ask.variation l.number kind block.base block.points)))
    (presents header skip' (in_range r (statics_in c.args.ask.variation kind (l.number + 1) (drop (l.number + 1) blocks)))) more
    c.put_block.ensures.written (search rules)

pub loop-number-preserved : goal.loop-number-preserved
loop-number-preserved c =
    let l = c.loop-number in
    let header = c.args.ask.header in
    let r = c.args.ask.range in
    let kind = c.args.kind in
    let block = c.index-blocks-number.result in
    let blocks = c.args.blocks.now in
    let skip' = c.put_block.new.skip in
    record {
      written = λ more.
          sym (puts_more l.self c.put_block.new.self c.put_block.result
          (presents header l.skip (in_range r (statics_from c.args.ask.variation l.number kind block.base block.points)))
          (presents header skip' (in_range r (statics_in c.args.ask.variation kind (l.number + 1) (drop (l.number + 1) blocks)))) more
          c.put_block.ensures.written (search rules))
          ∙ ap (λ (items : List Marked). fill l.self (items ++ more))
          (sym (block_first header l.skip skip' r c.args.ask.variation kind l.number block blocks (search rules) c.index-blocks-number.is c.put_block.ensures.skipped))
          ∙ l.invariant.written more;
      skipped = sym (block_skipped l.skip skip' r c.args.ask.variation kind l.number block blocks (search rules) c.index-blocks-number.is c.put_block.ensures.skipped)
          ∙ l.invariant.skipped;
      response = c.put_block.ensures.response ∙ l.invariant.response;
      given = c.put_block.ensures.given (search rules) ∙ l.invariant.given;
    }
