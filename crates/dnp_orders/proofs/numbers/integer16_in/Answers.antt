use Rattle.std.proofs.Common.{rules, ◌≢◌, ◌∙◌, get_or, w16}
use Rattle.dnp_orders.proofs.Parsed.{parsed_integer}
use Rattle.dnp_orders.proofs.numbers.integer16_in.Goals as goal

pub returns : goal.returns
returns c =
    let no_plus : get_or c.args.word.now 0 0 ≢ 43 = search rules in
    c.ok.ensures.value ∙ parsed_integer w16 c.args.word.now c.parse.result no_plus c.parse.ensures.value.0
