use Rattle.std.proofs.Common.{[], None, refl, sym, ap, ◌∙◌}
use Rattle.dnp_appfragment.specs.Built.{context_of}
use Rattle.dnp_appfragment.proofs.Laid.{fresh}
use Rattle.dnp_appfragment.proofs.builder.Builder.new.Goals as goal

pub invariant_of-result : goal.invariant_of-result
invariant_of-result c =
    let made =
    (fresh c.args.function c.args.is_response c.push_front-ended.new.octets.items [] c.push_front-ended.result None c.requires (c.push_front-ended.ensures.room ∙ c.push_front-ended.ensures.size)
    (sym c.push_front-ended.ensures.room) refl) in
    (made.0, sym (ap context_of made.1))

pub returns : goal.returns
returns c =
    (fresh c.args.function c.args.is_response c.push_front-ended.new.octets.items [] c.push_front-ended.result None c.requires (c.push_front-ended.ensures.room ∙ c.push_front-ended.ensures.size)
    (sym c.push_front-ended.ensures.room) refl).1
