use Rattle.std.proofs.Common.{rules, ◌≡◌, ℕ, ◌++◌, List, Option, sym, subst}
use Rattle.std.specs.Prelude.{option_to_list}
use Rattle.dnp_linkframe.specs.declared.frame.Frame.{Frame}
use Rattle.dnp_linkframe.specs.Frames.{Spells}
use Rattle.dnp_streams.specs.links.Outputs.{ArePut}
use Rattle.dnp_streams.proofs.streams.Spelling.{put_unit, put_none}
use Rattle.dnp_streams.proofs.link.outgoing.put_reply.Goals as goal

pub returns-in-Some-clause-put : goal.returns-in-Some-clause-put
returns-in-Some-clause-put c =
    let old = c.args.out.now.items in
    let new = c.try_extend_from_slice.new.self.items in
    let unit = c.deref.result.now in
    let (reply, is, spells) = c.in-Some.ensures.spells in
    let put : new ≡ old ++ unit = search rules in
    subst (λ (r : Option Frame). ArePut old (option_to_list r) new) (sym is)
    (put_unit old new reply unit (subst (λ (u : List ℕ). Spells u reply) (sym c.deref.ensures.0) spells) put)

pub returns-in_default-clause-put : goal.returns-in_default-clause-put
returns-in_default-clause-put c =
    let old = c.args.out.now.items in
    subst (λ (r : Option Frame). ArePut old (option_to_list r) old) (sym c.in_default.ensures.none) (put_none old)
