use Rattle.std.proofs.Common.{[], ◌∷◌, ◌++◌, ap, append_assoc, subst, sym, ◌∙◌}
use Rattle.std.specs.Prelude.{OnErr}
use Rattle.dnp_daemons.proofs.Written.{Begins}
use Rattle.dnp_daemons.proofs.report_text.write_count.Goals as goal

pub returns-clause-part : goal.returns-clause-part
returns-clause-part g c =
    subst (λ text. OnErr c.write_parts.result (Begins text (g.W.Write.contents c.args.out.now) (g.W.Write.contents c.write_parts.new.out)))
    (ap (λ number. c.args.name.now ++ (32 ∷ number ++ 10 ∷ [])) (c.as_bytes.ensures.value ∙ c.format.ensures.text)
    ∙ sym (append_assoc c.args.name.now (32 ∷ g.N.Integer.text c.args.count) (10 ∷ [])))
    c.write_parts.ensures.part
