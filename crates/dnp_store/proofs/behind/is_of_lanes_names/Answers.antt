use Rattle.std.proofs.Common.{◌≡◌, ◌∙◌, sym, ap, codes, false}
use Rattle.sqlite_schema.specs.Names.{same_name}
use Rattle.dnp_store.proofs.Apart.{third}
use Rattle.dnp_store.proofs.behind.is_of_lanes_names.Goals as goal

pub returns : goal.returns
returns c =
    let n = c.args.name.now in
    let a : same_name (codes "lanes") n ≡ false = ap (λ x. same_name x n) (sym c.as_bytes.ensures.value) ∙ sym c.same_name.ensures ∙ c.if-same_name.false in
    let b : same_name (codes "queue_b") n ≡ false = ap (λ x. same_name x n) (sym c.as_bytes-2.ensures.value) ∙ sym c.same_name-2.ensures ∙ c.if-same_name-2.false in
    third _ _ _ (same_name (codes "lanes_b") n) a b (c.same_name-3.ensures ∙ ap (λ x. same_name x n) c.as_bytes-3.ensures.value)
