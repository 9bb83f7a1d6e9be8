use Rattle.std.proofs.Common.{◌≡◌, ℕ, length, take, ◌-◌, eqb-true, eq-eqb, subst, sym, ◌∙◌, arith}
use Rattle.dnp_linkframe.specs.CheckWord.{IsCheckWord}
use Rattle.dnp_linkframe.proofs.LastTwo.{checked_from, checked_word}
use Rattle.dnp_linkframe.proofs.reading.is_checked.Goals as goal

-- the two octets make the one check word of the part exactly where the part is followed by its check word
pub returns-in-len2-up : goal.returns-in-len2-up
returns-in-len2-up c = (
  λ same.
      let word : c.from_le_bytes.result ≡ c.check_word.result = eqb-true c.from_le_bytes.result c.check_word.result same in
      checked_from c.args.octets.now c.from_le_bytes.result c.in-len2-up.len_at_least (λ i. let fits = c.type_inv.octets i in omega arith) c.from_le_bytes.ensures
      (subst (λ (w : ℕ). IsCheckWord (take (length c.args.octets.now - 2) c.args.octets.now) w) (sym word) c.check_word.ensures.defined),
  λ checked.
      eq-eqb c.from_le_bytes.result c.check_word.result
      (c.from_le_bytes.ensures ∙ c.check_word.ensures.only _ (checked_word c.args.octets.now checked)),
)
