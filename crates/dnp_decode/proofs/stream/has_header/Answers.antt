use Rattle.std.proofs.Common.{◌≡◌, ℕ, take, eqb-true, eq-eqb, subst, sym, ◌∙◌, arith}
use Rattle.dnp_linkframe.specs.CheckWord.{IsCheckWord}
use Rattle.dnp_decode.proofs.Headers.{header_from, header_word}
use Rattle.dnp_decode.proofs.stream.has_header.Goals as goal

-- the two octets make the one check word of the eight before exactly where they are followed by their check word
pub returns : goal.returns
returns c = (
  λ same.
      let word : c.from_le_bytes.result ≡ c.check_word.result = eqb-true c.from_le_bytes.result c.check_word.result same in
      header_from c.args.stream.now c.from_le_bytes.result c.requires (λ i. let fits = c.type_inv.stream i in omega arith)
      c.if-stream-ne5.false c.if-stream-ne100.false c.from_le_bytes.ensures
      (subst (λ (w : ℕ). IsCheckWord (take 8 c.args.stream.now) w) (sym word) c.check_word.ensures.defined),
  λ header.
      eq-eqb c.from_le_bytes.result c.check_word.result
      (c.from_le_bytes.ensures ∙ c.check_word.ensures.only _ (header_word c.args.stream.now header)),
)
