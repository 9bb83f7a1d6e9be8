use Rattle.std.proofs.Common.{rules, ℕ, ◌≡◌, ◌<◌, List, [], ◌∷◌, length, IfNone, ◌++◌, drop, min, arith, ap, sym, ◌∙◌, subst}
use Rattle.std.specs.Str.{str_to_ascii_uppercase}
use Rattle.std.proofs.lemmas.List.{nil_from_length}
use Rattle.dnp_streams.specs.OctetLines.{without_line_feed, IsLineOf}
use Rattle.dnp_streams.proofs.SpacedPieces.{Reads, IsPiece, is_piece, reads_more, reads_all, refused, line_ends, EndsWell, last_of}
use Rattle.dnp_streams.proofs.octets.read_octets.Goals as goal

pub returns-in_err-first_octet-clause-none : goal.returns-in_err-first_octet-clause-none
returns-in_err-first_octet-clause-none c =
    let steps = (c.in-Some.ensures).steps in
    let rest = c.loop-piece.piece-iterator.rest.now in
    let line = without_line_feed c.args.text.now in
    let none = (c.in_err-first_octet.ensures).none in
    let size : length c.in-Some.piece.now ≡ min 3 (length rest) = steps.1.1 ∙ ap (λ (n : ℕ). min n (length rest)) c.loop-piece.invariant.0 in
    let piece : IsPiece rest c.in-Some.piece.now c.next.new.self.rest.now =
    is_piece rest c.in-Some.piece.now c.next.new.self.rest.now steps.1.2 steps.1.0 size in
    let no : (octets : List ℕ) → IsLineOf c.args.text.now octets → ⊥ = λ octets is_line.
    refused line c.loop-piece.octets.items rest octets c.loop-piece.invariant.1 piece.some
    (λ octet small front. none octet small (sym piece.front ∙ front)) is_line.bytes is_line.digits in
    subst (λ r. IfNone r ((octets : List ℕ) → IsLineOf c.args.text.now octets → ⊥)) (sym c.from_residual.ensures) no

pub loop-piece-preserved : goal.loop-piece-preserved
loop-piece-preserved c =
    let steps = (c.in-Some.ensures).steps in
    let rest = c.loop-piece.piece-iterator.rest.now in
    let line = without_line_feed c.args.text.now in
    let octet = c.in_ok-first_octet.field-0 in
    let found = (c.in_ok-first_octet.ensures).found in
    let size : length c.in-Some.piece.now ≡ min 3 (length rest) = steps.1.1 ∙ ap (λ (n : ℕ). min n (length rest)) c.loop-piece.invariant.0 in
    let piece : IsPiece rest c.in-Some.piece.now c.next.new.self.rest.now =
    is_piece rest c.in-Some.piece.now c.next.new.self.rest.now steps.1.2 steps.1.0 size in
    let small : octet < 256 = search rules in
    let next : Reads line (c.loop-piece.octets.items ++ octet ∷ []) (drop 3 rest) =
    reads_more line c.loop-piece.octets.items rest octet c.loop-piece.invariant.1 small piece.some (piece.front ∙ found) in
    let back : Reads line (c.loop-piece.octets.items ++ octet ∷ []) c.next.new.self.rest.now =
    subst (λ (t : List ℕ). Reads line (c.loop-piece.octets.items ++ octet ∷ []) t) piece.back next in (
      steps.0 ∙ c.loop-piece.invariant.0,
      subst (λ (t : List ℕ). Reads line t c.next.new.self.rest.now) (sym c.push.ensures.items) back,
    )

pub returns-clause-found : goal.returns-clause-found
returns-clause-found c =
    let steps = (c.in-None.ensures).steps in
    let line = without_line_feed c.args.text.now in
    let rest = c.loop-piece.piece-iterator.rest.now in
    let done : Reads line c.loop-piece.octets.items [] =
    subst (λ (t : List ℕ). Reads line c.loop-piece.octets.items t) (nil_from_length rest steps.1.0) c.loop-piece.invariant.1 in
    record {
      short = omega (arith, ap length c.line_in-line.ensures);
      digits = reads_all line c.loop-piece.octets.items done;
      bytes = done.bytes;
    }

pub returns-in-32-clause-none : goal.returns-in-32-clause-none
returns-in-32-clause-none c = λ octets is_line.
    let line = c.line_in-line.result.now in
    let ends : EndsWell line = line_ends line octets (ap str_to_ascii_uppercase c.line_in-line.ensures ∙ is_line.digits) in
    let last : last_of line ≡ 32 = omega arith in
    ends c.in-32.len_at_least last
