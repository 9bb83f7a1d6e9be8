use Rattle.std.proofs.Common.{ℕ, ◌+◌, ◌*◌, ◌/◌, ◌<◌, ◌≤◌, ◌^◌, List, [], ◌∷◌, length, drop, get_or, subst, arith}
use Rattle.std.proofs.lemmas.List.{take_all}
use Rattle.std.specs.Int.{bit_not, w16}
use Rattle.std.specs.Simd.{first_chunks}
use Rattle.dnp_linkframe.specs.CheckWord.{message, remainder}
use Rattle.dnp_linkframe.specs.steps.Division.{Continues, Leaves}
use Rattle.dnp_linkframe.specs.Polynomials.{times_x}
use Rattle.dnp_linkframe.proofs.EightOctets.{block_more, octet_more}
use Rattle.dnp_linkframe.proofs.Octets.{octets_done}
use Rattle.dnp_linkframe.proofs.Unique.{one_check_word}
use Rattle.dnp_linkframe.proofs.check.check_word.Goals as goal

pub loop-block-preserved : goal.loop-block-preserved
loop-block-preserved c =
    let xs : List ℕ = c.args.octets.now in
    let i : ℕ = c.loop-block.block-index in
    let old : ℕ = c.loop-block.word in
    let new : ℕ = c.after_eight-word.result in
    let fits : new < 2 ^ 16 = omega arith in
    let within : i < length xs / 8 = omega arith in
    let block : Continues (get_or (first_chunks 8 (length xs / 8) xs) i []) old new =
    subst (λ (s : List (List ℕ)). Continues (get_or s i []) old new) c.as_chunks.ensures.front c.after_eight-word.ensures in
    (fits, block_more xs (length xs / 8) i old new within c.loop-block.invariant.1 block)

pub loop-octet-preserved : goal.loop-octet-preserved
loop-octet-preserved c =
    let xs : List ℕ = c.args.octets.now in
    let i : ℕ = c.loop-octet.octet-index in
    let old : ℕ = c.loop-octet.word in
    let new : ℕ = c.after_octet-word.result in
    let fits : new < 2 ^ 16 = omega arith in
    let within : length xs / 8 * 8 + i < length xs = omega arith in
    let octet : Continues (get_or (drop (length xs / 8 * 8) xs) i 0 ∷ []) old new =
    subst (λ (s : List ℕ). Continues (get_or s i 0 ∷ []) old new) c.as_chunks.ensures.back c.after_octet-word.ensures in
    (fits, octet_more xs (length xs / 8 * 8) i old new within c.loop-octet.invariant.1 octet)

pub returns-clause-defined : goal.returns-clause-defined
returns-clause-defined c =
    let xs : List ℕ = c.args.octets.now in
    let n : ℕ = length xs / 8 * 8 + c.loop-octet.octet-index in
    let all : length xs ≤ n = omega arith in
    octets_done xs c.loop-octet.word c.loop-octet.invariant.0
    (subst (λ (s : List ℕ). Leaves (times_x 16 (message s)) (remainder c.loop-octet.word)) (take_all n xs all) c.loop-octet.invariant.1)

pub returns-clause-only : goal.returns-clause-only
returns-clause-only c word h =
    one_check_word c.args.octets.now word (bit_not w16 c.loop-octet.word) h (returns-clause-defined c)
