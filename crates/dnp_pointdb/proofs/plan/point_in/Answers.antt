use Rattle.std.proofs.Common.{◌≡◌, ℕ, ◌+◌, ◌-◌, ◌<◌, ◌≤◌, Bool, true, cond, List, length, get_or, drop, Some, refl, sym, ◌∙◌, ap, arith}
use Rattle.std.specs.List.{slice_get}
use Rattle.std.proofs.lemmas.List.{at_drop_more}
use Rattle.std.proofs.lemmas.Option.{slice_get_within, slice_get_read}
use Rattle.std.proofs.lemmas.Bool.Decides.{nat_tests}
use Rattle.dnp_pointdb.specs.declared.point.Point.{Point}
use Rattle.dnp_pointdb.specs.declared.point.Block.{Block}
use Rattle.dnp_pointdb.specs.Classes.{has_index, point_in}
use Rattle.dnp_pointdb.proofs.plan.point_in.Goals as goal

within : (b : Block) (index : ℕ) → b.base ≤ index → index - b.base < length b.points → has_index b index ≡ true
within b index low high = grind (arith, nat_tests)

found : (blocks : List Block) (k index : ℕ) (b : Block) (p : Point) → k < length blocks → b ≡ get_or blocks k b → b.base ≤ index
    → slice_get b.points (index - b.base) ≡ Some p → point_in (drop k blocks) index ≡ Some p
found blocks k index b p lt is low at =
    at_drop_more (λ (bs : List Block). point_in bs index) blocks k b lt
    ∙ ap (λ (x : Block). cond (has_index x index) (slice_get x.points (index - x.base)) (point_in (drop (k + 1) blocks) index)) (sym is)
    ∙ ap (λ (t : Bool). cond t (slice_get b.points (index - b.base)) (point_in (drop (k + 1) blocks) index)) (within b index low (slice_get_within b.points (index - b.base) p at))
    ∙ at

pub returns-in-Some : goal.returns-in-Some
returns-in-Some c =
    let b : Block = c.block-item.result in
    let at : slice_get b.points (c.args.index - b.base) ≡ Some c.in-Some.point.now =
    ap (λ (ps : List Point). slice_get ps (c.args.index - b.base)) (sym c.as_slice.ensures)
    ∙ ap (λ (n : ℕ). slice_get c.as_slice.result.now n) (sym c.from-place.ensures)
    ∙ slice_get_read c.as_slice.result.now (length c.as_slice.result.now) c.from-place.result c.in-Some.point.now refl c.in-Some.ensures.lookup.3.0 c.in-Some.ensures.lookup.1 in
    sym (found c.args.blocks.now c.loop-block.block-index c.args.index b c.in-Some.point.now c.loop-block-test.true c.block-item.is c.if-block-index.true at)
    ∙ c.loop-block.invariant
