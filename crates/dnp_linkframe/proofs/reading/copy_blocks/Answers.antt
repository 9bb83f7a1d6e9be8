use Rattle.std.proofs.Common.{rules, ◌≡◌, ℕ, ◌+◌, ◌-◌, List, [], length, take, subst, ◌∙◌, arith, min}
use Rattle.std.proofs.lemmas.List.{length-append}
use Rattle.dnp_linkframe.specs.Frames.{IsChecked}
use Rattle.dnp_linkframe.proofs.Blocks.{length-checked}
use Rattle.dnp_linkframe.proofs.ReadBlocks.{Reads, reads_none, reads_more, reads_all, part_of, next_good, leaves_now, Leaves}
use Rattle.dnp_linkframe.proofs.reading.copy_blocks.Goals as goal

pub loop-block-init : goal.loop-block-init
loop-block-init c =
    let sized = c.requires.sized in
    let start : Reads c.args.octets.now [] c.args.octets.now sized.0 = reads_none c.args.octets.now sized.0 sized.2 in
    (sized.0, sized.1, search rules, search (rules, start))

pub copy_block-requires : goal.copy_block-requires
copy_block-requires c =
    let steps = (c.in-Some.ensures).steps in
    let invariant = c.loop-block.invariant in
    let block : List ℕ = c.in-Some.block.now in
    let after : List ℕ = c.next.new.self.rest.now in
    let chunk : length c.in-Some.block.now ≡ min 18 (length c.loop-block.block-iterator.rest.now) =
    subst (λ (n : ℕ). length c.in-Some.block.now ≡ min n (length c.loop-block.block-iterator.rest.now)) invariant.2 steps.1.1 in
    let good : IsChecked block =
    next_good c.args.octets.now c.loop-block.user.items c.loop-block.block-iterator.rest.now block after invariant.0
    c.requires.checked invariant.3 steps.1.2 steps.1.0 chunk in
    let leaves : Leaves c.loop-block.user.items (take (length block - 2) block) block after invariant.0 =
    leaves_now c.loop-block.user.items c.loop-block.block-iterator.rest.now block after invariant.0
    invariant.3.left steps.1.2 steps.1.0 chunk good in
    let here = leaves.left.here in
    let size : length block ≡ length (take (length block - 2) block) + 2 = length-checked (take (length block - 2) block) block (part_of block good) in
    record {
      two = omega arith;
      room = omega (arith, invariant.1, length-append c.loop-block.user.items (take (length block - 2) block));
    }

pub loop-block-preserved : goal.loop-block-preserved
loop-block-preserved c =
    let steps = (c.in-Some.ensures).steps in
    let invariant = c.loop-block.invariant in
    let chunk : length c.in-Some.block.now ≡ min 18 (length c.loop-block.block-iterator.rest.now) =
    subst (λ (n : ℕ). length c.in-Some.block.now ≡ min n (length c.loop-block.block-iterator.rest.now)) invariant.2 steps.1.1 in
    let good : IsChecked c.in-Some.block.now =
    next_good c.args.octets.now c.loop-block.user.items c.loop-block.block-iterator.rest.now c.in-Some.block.now c.next.new.self.rest.now invariant.0
    c.requires.checked invariant.3 steps.1.2 steps.1.0 chunk in
    let next = reads_more c.args.octets.now c.loop-block.user.items c.loop-block.block-iterator.rest.now c.in-Some.block.now
    c.next.new.self.rest.now invariant.0 invariant.3 steps.1.2 steps.1.0 chunk good in
    (invariant.0, invariant.1, steps.0 ∙ invariant.2, rw c.copy_block.ensures next)

pub returns : goal.returns
returns c =
    let steps = (c.in-None.ensures).steps in
    let invariant = c.loop-block.invariant in
    reads_all c.args.octets.now c.loop-block.user.items c.loop-block.block-iterator.rest.now invariant.0 invariant.3 steps.1.0
