-- The header has its check word first; then each block adds its own. Octets with check words have one spelling.
use Rattle.std.proofs.Common.{◌≡◌, ℕ, List, ◌∷◌, length, arith, rules, refl, ◌∙◌, subst, min}
use Rattle.dnp_linkframe.specs.Frames.{HasCheck, header, blocks}
use Rattle.dnp_linkframe.proofs.Blocks.{writes_first, writes_more, writes_all, one_joined}
use Rattle.dnp_linkframe.proofs.writing.write_frame_into.Goals as goal

pub loop-block-init : goal.loop-block-init
loop-block-init c =
    let has : HasCheck (header c.args.frame.now) c.push_checked.ensures.0 =
    subst (λ (part : List ℕ). HasCheck part c.push_checked.ensures.0) c.header_of.ensures.octets c.push_checked.ensures.1 in
    let start = writes_first (header c.args.frame.now) c.args.frame.now.user.items c.push_checked.ensures.0 refl c.header_of.ensures.fits.user has in
    (search rules, search rules)

pub push_checked-requires-in-loop-block : goal.push_checked-requires-in-loop-block
push_checked-requires-in-loop-block c =
    let steps = (c.in-Some.ensures).steps in
    let room = c.loop-block.invariant.1.room in
    omega arith

pub loop-block-preserved : goal.loop-block-preserved
loop-block-preserved c =
    let steps = (c.in-Some.ensures).steps in
    let invariant = c.loop-block.invariant in
    let chunk : length c.in-Some.block.now ≡ min 16 (length c.loop-block.block-iterator.rest.now) =
    subst (λ (n : ℕ). length c.in-Some.block.now ≡ min n (length c.loop-block.block-iterator.rest.now)) invariant.0 steps.1.1 in
    let written = writes_more (header c.args.frame.now ∷ blocks c.args.frame.now.user.items) c.loop-block.unit.items
    c.loop-block.block-iterator.rest.now c.push_checked-in-loop-block.ensures.0
    c.in-Some.block.now c.next.new.self.rest.now steps.1.2 steps.1.0 chunk invariant.1 c.push_checked-in-loop-block.ensures.1 in
    (steps.0 ∙ invariant.0, rw c.push_checked-in-loop-block.ensures.2 written)

pub returns-clause-spells : goal.returns-clause-spells
returns-clause-spells c =
    let steps = (c.in-None.ensures).steps in (
      c.header_of.ensures.fits,
      writes_all (header c.args.frame.now ∷ blocks c.args.frame.now.user.items) c.loop-block.unit.items
          c.loop-block.block-iterator.rest.now steps.1.0 c.loop-block.invariant.1,
    )

pub returns-clause-only : goal.returns-clause-only
returns-clause-only c =
    let steps = (c.in-None.ensures).steps in
    λ unit spelled. one_joined (header c.args.frame.now ∷ blocks c.args.frame.now.user.items) unit c.loop-block.unit.items spelled.1
    (writes_all (header c.args.frame.now ∷ blocks c.args.frame.now.user.items) c.loop-block.unit.items
    c.loop-block.block-iterator.rest.now steps.1.0 c.loop-block.invariant.1)
