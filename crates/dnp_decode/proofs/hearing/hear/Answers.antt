-- The assembler of the frame's direction takes its user data; its lines are put after the two of the frame and the segment.
use Rattle.std.proofs.Common.{◌≡◌, ◌==◌, ◌<◌, ℕ, true, cond, List, ◌∷◌, sym, ◌∙◌, ap, subst, refl}
use Rattle.dnp_transport.specs.Assembly.{Assembly, Idle, ArePushed}
use Rattle.dnp_decode.specs.declared.line.Line.TheVariants as line
use Rattle.dnp_decode.specs.FrameLines.{says_data, data_of, frame_line, segment_line, AreDataLines, Carries}
use Rattle.dnp_decode.specs.steps.Remembered.{direction_of, assembly_at}
use Rattle.dnp_decode.proofs.Remembering.{own_way, remembers_more}
use Rattle.dnp_decode.proofs.Steps.{two_put}
use Rattle.dnp_decode.proofs.hearing.hear.Goals as goal

pub returns : goal.returns
returns c = λ heard remembers.
    let frame = c.args.frame.now in
    let pushed : List (List ℕ) = data_of frame.source frame.dest heard in
    let user : c.as_slice-user.result.now ≡ frame.user.items = c.as_slice-user.ensures.value in
    let way : c.direction_of-direction.result ≡ direction_of frame.source frame.dest = c.direction_of-direction.ensures.number in
    let low : frame.dest < 0x1_0000 = c.direction_of-direction.ensures.low in
    let old : Assembly = c.deref_mut.result.now in
    let was : old ≡ assembly_at c.args.ports.now (direction_of frame.source frame.dest) =
    c.deref_mut.ensures.value ∙ c.in_ok-assembler.ensures.taken ∙ ap (λ (d : ℕ). assembly_at c.args.ports.now d) way in
    let stood : ArePushed pushed old = subst (λ (a : Assembly). ArePushed pushed a) (sym was) (remembers.each frame.source frame.dest low) in
    let stands : ArePushed (frame.user.items ∷ pushed) c.push_data.new.assembler =
    subst (λ (u : List ℕ). ArePushed (u ∷ pushed) c.push_data.new.assembler) user (c.in_ok-push_data.ensures.stands pushed stood) in
    let carries : says_data frame.control ≡ true = sym c.says_data.ensures ∙ c.if-not-says_data.false in
    let got = c.in_ok-push_data.ensures.lines pushed stood in
    let more : AreDataLines (data_of frame.source frame.dest (frame ∷ heard)) got.0 =
    subst (λ (ps : List (List ℕ)). AreDataLines ps got.0) (sym (own_way heard frame carries))
    (subst (λ (u : List ℕ). AreDataLines (u ∷ pushed) got.0) user got.1) in (
      frame_line frame ∷ segment_line frame.user.items ∷ got.0,
      Carries got.0 carries more refl,
      two_put c.args.out.now.items c.push.new.self.items c.push-2.new.self.items c.push_data.new.out.items got.0 _ _ (frame_line frame) (segment_line frame.user.items)
          c.in_ok-push.ensures.items c.in_ok-push-2.ensures.items got.2
          (ap (λ (n : ℕ). line.Frame frame.control frame.dest frame.source n) c.len.ensures.value)
          (c.segment_line.ensures ∙ ap (λ (u : List ℕ). segment_line u) user),
      remembers_more heard frame c.args.ports.now c.taken.new.ports c.put.new.ports c.push_data.new.assembler low remembers carries
          (λ d. subst (λ (k : ℕ). assembly_at c.taken.new.ports d ≡ cond (k == d) Idle (assembly_at c.args.ports.now d)) way (c.in_ok-assembler.ensures.left d))
          (λ d. subst (λ (k : ℕ). assembly_at c.put.new.ports d ≡ cond (k == d) c.push_data.new.assembler (assembly_at c.taken.new.ports d)) way
          (c.in_ok-put.ensures d))
          stands,
    )
