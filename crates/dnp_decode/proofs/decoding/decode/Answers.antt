-- The lines so far, and those of the rest.
use Rattle.std.proofs.Common.{ℕ, ◌-◌, ◌<◌, ◌≤◌, List, [], ◌∷◌, ◌++◌, length, drop, sym, ◌∙◌, ap, subst, arith}
use Rattle.std.proofs.lemmas.List.{take_rest}
use Rattle.dnp_linkframe.specs.Stream.{Waits, IsFront}
use Rattle.dnp_decode.specs.declared.line.Line.{Line}
use Rattle.dnp_decode.specs.declared.line.Line.TheVariants as line
use Rattle.dnp_decode.specs.StreamLines.{AreLines}
use Rattle.dnp_decode.specs.steps.Stepped.{SoFar, Stepped}
use Rattle.dnp_decode.proofs.Steps.{so_far_none, so_far_more, so_far_cut, so_far_end}
use Rattle.dnp_decode.proofs.decoding.decode.Goals.{then-done-stream+in_ok-push, else-done-stream}
use Rattle.dnp_decode.proofs.decoding.decode.Goals as goal

pub fronts-init : goal.fronts-init
fronts-init c =
    subst (λ (ls : List Line). SoFar c.args.stream.now 0 ls c.new-ports.result) (sym c.new-lines.ensures.items)
    (so_far_none c.a_push_goes_on.ensures.idle c.args.stream.now c.new-ports.result c.new-ports.ensures.empty)

pub fronts-preserved : goal.fronts-preserved
fronts-preserved c =
    let stream = c.args.stream.now in
    let done = c.fronts.done in
    let used = c.in_ok-used.used in
    let some : 0 < used = omega (arith, c.if-used-eq0.false) in
    let within : used ≤ length (drop done stream) =
    subst (λ (t : List ℕ). used ≤ length t) (take_rest stream done) c.in_ok-used.ensures.within in
    so_far_more stream done used c.fronts.lines.items c.step.new.out.items c.fronts.ports c.step.new.ports c.fronts.invariant some within
    (λ heard remembers.
    subst (λ (t : List ℕ). Stepped heard t used c.fronts.lines.items c.step.new.out.items c.step.new.ports) (take_rest stream done)
    (c.in_ok-used.ensures.step heard remembers some))

pub returns : goal.returns
returns c =
    let stream = c.args.stream.now in
    let done = c.fronts.done in
    let ends = c.in_ok-used.ensures.waits (cc) in
    let waits : IsFront (drop done stream) Waits = subst (λ (t : List ℕ). IsFront t Waits) (take_rest stream done) ends.0 in
    elim c.if-done-stream.branch [
      | then-done-stream+in_ok-push w ↦
          rw w.lines-is
          (subst (λ (xs : List Line). AreLines [] stream xs)
          (sym (w.in_ok-push.ensures.items ∙ ap (λ (ls : List Line). ls ++ line.Cut (length stream - done) ∷ []) ends.1))
          (so_far_cut stream done c.fronts.lines.items c.fronts.ports c.fronts.invariant w.if-done-stream.true waits))
      | else-done-stream w ↦
          rw w.lines-is
          (subst (λ (xs : List Line). AreLines [] stream xs) (sym ends.1)
          (so_far_end stream done c.fronts.lines.items c.fronts.ports c.fronts.invariant w.if-done-stream.false))
    ]
