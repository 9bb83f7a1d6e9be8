-- Each turn decides what stands at the front of the rest, and is done with its octets.
use Rattle.std.proofs.Common.{◌≡◌, ℕ, ◌+◌, ◌-◌, ◌<◌, ◌≤◌, ◌++◌, List, inl, inr, length, take, drop, refl, subst, sym, arith, vec_len, vec_capacity}
use Rattle.std.proofs.lemmas.List.{take_rest, length-take, length-drop}
use Rattle.dnp_linkframe.specs.declared.frame.Frame.{Frame}
use Rattle.dnp_linkframe.specs.Stream.{NoHeader, NoLength, Damaged, Whole, HasHeader, BeginsFrame, said_size, IsFront, Gives}
use Rattle.dnp_linkframe.proofs.Fronts.{begins_less, said_less, damaged_some, whole_some}
use Rattle.dnp_linkframe.proofs.Pieces.{Took, took_none, took_more, took_past, took_short}
use Rattle.dnp_linkframe.proofs.Refused.{on_err}
use Rattle.dnp_linkframe.proofs.stream.take_frames.Goals as goal

pub loop-done-init : goal.loop-done-init
loop-done-init c = record { took = took_none c.args.stream.now c.args.out.now.items; room = omega arith }

pub loop-done-preserved-then-not-has_header : goal.loop-done-preserved-then-not-has_header
loop-done-preserved-then-not-has_header c =
    let stream = c.args.stream.now in
    let done = c.loop-done.done in
    let ten : 10 ≤ length (drop done stream) = let test = c.loop-done-test.true in omega (arith, length-drop done stream) in
    let bad : HasHeader (drop done stream) → ⊥ =
    λ h. cc (c.has_header.ensures.1 (subst (λ (t : List ℕ). HasHeader t) (sym (take_rest stream done)) h)) in
    record {
      took = took_past stream done c.args.out.now.items c.loop-done.out.items NoHeader refl c.loop-done.invariant.took (ten, bad) (omega arith);
      room = c.loop-done.invariant.room;
    }

pub loop-done-preserved-then-rest-lt-LENGTH_OF_NONE : goal.loop-done-preserved-then-rest-lt-LENGTH_OF_NONE
loop-done-preserved-then-rest-lt-LENGTH_OF_NONE c =
    let stream = c.args.stream.now in
    let done = c.loop-done.done in
    let rest = take (length stream - done) (drop done stream) in
    let front : IsFront rest NoLength = (c.has_header.ensures.0 c.if-not-has_header.false, c.if-rest-lt-LENGTH_OF_NONE.true) in
    record {
      took =
          took_past stream done c.args.out.now.items c.loop-done.out.items NoLength refl c.loop-done.invariant.took
          (subst (λ (t : List ℕ). IsFront t NoLength) (take_rest stream done) front) (omega arith);
      room = c.loop-done.invariant.room;
    }

pub returns-in_err-push_frame-clause-full : goal.returns-in_err-push_frame-clause-full
returns-in_err-push_frame-clause-full c =
    let stream = c.args.stream.now in
    let done = c.loop-done.done in
    let size = c.size_of_frame-size.result in
    let found = c.in_err-push_frame.ensures.full in
    let frame = found.0 in
    let rest = take (length stream - done) (drop done stream) in
    let front : IsFront rest (Whole frame size) = (c.if-rest-size.false, found.1) in
    let here : IsFront (drop done stream) (Whole frame size) =
    subst (λ (t : List ℕ). IsFront t (Whole frame size)) (take_rest stream done) front in
    let room = c.loop-done.invariant.room in
    let full : vec_capacity c.loop-done.out ≤ vec_len c.loop-done.out = found.2 in
    on_err c.from_residual.result _ (λ (more : List ℕ) (all : List Frame) (left : List ℕ) (g : Gives (stream ++ more) all left).
    let short : length c.loop-done.out.items < length c.args.out.now.items + length all =
    took_short stream more left done size c.args.out.now.items c.loop-done.out.items all frame c.loop-done.invariant.took here
    (whole_some (drop done stream) frame size here) g in
    let ok = c.loop-done.out.ok in
    let ok_before = c.args.out.now.ok in
    omega arith)

pub loop-done-preserved : goal.loop-done-preserved
loop-done-preserved c =
    let stream = c.args.stream.now in
    let done = c.loop-done.done in
    let size = c.size_of_frame-size.result in
    let rest = take (length stream - done) (drop done stream) in
    let left = take_rest stream done in
    let room = c.loop-done.invariant.room in
    let grown = c.push_frame.ensures.capacity in
    elim c.in_ok-push_frame.ensures.given [
      | inl w ↦
          let frame = w.0 in
          let front : IsFront rest (Whole frame size) = (c.if-rest-size.false, w.1) in
          let here : IsFront (drop done stream) (Whole frame size) = subst (λ (t : List ℕ). IsFront t (Whole frame size)) left front in
          record {
            took =
                subst (λ (x : List Frame). Took stream (done + size) c.args.out.now.items x) (sym w.2)
                (took_more stream done c.args.out.now.items c.loop-done.out.items (Whole frame size) c.loop-done.invariant.took here
                (whole_some (drop done stream) frame size here));
            room = omega arith;
          }
      | inr w ↦
          let front : IsFront rest (Damaged size) = (
            record { header = c.has_header.ensures.0 c.if-not-has_header.false; long = c.if-rest-lt-LENGTH_OF_NONE.false },
            c.size_of_frame-size.ensures,
            c.if-rest-size.false,
            w.0,
          ) in
          let here : IsFront (drop done stream) (Damaged size) = subst (λ (t : List ℕ). IsFront t (Damaged size)) left front in
          record {
            took =
                subst (λ (x : List Frame). Took stream (done + size) c.args.out.now.items x) (sym w.1)
                (took_past stream done c.args.out.now.items c.loop-done.out.items (Damaged size) refl c.loop-done.invariant.took here
                (damaged_some (drop done stream) size here));
            room = omega arith;
          }
    ]

pub push_frame-requires : goal.push_frame-requires
push_frame-requires c =
    let size = c.size_of_frame-size.result in
    let rest = take (length c.args.stream.now - c.loop-done.done) (drop c.loop-done.done c.args.stream.now) in
    let said : size ≡ said_size rest = c.size_of_frame-size.ensures in
    let there : size ≤ length rest = c.if-rest-size.false in
    let begins : BeginsFrame rest =
    record { header = c.has_header.ensures.0 c.if-not-has_header.false; long = c.if-rest-lt-LENGTH_OF_NONE.false } in
    record {
      begins = begins_less rest size (omega arith) there begins;
      sized = omega (arith, length-take size rest, said, there, said_less rest size (omega arith));
    }
