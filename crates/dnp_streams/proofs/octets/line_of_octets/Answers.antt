use Rattle.std.proofs.Common.{◌≡◌, [], ◌∷◌, ◌++◌, length, take, ◌+◌, ◌/◌, ◌%◌, slice_index_or, arith, ap}
use Rattle.std.proofs.lemmas.List.{length-take}
use Rattle.dnp_streams.specs.OctetLines.{digit, line_of}
use Rattle.dnp_streams.proofs.Spaced.{length-line_of}
use Rattle.dnp_streams.proofs.SpacedWriting.{line_of-first, line_of-more, length-line_of-take, two_pushed, three_pushed}
use Rattle.dnp_streams.proofs.octets.line_of_octets.Goals as goal
use Rattle.dnp_streams.proofs.octets.line_of_octets.Goals.{then-index-gt0, else-index-gt0}

pub loop-index-preserved : goal.loop-index-preserved
loop-index-preserved c =
    let octets = c.args.octets.now in
    let i = c.loop-index.index in
    let before = c.if-index-gt0.line.items in
    let first = c.push-in-loop-index.ensures.items in
    let second = c.push-in-loop-index-2.ensures.items in
    let high = c.digit_of.ensures in
    let low = c.digit_of-in-loop-index.ensures in
    let was = c.loop-index.invariant.0 in
    let next : c.push-in-loop-index-2.new.self.items ≡ (before ++ digit (slice_index_or octets i 0 / 16) ∷ []) ++ digit (slice_index_or octets i 0 % 16) ∷ [] =
    cc in
    elim c.if-index-gt0.branch [
      | then-index-gt0 w ↦
          let space = w.push.ensures.items in
          let is = w.line-is in
          let all = line_of-more octets i 0 c.loop-index-test.true w.if-index-gt0.true in
          let said = three_pushed (line_of (take i octets)) (slice_index_or octets i 0) in
          (let written : c.push-in-loop-index-2.new.self.items ≡ line_of (take (i + 1) octets) = cc in
          (written, omega (arith, ap length written, length-line_of-take octets (i + 1) (omega arith))))
      | else-index-gt0 w ↦
          let is = w.line-is in
          let zero : i ≡ 0 = omega arith in
          let all = line_of-first octets i 0 c.loop-index-test.true zero in
          let said = two_pushed (line_of (take i octets)) (slice_index_or octets i 0) in
          (let written : c.push-in-loop-index-2.new.self.items ≡ line_of (take (i + 1) octets) = cc in
          (written, omega (arith, ap length written, length-line_of-take octets (i + 1) (omega arith))))
    ]

pub returns-clause-short : goal.returns-clause-short
returns-clause-short c =
    let taken = length-take c.loop-index.index c.args.octets.now in
    let size = length-line_of (take c.loop-index.index c.args.octets.now) in
    let whole : length c.loop-index.line.items ≡ length (line_of (take c.loop-index.index c.args.octets.now)) = ap length c.loop-index.invariant.0 in
    let fits = c.requires in
    omega arith
