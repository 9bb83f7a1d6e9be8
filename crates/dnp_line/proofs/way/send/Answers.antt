-- What the calls of the line and the port did is what `Sends` says.
use Rattle.std.proofs.Common.{◌≡◌, List, ℕ, [], ◌∷◌, ◌++◌, Bool, length, take, sym, ap, ◌∙◌, subst, arith}
use Rattle.dnp_linkframe.specs.Frames.{Spells}
use Rattle.dnp_transport.specs.Cuts.{cut_count, cut, cuts}
use Rattle.dnp_line.specs.Lines.{LineState}
use Rattle.dnp_line.specs.Ports.{PortState, data_frame, moved_on}
use Rattle.dnp_line.specs.Ways.{Way, AreSpelled, all_sent_on, SendsUnlessMute}
use Rattle.dnp_line.proofs.Sending.{first_all, sending_more}
use Rattle.dnp_line.proofs.way.send.Goals as goal

pub loop-k-preserved : goal.loop-k-preserved
loop-k-preserved c =
    let unit_is : c.as_slice.result.now ≡ c.unit_into.new.unit.items = c.as_slice.ensures.value in
    sending_more c.args.line.now c.args.sender.now c.args.fragment.now c.loop-k.k c.loop-k.line c.send.new.self
    c.as_slice.result.now
    (omega (arith, c.loop-k-test.true, c.segment_count-count.ensures))
    c.loop-k.invariant
    (subst
    (λ (u : List ℕ). Spells u (data_frame c.args.sender.now (cut c.args.fragment.now c.args.sender.now.number c.loop-k.k)))
    (sym unit_is) c.unit_into.ensures.spells)
    c.send.ensures

pub returns-clause-happens : goal.returns-clause-happens
returns-clause-happens c =
    λ way e f audible.
    let fragment : List ℕ = c.args.fragment.now in
    let port : PortState = c.args.sender.now in
    let units : List (List ℕ) = c.loop-k.invariant.units in
    let count : c.loop-k.k ≡ cut_count (length fragment) =
    omega (arith, c.loop-k-test.false, c.loop-k.auto.k-end, c.segment_count-count.ensures) in
    let all : take c.loop-k.k (cuts fragment port.number) ≡ cuts fragment port.number =
    ap (λ (n : ℕ). take n (cuts fragment port.number)) count ∙ first_all fragment port.number in
    let spelled : AreSpelled port (cuts fragment port.number) units =
    subst (λ (ss : List (List ℕ)). AreSpelled port ss units) all c.loop-k.invariant.spelled in
    let line_is : c.loop-k.line.state ≡ all_sent_on units way.line =
    c.loop-k.invariant.line_is ∙ ap (λ (l : LineState). all_sent_on units l) (sym e) in
    let sender_is : c.sent.new.self ≡ moved_on (cut_count (length fragment)) way.sender =
    c.sent.ensures ∙ ap (λ (n : ℕ). moved_on n port) c.segment_count-count.ensures
    ∙ ap (λ (p : PortState). moved_on (cut_count (length fragment)) p) (sym f) in
    let after : LineState → PortState → Way =
    λ line sender. record way { line = line; sender = sender; sent = way.sent ++ fragment ∷ [] } in
    subst (λ (m : Bool). SendsUnlessMute m fragment way (after c.loop-k.line.state c.sent.new.self)) (sym audible)
    record {
      some = c.requires.some;
      fits = c.requires.fits;
      units = units;
      spelled = subst (λ (p : PortState). AreSpelled p (cuts fragment p.number) units) (sym f) spelled;
      after =
          ap (λ (l : LineState). after l c.sent.new.self) line_is
          ∙ ap (λ (p : PortState). after (all_sent_on units way.line) p) sender_is;
    }

pub returns-clause-capacity : goal.returns-clause-capacity
returns-clause-capacity c = c.loop-k.invariant.capacity
