-- One fragment more was sent, or there was none at its place.
use Rattle.std.proofs.Common.{◌≡◌, ℕ, ◌+◌, ◌≤◌, List, length, sym, subst, arith}
use Rattle.dnp_line.specs.Lines.{HeldLine}
use Rattle.dnp_line.specs.Ports.{PortState}
use Rattle.dnp_world.specs.Channels.{IsSent}
use Rattle.dnp_world.proofs.OneLinkSending.{IsSending, first_whole, some_sent, none_sent}
use Rattle.dnp_world.proofs.sending.send_all.Goals as goal
use Rattle.dnp_world.proofs.sending.send_all.Goals.{in-Some, in_default}

pub send-requires-clause-some : goal.send-requires-clause-some
send-requires-clause-some c =
    let whole : 4 ≤ length c.in-Some.octets.items =
    first_whole c.args.fragments.now c.loop-fragment.fragment-index c.args.line.now c.loop-fragment.line c.args.port.now c.loop-fragment.port
    c.fragment-item.result c.in-Some.octets c.loop-fragment.invariant c.loop-fragment-test.true c.fragment-item.is c.in-Some.is in
    let same : c.as_slice.result.now ≡ c.in-Some.octets.items = c.as_slice.ensures.value in
    omega (arith, subst (λ (octets : List ℕ). 4 ≤ length octets) (sym same) whole)

pub loop-fragment-preserved : goal.loop-fragment-preserved
loop-fragment-preserved c =
    let fs = c.args.fragments.now in
    let i : ℕ = c.loop-fragment.fragment-index in
    elim c.match-fragment.branch [
      | in-Some w ↦
          (let sent : IsSent w.in-Some.octets.items c.loop-fragment.line.state c.loop-fragment.port w.send.new.line.state w.send.new.port =
          subst (λ (octets : List ℕ). IsSent octets c.loop-fragment.line.state c.loop-fragment.port w.send.new.line.state w.send.new.port)
          w.as_slice.ensures.value w.send.ensures.sent in
          subst (λ (line : HeldLine). IsSending fs (i + 1) c.args.line.now c.args.port.now line c.match-fragment.port) (sym w.line-is)
          (subst (λ (port : PortState). IsSending fs (i + 1) c.args.line.now c.args.port.now w.send.new.line port) (sym w.port-is)
          (some_sent fs i c.args.line.now c.loop-fragment.line w.send.new.line c.args.port.now c.loop-fragment.port w.send.new.port
          c.fragment-item.result w.in-Some.octets c.loop-fragment.invariant c.loop-fragment-test.true c.fragment-item.is w.in-Some.is sent
          w.send.ensures.room)))
      | in_default w ↦
          (subst (λ (line : HeldLine). IsSending fs (i + 1) c.args.line.now c.args.port.now line c.match-fragment.port) (sym w.line-is)
          (subst (λ (port : PortState). IsSending fs (i + 1) c.args.line.now c.args.port.now c.loop-fragment.line port) (sym w.port-is)
          (none_sent fs i c.args.line.now c.loop-fragment.line c.args.port.now c.loop-fragment.port
          c.fragment-item.result c.loop-fragment.invariant c.loop-fragment-test.true c.fragment-item.is w.in_default.is)))
    ]
