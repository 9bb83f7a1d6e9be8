use Rattle.std.proofs.Common.{◌≡◌, ℕ, List, map, sym, subst, arith}
use Rattle.dnp_linkframe.specs.Frames.{Spells}
use Rattle.dnp_linkstation.specs.Station.{ends, sent}
use Rattle.dnp_transport.specs.Cuts.{cut, cuts}
use Rattle.dnp_streams.proofs.Lines.{begun_more, all_begun}
use Rattle.dnp_streams.proofs.units.push_fragment.Goals as goal

pub loop-k-preserved : goal.loop-k-preserved
loop-k-preserved c =
    let e = ends c.args.port.now.link in
    let f = c.args.fragment.now in
    let n = c.args.port.now.number in
    let unit_is : c.deref.result.now ≡ c.unit_into.new.unit.items = c.deref.ensures.0 in
    let spells : Spells c.deref.result.now (sent e (cut f n c.loop-k.k)) =
    subst (λ (u : List ℕ). Spells u (sent e (cut f n c.loop-k.k))) (sym unit_is) c.unit_into.ensures.spells in
    begun_more e f n c.loop-k.k c.if-is_empty.count c.args.text.now.items c.loop-k.text.items c.push_line.new.text.items c.deref.result.now
    (map (sent e) (cuts f n)) c.loop-k-test.true spells c.in_ok-push_line.ensures c.loop-k.invariant

pub returns-clause-lines : goal.returns-clause-lines
returns-clause-lines c =
    all_begun (ends c.args.port.now.link) c.args.fragment.now c.args.port.now.number c.loop-k.k c.if-is_empty.count c.args.text.now.items
    c.loop-k.text.items (map (sent (ends c.args.port.now.link)) (cuts c.args.fragment.now c.args.port.now.number))
    (omega (arith, c.loop-k-test.false)) c.loop-k.invariant
