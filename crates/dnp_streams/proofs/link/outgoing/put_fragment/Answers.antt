use Rattle.std.proofs.Common.{rules, ◌≡◌, ℕ, ◌<◌, ◌++◌, List, length, arith, sym, subst}
use Rattle.dnp_linkframe.specs.Frames.{Spells}
use Rattle.dnp_linkstation.specs.Station.{ends, sent}
use Rattle.dnp_transport.specs.Cuts.{cut_count, cut}
use Rattle.dnp_streams.proofs.streams.Spelling.{put_to_more, put_to_last}
use Rattle.dnp_streams.proofs.link.outgoing.put_fragment.Goals as goal

pub loop-k-preserved : goal.loop-k-preserved
loop-k-preserved c =
    let p = c.args.port.now in
    let f = c.args.fragment.now in
    let k = c.loop-k.k in
    let unit = c.deref.result.now in
    let low : k < cut_count (length f) = omega (arith, c.loop-k-test.true, c.segment_count-count.ensures) in
    let spells : Spells unit (sent (ends p.link) (cut f p.number k)) =
    subst (λ (u : List ℕ). Spells u (sent (ends p.link) (cut f p.number k))) (sym c.deref.ensures.0) c.unit_into.ensures.spells in
    let put : c.try_extend_from_slice.new.self.items ≡ c.loop-k.out.items ++ unit = search rules in (
      put_to_more p f c.args.out.now.items c.loop-k.out.items c.try_extend_from_slice.new.self.items unit k low spells put c.loop-k.invariant.0,
      search rules,
    )

pub returns-clause-put : goal.returns-clause-put
returns-clause-put c =
    put_to_last c.args.port.now c.args.fragment.now c.args.out.now.items c.loop-k.out.items c.loop-k.k
    (omega (arith, c.loop-k-test.false, c.segment_count-count.ensures)) c.loop-k.invariant.0
