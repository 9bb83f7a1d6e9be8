-- What spells the frame that `unit_into` writes is what `write_frame_into` writes.
use Rattle.std.proofs.Common.{◌≡◌, List, ℕ, sym, subst, ap, ◌∙◌}
use Rattle.dnp_linkframe.specs.Frames.{Spells}
use Rattle.dnp_linkframe.specs.declared.frame.Frame.{Frame}
use Rattle.dnp_linkstation.specs.Station.{ends, sent}
use Rattle.dnp_transport.specs.Cuts.{cut}
use Rattle.dnp_line.specs.Ports.{PortState, data_frame}
use Rattle.dnp_line.proofs.port.Port.unit_into.Goals as goal

pub returns-clause-only : goal.returns-clause-only
returns-clause-only c =
    subst
    (λ (p : PortState). (unit : List ℕ) → Spells unit (data_frame p (cut c.args.fragment.now p.number c.args.k)) → unit ≡ c.write_frame_into.new.unit.items)
    c.self.view_is
    (λ unit h.
    let user_is : c.as_slice.result.now ≡ cut c.args.fragment.now c.self.inside.number c.args.k =
    c.as_slice.ensures.value ∙ c.segment-segment.ensures in
    let frame_is : c.send.result ≡ sent (ends c.self.inside.link) (cut c.args.fragment.now c.self.inside.number c.args.k) =
    c.send.ensures ∙ ap (λ (l : List ℕ). sent (ends c.self.inside.link) l) user_is in
    c.write_frame_into.ensures.only unit (subst (λ (f : Frame). Spells unit f) (sym frame_is) h))
