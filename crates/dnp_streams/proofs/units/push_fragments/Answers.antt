use Rattle.std.proofs.Common.{◌≡◌, ℕ, ◌+◌, ◌%◌, List, ◌∷◌, length, map, drop, Option, Vec, Global, sym, ap, ◌∙◌, subst}
use Rattle.std.proofs.lemmas.List.{drop_more, drop_all}
use Rattle.arrayvec.specs.ArrayVec.{ArrayVec}
use Rattle.dnp_linkstation.specs.Station.{ends, sent}
use Rattle.dnp_transport.specs.declared.limits.TheConstants.{SEGMENT_NUMBERS}
use Rattle.dnp_transport.specs.Cuts.{cut_count, cuts}
use Rattle.dnp_line.specs.Ports.{PortState, moved_on}
use Rattle.dnp_outstation.specs.Station.{sent_of}
use Rattle.dnp_streams.specs.Units.{frames_of}
use Rattle.dnp_streams.specs.steps.Appended.{AreAppended}
use Rattle.dnp_streams.proofs.Lines.{AreBegun, fragment_begun, none_begun, all_fragments_begun}
use Rattle.dnp_streams.proofs.units.push_fragments.Goals as goal
use Rattle.dnp_streams.proofs.units.push_fragments.Goals.{in-Some+in_ok-push_fragment, in_default}

pub loop-fragment-preserved : goal.loop-fragment-preserved
loop-fragment-preserved c =
    let i = c.loop-fragment.fragment-index in
    let fs : List (Option (ArrayVec ℕ)) = c.args.fragments.now in
    let item : Option (ArrayVec ℕ) = c.fragment-item.result in
    let e = ends c.args.port.now.link in
    let all = frames_of e c.args.port.now.number (sent_of fs) in
    let start = c.args.text.now.items in
    let own = ends c.loop-fragment.port.link in
    let number = c.loop-fragment.port.number in
    let text = c.loop-fragment.text.items in
    let next : drop i fs ≡ item ∷ drop (i + 1) fs =
    drop_more fs i item c.loop-fragment-test.true ∙ ap (λ (x : Option (ArrayVec ℕ)). x ∷ drop (i + 1) fs) (sym c.fragment-item.is) in
    let before : AreBegun e start all own number (item ∷ drop (i + 1) fs) text =
    subst (λ (l : List (Option (ArrayVec ℕ))). AreBegun e start all own number l text) next c.loop-fragment.invariant in
    elim c.match-fragment.branch [
      | in-Some+in_ok-push_fragment w ↦
          let f : ArrayVec ℕ = w.in-Some.fragment in
          let octets : w.deref.result.now ≡ f.items = w.deref.ensures.0 in
          let count : cut_count (length w.deref.result.now) ≡ cut_count (length f.items) = ap (λ (o : List ℕ). cut_count (length o)) octets in
          let here = subst (λ (x : Option (ArrayVec ℕ)). AreBegun e start all own number (x ∷ drop (i + 1) fs) text) w.in-Some.is before in
          let port_is : c.match-fragment.port ≡ moved_on (cut_count (length w.deref.result.now)) c.loop-fragment.port =
          w.port-is ∙ w.in_ok-push_fragment.ensures.moved in
          let lines : AreAppended text (map (sent own) (cuts w.deref.result.now number)) c.match-fragment.text.items =
          subst (λ (t : List ℕ). AreAppended text (map (sent own) (cuts w.deref.result.now number)) t)
          (sym (ap (λ (v : Vec ℕ Global). v.items) w.text-is)) w.in_ok-push_fragment.ensures.lines in
          fragment_begun e start all own (ends c.match-fragment.port.link) number c.match-fragment.port.number f (drop (i + 1) fs) text
          c.match-fragment.text.items here
          (ap (λ (p : PortState). ends p.link) port_is)
          (ap (λ (p : PortState). p.number) port_is ∙ ap (λ (n : ℕ). (number + n) % SEGMENT_NUMBERS) count)
          (subst (λ (o : List ℕ). AreAppended text (map (sent own) (cuts o number)) c.match-fragment.text.items) octets lines)
      | in_default w ↦
          let here = subst (λ (x : Option (ArrayVec ℕ)). AreBegun e start all own number (x ∷ drop (i + 1) fs) text) w.in_default.is before in
          none_begun e start all own (ends c.match-fragment.port.link) number c.match-fragment.port.number (drop (i + 1) fs) text c.match-fragment.text.items here
          (ap (λ (p : PortState). ends p.link) w.port-is) (ap (λ (p : PortState). p.number) w.port-is)
          (ap (λ (v : Vec ℕ Global). v.items) w.text-is)
    ]

pub returns : goal.returns
returns c = record {
  lines =
      let e = ends c.args.port.now.link in
      let all = frames_of e c.args.port.now.number (sent_of c.args.fragments.now) in
      all_fragments_begun e c.args.text.now.items all (ends c.loop-fragment.port.link) c.loop-fragment.port.number c.loop-fragment.text.items
      (subst (λ (l : List (Option (ArrayVec ℕ))). AreBegun e c.args.text.now.items all (ends c.loop-fragment.port.link) c.loop-fragment.port.number l c.loop-fragment.text.items)
      (drop_all c.loop-fragment.fragment-index c.args.fragments.now c.loop-fragment-test.false) c.loop-fragment.invariant);
}
