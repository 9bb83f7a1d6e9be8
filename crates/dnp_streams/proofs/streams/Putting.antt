-- Fragments that are put one after the other.
use Rattle.std.proofs.Common.{◌≡◌, ℕ, ◌+◌, ◌<◌, List, [], ◌∷◌, ◌++◌, length, map, Option, Some, None, refl, sym, ap, ◌∙◌, subst, append_assoc, arith, get_or}
use Rattle.std.specs.List.{All}
use Rattle.std.proofs.lemmas.List.Elements.{All-nil, All-head, All-tail, All-push}
use Rattle.arrayvec.specs.ArrayVec.{ArrayVec}
use Rattle.dnp_linkframe.specs.declared.frame.Frame.{Frame}
use Rattle.dnp_linkstation.specs.Station.{ends, sent}
use Rattle.dnp_transport.specs.Cuts.{cut_count, cuts}
use Rattle.dnp_line.specs.Ports.{PortState, moved_on}
use Rattle.dnp_outstation.specs.Station.{sent_of}
use Rattle.dnp_streams.specs.streams.Spelled.{sent_frames, port_after}
use Rattle.dnp_streams.specs.links.Deeds.{octets_in}
use Rattle.dnp_streams.specs.links.Outputs.{ArePut}
use Rattle.dnp_streams.proofs.streams.Spelling.{put_more}

-- some fragments, and others after them
pub sent_frames_more : (p : PortState) (fs gs : List (List ℕ)) → sent_frames p (fs ++ gs) ≡ sent_frames p fs ++ sent_frames (port_after p fs) gs
sent_frames_more p [] gs = refl
sent_frames_more p (f ∷ fs) gs =
    let q = moved_on (cut_count (length f)) p in
    let here = map (sent (ends p.link)) (cuts f p.number) in
    ap (λ (l : List Frame). here ++ l) (sent_frames_more q fs gs)
    ∙ sym (append_assoc here (sent_frames q fs) (sent_frames (port_after q fs) gs))

-- the fragments of an array of two places are those of the first and then those of the second
abbrev pub AreTwo : List (Option (ArrayVec ℕ)) → Option (ArrayVec ℕ) → Option (ArrayVec ℕ) → Type 0
AreTwo send first second = sent_of send ≡ sent_of (first ∷ []) ++ sent_of (second ∷ [])

pub are_two : (send : List (Option (ArrayVec ℕ))) (d e : Option (ArrayVec ℕ)) → length send ≡ 2 → AreTwo send (get_or send 0 d) (get_or send 1 e)
are_two (None ∷ b ∷ []) d e two = refl
are_two (Some f ∷ b ∷ []) d e two = refl
are_two _ d e two = absurd (omega (arith, two))

-- the fragments of both places are put
pub both_put : (p mid : PortState) (send : List (Option (ArrayVec ℕ))) (first second : Option (ArrayVec ℕ)) (old between new : List ℕ)
    → AreTwo send first second
    → ArePut old (sent_frames p (sent_of (first ∷ []))) between → mid ≡ port_after p (sent_of (first ∷ []))
    → ArePut between (sent_frames mid (sent_of (second ∷ []))) new → ArePut old (sent_frames p (sent_of send)) new
both_put p mid send first second old between new two one moved other =
    let a = sent_of (first ∷ []) in
    let b = sent_of (second ∷ []) in
    let frames : sent_frames p (sent_of send) ≡ sent_frames p a ++ sent_frames (port_after p a) b = ap (sent_frames p) two ∙ sent_frames_more p a b in
    subst (λ (l : List Frame). ArePut old l new) (sym frames)
    (put_more old between new (sent_frames p a) (sent_frames (port_after p a) b) one
    (subst (λ (q : PortState). ArePut between (sent_frames q b) new) moved other))

-- their octets are those of the first and those of the second
octets_more : (fs gs : List (List ℕ)) → octets_in (fs ++ gs) ≡ octets_in fs + octets_in gs
octets_more [] gs = omega (arith)
octets_more (f ∷ fs) gs = let more = octets_more fs gs in omega (arith, more)

pub octets_of_both : (send : List (Option (ArrayVec ℕ))) (first second : Option (ArrayVec ℕ)) → AreTwo send first second
    → octets_in (sent_of send) ≡ octets_in (sent_of (first ∷ [])) + octets_in (sent_of (second ∷ []))
octets_of_both send first second two = ap octets_in two ∙ octets_more (sent_of (first ∷ [])) (sent_of (second ∷ []))

-- each fragment has octets
abbrev pub HaveOctets : List (Option (ArrayVec ℕ)) → Type 0
HaveOctets send = All (λ octets. 0 < length octets) (sent_of send)

-- so has that of each place
pub both_have : (send : List (Option (ArrayVec ℕ))) (d e : Option (ArrayVec ℕ)) → length send ≡ 2 → HaveOctets send
    → HaveOctets (get_or send 0 d ∷ []) × HaveOctets (get_or send 1 e ∷ [])
both_have (None ∷ b ∷ []) d e two some = (All-nil (λ (octets : List ℕ). 0 < length octets), some)
both_have (Some f ∷ b ∷ []) d e two some =
    let head : 0 < length f.items = All-head (λ (octets : List ℕ). 0 < length octets) f.items (sent_of (b ∷ [])) some in (
      All-push (λ (octets : List ℕ). 0 < length octets) [] f.items (All-nil (λ (octets : List ℕ). 0 < length octets)) head,
      All-tail (λ (octets : List ℕ). 0 < length octets) f.items (sent_of (b ∷ [])) some,
    )
both_have _ d e two some = absurd (omega (arith, two))
