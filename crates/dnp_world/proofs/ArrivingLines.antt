-- Fragments that stand on a line, when more are sent after them, when some came, and when something happens on the way back.
use Rattle.std.proofs.Common.{◌≡◌, ℕ, ◌<◌, false, List, [], ◌∷◌, ◌++◌, length, refl, sym, ap, ◌∙◌, subst, arith, append_assoc, append-nil}
use Rattle.std.proofs.lemmas.Bool.Decides.{nat_tests}
use Rattle.dnp_linkframe.specs.Frames.{Spells}
use Rattle.dnp_linkstation.specs.Station.{Ends, ends, opposite, sent}
use Rattle.dnp_transport.specs.Cuts.{cut_count, cuts}
use Rattle.dnp_line.specs.Flows.{AreFacing}
use Rattle.dnp_line.specs.Lines.{LineState, line_of, is_broken}
use Rattle.dnp_line.specs.Ports.{PortState, HasHistory, moved_on}
use Rattle.dnp_line.specs.Ways.{AreSpelled}
use Rattle.dnp_line.specs.declared.line.TheConstants.{BROKEN_LOSSES}
use Rattle.dnp_line.proofs.OnLine.{all_sent}
use Rattle.dnp_world.specs.Arriving.{IsInUnits, AreInUnits, StandOn}
use Rattle.dnp_world.specs.Channels.{IsSent, AreSent}

-- ---- units

pub spelled_length : (s : PortState) (segments units : List (List ℕ)) → AreSpelled s segments units → length units ≡ length segments
spelled_length s [] units e = ap length e
spelled_length s (x ∷ segments) units h =
    omega (arith, ap length h.4, spelled_length s segments h.1 h.3)

-- only the ends of the sender's link matter
spelled_alike : (s t : PortState) → ends t.link ≡ ends s.link → (segments units : List (List ℕ)) → AreSpelled s segments units → AreSpelled t segments units
spelled_alike s t same [] units h = h
spelled_alike s t same (x ∷ segments) units h = (
  h.0,
  h.1,
  subst (λ (e : Ends). Spells h.0 (sent e x)) (sym same) h.2,
  spelled_alike s t same segments h.1 h.3,
  h.4,
)

units_alike : (s t : PortState) → ends t.link ≡ ends s.link → (fragments units : List (List ℕ)) → AreInUnits s fragments units → AreInUnits t fragments units
units_alike s t same [] units h = h
units_alike s t same (f ∷ fragments) units h = (
  h.0,
  h.1,
  record { some = h.2.some; fits = h.2.fits; number = h.2.number; spelled = spelled_alike s t same (cuts f h.2.number) h.0 h.2.spelled },
  units_alike s t same fragments h.1 h.3,
  h.4,
)

-- those of one fragment more
units_more : (s : PortState) (fragments : List (List ℕ)) (f : List ℕ) (units us : List (List ℕ)) → AreInUnits s fragments units → IsInUnits s f us
    → AreInUnits s (fragments ++ f ∷ []) (units ++ us)
units_more s [] f units us h one =
    (us, [], one, refl, ap (λ (xs : List (List ℕ)). xs ++ us) h ∙ sym (append-nil us))
units_more s (g ∷ fragments) f units us h one = (
  h.0,
  h.1 ++ us,
  h.2,
  units_more s fragments f h.1 us h.3 one,
  ap (λ (xs : List (List ℕ)). xs ++ us) h.4 ∙ append_assoc h.0 h.1 us,
)

-- ---- sending

unbroken_few : (lost : ℕ) → is_broken (line_of [] lost) ≡ false → lost < BROKEN_LOSSES
unbroken_few lost h = grind (arith, nat_tests)

-- one fragment is sent after the others
sent_one : (fragments : List (List ℕ)) (f : List ℕ) (line line' : LineState) (port port' receiver : PortState) → IsSent f line port line' port'
    → StandOn fragments line port receiver → StandOn (fragments ++ f ∷ []) line' port' receiver
sent_one fragments f line line' port port' receiver s h =
    let few : line.lost < BROKEN_LOSSES = unbroken_few line.lost h.unbroken in
    let behind : line' ≡ line_of (line.units ++ s.units) line.lost = s.line_is ∙ all_sent s.units line.units line.lost few in
    let moved : PortState = moved_on (cut_count (length f)) port in
    let units : AreInUnits port (fragments ++ f ∷ []) (line.units ++ s.units) =
    units_more port fragments f line.units s.units h.units
    (record { some = s.some; fits = s.fits; number = port.number; spelled = s.spelled }) in
    subst (λ (p : PortState). StandOn (fragments ++ f ∷ []) line' p receiver) (sym s.port_is)
    (subst (λ (l : LineState). StandOn (fragments ++ f ∷ []) l moved receiver) (sym behind)
    record {
      facing = h.facing;
      unbroken = h.unbroken;
      units = units_alike port moved refl (fragments ++ f ∷ []) (line.units ++ s.units) units;
      history = h.history;
    })

pub sent_behind : (fragments more : List (List ℕ)) (line line' : LineState) (port port' receiver : PortState) → AreSent more line port line' port'
    → StandOn fragments line port receiver → StandOn (fragments ++ more) line' port' receiver
sent_behind fragments [] line line' port port' receiver s h =
    subst (λ (fs : List (List ℕ)). StandOn fs line' port' receiver) (sym (append-nil fragments))
    (subst (λ (p : PortState). StandOn fragments line' p receiver) (sym s.1)
    (subst (λ (l : LineState). StandOn fragments l port receiver) (sym s.0) h))
sent_behind fragments (f ∷ more) line line' port port' receiver (between, port_between, first, others) h =
    subst (λ (fs : List (List ℕ)). StandOn fs line' port' receiver) (append_assoc fragments (f ∷ []) more)
    (sent_behind (fragments ++ f ∷ []) more between line' port_between port' receiver others
    (sent_one fragments f line between port port_between receiver first h))

-- ---- what happens on the way back

-- the receiver sends
history_moved : (p : PortState) (n : ℕ) → HasHistory p → HasHistory (moved_on n p)
history_moved p n h = record { heard = h.heard; answers = h.answers; pushed = h.pushed; stands = h.stands }

pub back_sent : (fragments more : List (List ℕ)) (back line line' : LineState) (sender port port' : PortState) → AreSent more line port line' port'
    → StandOn fragments back sender port → StandOn fragments back sender port'
back_sent fragments [] back line line' sender port port' s h = subst (λ (p : PortState). StandOn fragments back sender p) (sym s.1) h
back_sent fragments (f ∷ more) back line line' sender port port' (between, port_between, first, others) h =
    back_sent fragments more back between line' sender port_between port' others
    (subst (λ (p : PortState). StandOn fragments back sender p) (sym first.port_is)
    record {
      facing = h.facing;
      unbroken = h.unbroken;
      units = h.units;
      history = history_moved port (cut_count (length f)) h.history;
    })

-- the sender hears
pub back_heard : (fragments : List (List ℕ)) (back : LineState) (sender sender' receiver : PortState) → ends sender'.link ≡ ends sender.link
    → StandOn fragments back sender receiver → StandOn fragments back sender' receiver
back_heard fragments back sender sender' receiver same h = record {
  facing = h.facing ∙ ap (λ (e : Ends). opposite e) (sym same);
  unbroken = h.unbroken;
  units = units_alike sender sender' same fragments back.units h.units;
  history = h.history;
}

-- ---- what came

-- the units of the first fragment came
pub came_off : (fragments : List (List ℕ)) (rest : List (List ℕ)) (sender receiver receiver' : PortState) → AreFacing sender receiver
    → ends receiver'.link ≡ ends receiver.link → HasHistory receiver' → AreInUnits sender fragments rest
    → StandOn fragments (line_of rest 0) sender receiver'
came_off fragments rest sender receiver receiver' facing same history units =
    record { facing = same ∙ facing; unbroken = refl; units = units; history = history }
