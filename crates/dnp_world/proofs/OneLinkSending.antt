-- What goes over a line of a link.
use Rattle.std.proofs.Common.{◌≡◌, ℕ, ◌+◌, ◌*◌, ◌<◌, ◌≤◌, false, List, [], ◌∷◌, ◌++◌, length, drop, get_or, Option, Some, None, refl, sym, ap, ◌∙◌, subst, arith, length-append, inl, inr}
use Rattle.std.specs.List.{All}
use Rattle.std.proofs.lemmas.List.{drop_more, drop_all}
use Rattle.std.proofs.lemmas.List.Elements.{All-head, All-tail}
use Rattle.std.proofs.lemmas.Bool.{cases_Bool, cond-true, cond-false}
use Rattle.std.proofs.lemmas.List.FromFn.{length-map-range_with_len}
use Rattle.arrayvec.specs.ArrayVec.{ArrayVec}
use Rattle.dnp_transport.specs.Cuts.{cut, cut_count, cuts}
use Rattle.dnp_line.specs.Lines.{LineState, HeldLine, is_broken, line_of, sent_on, room_of}
use Rattle.dnp_line.specs.Ports.{PortState}
use Rattle.dnp_line.specs.Ways.{Way, AreSpelled, all_sent_on, Sends}
use Rattle.dnp_outstation.specs.Station.{sent_of}
use Rattle.dnp_world.specs.Channels.{IsSent, AreSent}

-- ---- one fragment

-- a way with this line and this sender
abbrev pub way_from : LineState → PortState → Way
way_from line port = record { line = line; sender = port; receiver = port; mute = false; sent = []; given = [] }

pub is_sent : (fragment : List ℕ) (line line' : LineState) (port port' : PortState)
    → Sends fragment (way_from line port) (record (way_from line port) { line = line'; sender = port'; sent = fragment ∷ [] })
    → IsSent fragment line port line' port'
is_sent fragment line line' port port' s =
    record {
      some = s.some;
      fits = s.fits;
      units = s.units;
      spelled = s.spelled;
      line_is = ap (λ (w : Way). w.line) s.after;
      port_is = ap (λ (w : Way). w.sender) s.after;
    }

sent_length : (unit : List ℕ) (l : LineState) → length (sent_on unit l).units ≤ length l.units + 1
sent_length unit l =
    elim (cases_Bool (is_broken l)) [
      | inl broken ↦
          omega (arith, ap (λ (m : LineState). length m.units) (cond-true (is_broken l) l (line_of (l.units ++ unit ∷ []) l.lost) broken))
      | inr whole ↦
          omega (
            arith,
            ap (λ (m : LineState). length m.units) (cond-false (is_broken l) l (line_of (l.units ++ unit ∷ []) l.lost) whole),
            length-append l.units (unit ∷ []),
          )
    ]

all_sent_length : (units : List (List ℕ)) (l : LineState) → length (all_sent_on units l).units ≤ length l.units + length units
all_sent_length [] l = omega arith
all_sent_length (unit ∷ units) l = omega (arith, all_sent_length units (sent_on unit l), sent_length unit l)

spelled_length : (port : PortState) (segments units : List (List ℕ)) → AreSpelled port segments units → length units ≡ length segments
spelled_length port [] units h = ap length h
spelled_length port (segment ∷ segments) units h =
    omega (arith, ap (λ (us : List (List ℕ)). length us) h.4, spelled_length port segments h.1 h.3)

pub sent_room : (fragment : List ℕ) (old new : HeldLine) (port port' : PortState) → IsSent fragment old.state port new.state port'
    → new.capacity ≡ old.capacity → length fragment ≤ 2048 → room_of old ≤ room_of new + 9
sent_room fragment old new port port' s capacity fits =
    let count : length s.units ≡ length (cuts fragment port.number) = spelled_length port (cuts fragment port.number) s.units s.spelled in
    let cut_length : length (cuts fragment port.number) ≡ cut_count (length fragment) =
    length-map-range_with_len (cut fragment port.number) 0 (cut_count (length fragment)) in
    let line : length new.state.units ≡ length (all_sent_on s.units old.state).units = ap (λ (l : LineState). length l.units) s.line_is in
    omega (arith, count, cut_length, line, capacity, fits, all_sent_length s.units old.state)

-- ---- several

-- of these fragments the first i were sent
pub record IsSending (fs : List (Option (ArrayVec ℕ))) (i : ℕ) (start : HeldLine) (start_port : PortState) (line : HeldLine) (port : PortState) : Type 0 where
  pub rest : (line' : LineState) (port' : PortState) → AreSent (sent_of (drop i fs)) line.state port line' port'
      → AreSent (sent_of fs) start.state start_port line' port'
  pub room : 9 * length (drop i fs) ≤ room_of line
  pub whole : All (λ fragment. 4 ≤ length fragment) (sent_of (drop i fs))

next_is : (fs : List (Option (ArrayVec ℕ))) (i : ℕ) (x y : Option (ArrayVec ℕ)) → i < length fs → x ≡ get_or fs i x → x ≡ y
    → drop i fs ≡ y ∷ drop (i + 1) fs
next_is fs i x y low is e = drop_more fs i x low ∙ ap (λ (z : Option (ArrayVec ℕ)). z ∷ drop (i + 1) fs) (sym is ∙ e)

pub first_whole : (fs : List (Option (ArrayVec ℕ))) (i : ℕ) (start line : HeldLine) (start_port port : PortState) (x : Option (ArrayVec ℕ)) (f : ArrayVec ℕ)
    → IsSending fs i start start_port line port → i < length fs → x ≡ get_or fs i x → x ≡ Some f → 4 ≤ length f.items
first_whole fs i start line start_port port x f s low is e =
    All-head (λ fragment. 4 ≤ length fragment) f.items (sent_of (drop (i + 1) fs))
    (subst (λ (os : List (Option (ArrayVec ℕ))). All (λ fragment. 4 ≤ length fragment) (sent_of os)) (next_is fs i x (Some f) low is e) s.whole)

pub some_sent : (fs : List (Option (ArrayVec ℕ))) (i : ℕ) (start line new : HeldLine) (start_port port port' : PortState) (x : Option (ArrayVec ℕ))
    (f : ArrayVec ℕ) → IsSending fs i start start_port line port → i < length fs → x ≡ get_or fs i x → x ≡ Some f
    → IsSent f.items line.state port new.state port' → room_of line ≤ room_of new + 9 → IsSending fs (i + 1) start start_port new port'
some_sent fs i start line new start_port port port' x f s low is e sent room =
    let next : drop i fs ≡ Some f ∷ drop (i + 1) fs = next_is fs i x (Some f) low is e in
    let count : length (drop i fs) ≡ length (drop (i + 1) fs) + 1 = omega (arith, ap (λ (os : List (Option (ArrayVec ℕ))). length os) next) in
    record {
      rest = λ last last_port later. s.rest last last_port
          (subst (λ (os : List (Option (ArrayVec ℕ))). AreSent (sent_of os) line.state port last last_port) (sym next) (new.state, port', sent, later));
      room = omega (arith, s.room, room, count);
      whole = All-tail (λ fragment. 4 ≤ length fragment) f.items (sent_of (drop (i + 1) fs))
          (subst (λ (os : List (Option (ArrayVec ℕ))). All (λ fragment. 4 ≤ length fragment) (sent_of os)) next s.whole);
    }

pub none_sent : (fs : List (Option (ArrayVec ℕ))) (i : ℕ) (start line : HeldLine) (start_port port : PortState) (x : Option (ArrayVec ℕ))
    → IsSending fs i start start_port line port → i < length fs → x ≡ get_or fs i x → x ≡ None → IsSending fs (i + 1) start start_port line port
none_sent fs i start line start_port port x s low is e =
    let next : drop i fs ≡ None ∷ drop (i + 1) fs = next_is fs i x None low is e in
    let count : length (drop i fs) ≡ length (drop (i + 1) fs) + 1 = omega (arith, ap (λ (os : List (Option (ArrayVec ℕ))). length os) next) in
    record {
      rest = λ line' port' later. s.rest line' port'
          (subst (λ (os : List (Option (ArrayVec ℕ))). AreSent (sent_of os) line.state port line' port') (sym next) later);
      room = omega (arith, s.room, count);
      whole = subst (λ (os : List (Option (ArrayVec ℕ))). All (λ fragment. 4 ≤ length fragment) (sent_of os)) next s.whole;
    }

pub all_sent : (fs : List (Option (ArrayVec ℕ))) (i : ℕ) (start line : HeldLine) (start_port port : PortState)
    → IsSending fs i start start_port line port → length fs ≤ i → AreSent (sent_of fs) start.state start_port line.state port
all_sent fs i start line start_port port s end =
    s.rest line.state port
    (subst (λ (os : List (Option (ArrayVec ℕ))). AreSent (sent_of os) line.state port line.state port) (sym (drop_all i fs end)) (refl, refl))
