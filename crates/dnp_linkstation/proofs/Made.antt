-- Some frames make each station, and what they make of it is all that counts.
use Rattle.std.proofs.Common.{◌≡◌, ℕ, ◌+◌, ◌^◌, Bool, true, false, if◌then◌else◌, List, [], ◌∷◌, Option, Some, None, refl, sym, ap, ◌∙◌}
use Rattle.std.proofs.lemmas.Bool.{and_from, eq-eqb, cond-true}
use Rattle.dnp_linkframe.specs.declared.frame.Frame.{Frame}
use Rattle.dnp_linkstation.specs.declared.station.LinkStation.{LinkStation}
use Rattle.dnp_linkstation.specs.Control.{primary_function, frame_count_bit}
use Rattle.dnp_linkstation.specs.Station.{Ends, ends, is_for, expected, expected_next, AreHeard, answer, answer_to, dropped}
use Rattle.dnp_linkstation.specs.declared.control.TheConstants.{DIR, FCB, PRM}
use Rattle.dnp_linkstation.specs.declared.function.TheConstants.{RESET_LINK_STATES, TEST_LINK_STATES}

-- what the peer asks, with this function and frame count bit
abbrev asks : ℕ → ℕ → Bool → ℕ → Frame
asks own peer is_master function =
    record {
      control = (if is_master then 0 else 2 ^ DIR) + 2 ^ PRM + function;
      dest = own;
      source = peer;
      user = record { items = [] };
    }

-- RESET_LINK_STATES, and TEST_LINK_STATES with FCB 1
abbrev resets : ℕ
resets = RESET_LINK_STATES

abbrev tests : ℕ
tests = 2 ^ FCB + TEST_LINK_STATES

reset_is_for : (own peer : ℕ) (m : Bool) → is_for (record { own = own; peer = peer; is_master = m }) (asks own peer m resets) ≡ true
reset_is_for own peer true = and_from _ _ (and_from _ _ (and_from _ _ (eq-eqb own own refl) (eq-eqb peer peer refl)) refl) refl
reset_is_for own peer false = and_from _ _ (and_from _ _ (and_from _ _ (eq-eqb own own refl) (eq-eqb peer peer refl)) refl) refl

test_is_for : (own peer : ℕ) (m : Bool) → is_for (record { own = own; peer = peer; is_master = m }) (asks own peer m tests) ≡ true
test_is_for own peer true = and_from _ _ (and_from _ _ (and_from _ _ (eq-eqb own own refl) (eq-eqb peer peer refl)) refl) refl
test_is_for own peer false = and_from _ _ (and_from _ _ (and_from _ _ (eq-eqb own own refl) (eq-eqb peer peer refl)) refl) refl

-- what the test makes the station expect
abbrev next_of : Bool → Option Bool → Option Bool
next_of m o = expected_next (primary_function (asks 0 0 m tests).control) (frame_count_bit (asks 0 0 m tests).control) o

after_reset : (own peer : ℕ) (m : Bool) → expected (record { own = own; peer = peer; is_master = m }) (asks own peer m resets ∷ []) ≡ Some true
after_reset own peer true = cond-true _ _ _ (reset_is_for own peer true)
after_reset own peer false = cond-true _ _ _ (reset_is_for own peer false)

after_test : (own peer : ℕ) (m : Bool) (before : List Frame) → expected (record { own = own; peer = peer; is_master = m }) before ≡ Some true
    → expected (record { own = own; peer = peer; is_master = m }) (asks own peer m tests ∷ before) ≡ Some false
after_test own peer true before e =
    cond-true _ _ _ (test_is_for own peer true) ∙ ap (λ (o : Option Bool). next_of true o) e
after_test own peer false before e =
    cond-true _ _ _ (test_is_for own peer false) ∙ ap (λ (o : Option Bool). next_of false o) e

made_of : (own peer : ℕ) (m : Bool) (awaited : Option Bool)
    → (frames : List Frame) × (awaited ≡ expected (record { own = own; peer = peer; is_master = m }) frames)
made_of own peer m None = ([], refl)
made_of own peer m (Some true) = (asks own peer m resets ∷ [], sym (after_reset own peer m))
made_of own peer m (Some false) =
    (asks own peer m tests ∷ asks own peer m resets ∷ [], sym (after_test own peer m (asks own peer m resets ∷ []) (after_reset own peer m)))

pub made : (station : LinkStation) → (frames : List Frame) × AreHeard frames station
made station = made_of station.own station.peer station.is_master station.expected

-- the station at these ends that awaits this
abbrev station_of : Ends → Option Bool → LinkStation
station_of e awaited = record { own = e.own; peer = e.peer; is_master = e.is_master; expected = awaited }

pub one_station : (heard : List Frame) (a b : LinkStation) → ends a ≡ ends b → AreHeard heard a → AreHeard heard b → a ≡ b
one_station heard a b same h k =
    ap (λ (e : Ends). station_of e a.expected) same
    ∙ ap (λ (o : Option Bool). station_of (ends b) o) (h ∙ ap (λ (e : Ends). expected e heard) same ∙ sym k)

pub same_answer : (station : LinkStation) (before other : List Frame) (frame : Frame) → AreHeard before station → AreHeard other station
    → answer (ends station) before frame ≡ answer (ends station) other frame
same_answer station before other frame h k =
    ap
    (λ (o : Option Bool).
    if is_for (ends station) frame
    then answer_to (ends station) (primary_function frame.control) o (frame_count_bit frame.control)
    else dropped)
    (sym h ∙ k)

pub same_next : (station : LinkStation) (before other : List Frame) (frame : Frame) → AreHeard before station → AreHeard other station
    → expected (ends station) (frame ∷ before) ≡ expected (ends station) (frame ∷ other)
same_next station before other frame h k =
    ap
    (λ (o : Option Bool).
    if is_for (ends station) frame
    then expected_next (primary_function frame.control) (frame_count_bit frame.control) o
    else o)
    (sym h ∙ k)

pub next_station : (station new new' : LinkStation) (before other : List Frame) (frame : Frame) → AreHeard before station → AreHeard other station
    → ends new ≡ ends station → ends new' ≡ ends station → AreHeard (frame ∷ before) new → AreHeard (frame ∷ other) new' → new ≡ new'
next_station station new new' before other frame h k e e' x y =
    let there : AreHeard (frame ∷ before) new' =
    y ∙ ap (λ (d : Ends). expected d (frame ∷ other)) e'
    ∙ sym (same_next station before other frame h k)
    ∙ ap (λ (d : Ends). expected d (frame ∷ before)) (sym e') in
    one_station (frame ∷ before) new new' (e ∙ sym e') x there
