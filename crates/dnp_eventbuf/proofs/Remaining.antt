-- Rows that are still to be added are rows of the whole.
use Rattle.std.proofs.Common.{◌≡◌, ◌∙◌, ℕ, ◌+◌, ◌<◌, ◌≤◌, List, [], ◌∷◌, ◌++◌, length, drop, get_or, ap, arith, refl, add-one, append_assoc, drop-cons, length-append}
use Rattle.std.specs.Prelude.{Result, Ok, Err, OnErr}
use Rattle.dnp_objects.specs.declared.limits.TheConstants.{LANES}
use Rattle.dnp_eventbuf.specs.EventBuffer.{LaneState, up_to, lanes_up_to}

pub on_err : {A E P : Type 0} (r : Result A E) → P → OnErr r P
on_err (Ok x) p = tt
on_err (Err e) p = p

pub front_there : {A : Type 0} (front more : List A) → (front ≡ [] → ⊥) → front ++ more ≡ [] → ⊥
front_there [] more some none = some refl
front_there (x ∷ front) more some none = absurd (omega (arith, ap length none))

-- what is added and what remains are what was there and the whole: if some remains, the whole has some
pub whole_there : {A : Type 0} (added remaining before whole : List A) → added ++ remaining ≡ before ++ whole → length before ≤ length added
    → (remaining ≡ [] → ⊥) → whole ≡ [] → ⊥
whole_there added [] before whole same grows some none = some refl
whole_there added (x ∷ remaining) before whole same grows some none =
    absurd (omega (arith, ap length same, ap length none, length-append added (x ∷ remaining), length-append before whole))

-- what is added next leaves the rest
pub adds_next : {A : Type 0} (added now front rest whole : List A) → now ≡ added ++ front → added ++ (front ++ rest) ≡ whole → now ++ rest ≡ whole
adds_next added now front rest whole is same = ap (λ xs. xs ++ rest) is ∙ append_assoc added front rest ∙ same

-- of the rows up to each lane's number the next lane's come first
pub lane_next : (lanes : List LaneState) (upto : List ℕ) (k : ℕ) (lane : LaneState) → length lanes ≡ LANES → length upto ≡ LANES → k < LANES
    → lanes_up_to (drop k lanes) (drop k upto) ≡ up_to (get_or upto k 0) (get_or lanes k lane) ++ lanes_up_to (drop (k + 1) lanes) (drop (k + 1) upto)
lane_next lanes upto k lane nine nine' low =
    let low' : k < length lanes = omega (arith, nine, low) in
    let low'' : k < length upto = omega (arith, nine', low) in
    rw (add-one, drop-cons lanes k lane, drop-cons upto k 0)

-- so they have room where all that is left has
pub next_fits : (lanes : List LaneState) (upto : List ℕ) (k : ℕ) (lane : LaneState) → length lanes ≡ LANES → length upto ≡ LANES → k < LANES → (before room : ℕ)
    → before + length (lanes_up_to (drop k lanes) (drop k upto)) ≤ room → before + length (up_to (get_or upto k 0) (get_or lanes k lane)) ≤ room
next_fits lanes upto k lane nine nine' low before room fits =
    let front = up_to (get_or upto k 0) (get_or lanes k lane) in
    omega (arith, fits, ap length (lane_next lanes upto k lane nine nine' low), length-append front (lanes_up_to (drop (k + 1) lanes) (drop (k + 1) upto)))
