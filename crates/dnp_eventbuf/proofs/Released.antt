-- What is offered after a release, and what the last id of a lane tells.
use Rattle.std.proofs.Common.{◌≡◌, ℕ, ◌-◌, ◌<◌, ◌≤◌, max, Bool, true, false, cond, List, [], ◌∷◌, take, length, get_or, sym, ap, ◌∙◌, arith, inl, inr, refl, nat_lt}
use Rattle.std.specs.List.{All, filter, list_any}
use Rattle.std.specs.Bool.{Decides}
use Rattle.std.proofs.lemmas.Bool.{cases_lt, lt-ltb}
use Rattle.std.proofs.lemmas.Bool.Decides.{Decides-ltb}
use Rattle.std.proofs.lemmas.List.Folds.{list_any_at, list_any_none}
use Rattle.dnp_objects.specs.declared.limits.TheConstants.{LANES}
use Rattle.dnp_eventbuf.specs.declared.numbered.Numbered.{Numbered}
use Rattle.dnp_eventbuf.specs.Sound.{IsSoundBuffer}
use Rattle.dnp_eventbuf.specs.EventBuffer.{LaneState, EventBuffer, lane_at, offered, above, last_of, without}
use Rattle.dnp_eventbuf.proofs.Offers.{Rises, last_of-some, last_of-most}
use Rattle.dnp_eventbuf.proofs.Soundness.{get_or-lanes_above}

not_less : (m n : ℕ) → n ≤ m → nat_lt m n ≡ false
not_less m n h = go (nat_lt m n) (Decides-ltb m n).0
  where
    go : (b : Bool) → (b ≡ true → m < n) → b ≡ false
    go true less = absurd (let l : m < n = less refl in omega arith)
    go false less = refl

-- ---- an offer after a release

-- two bounds are one
over_both : (after upto : ℕ) (rows : List Numbered)
    → filter (λ x. nat_lt after x.id) (filter (λ x. nat_lt upto x.id) rows) ≡ filter (λ x. nat_lt (max after upto) x.id) rows
over_both after upto [] = refl
over_both after upto (x ∷ rows) =
    first (nat_lt upto x.id)
    ∙ second (nat_lt after x.id) (nat_lt upto x.id) (nat_lt (max after upto) x.id) (Decides-ltb after x.id) (Decides-ltb upto x.id) (Decides-ltb (max after upto) x.id) (over_both after upto rows)
  where
    p : Numbered → Bool
    p y = nat_lt after y.id

    left : List Numbered
    left = filter (λ y. nat_lt upto y.id) rows

    right : List Numbered
    right = filter (λ y. nat_lt (max after upto) y.id) rows

    first : (b : Bool) → filter p (cond b (x ∷ left) left) ≡ cond b (cond (p x) (x ∷ filter p left) (filter p left)) (filter p left)
    first true = refl
    first false = refl

    second : (a b c : Bool) → Decides a (after < x.id) → Decides b (upto < x.id) → Decides c (max after upto < x.id) → filter p left ≡ right
        → cond b (cond a (x ∷ filter p left) (filter p left)) (filter p left) ≡ cond c (x ∷ right) right
    second true true true da db dc rest = ap (λ ys. x ∷ ys) rest
    second true true false da db dc rest = absurd (let h = da.0 refl in let k = db.0 refl in let m : max after upto < x.id = omega arith in let f : false ≡ true = dc.1 m in cc)
    second true false true da db dc rest = absurd (let m = dc.0 refl in let k : upto < x.id = omega arith in let f : false ≡ true = db.1 k in cc)
    second true false false da db dc rest = rest
    second false b true da db dc rest = absurd (let m = dc.0 refl in let k : after < x.id = omega arith in let f : false ≡ true = da.1 k in cc)
    second false true false da db dc rest = rest
    second false false false da db dc rest = rest

pub offered_after_release : (s : EventBuffer) (upto : List ℕ) (number after most : ℕ) → length upto ≡ length s.lanes → number < length s.lanes
    → offered (without s upto) number after most ≡ offered s number (max after (get_or upto number 0)) most
offered_after_release s upto number after most long low =
    let left : lane_at (without s upto) number ≡ above (get_or upto number 0) (lane_at s number) = get_or-lanes_above s.lanes upto number (sym long) low in
    ap (λ (lane : LaneState). take most (filter (λ x. nat_lt after x.id) lane.rows)) left
    ∙ ap (take most) (over_both after (get_or upto number 0) (lane_at s number).rows)

-- ---- the last id of a lane

pub any_over : (rows : List Numbered) (u : ℕ) → Rises rows → list_any (λ x. nat_lt u x.id) rows ≡ nat_lt u (last_of rows)
any_over [] u rising = sym (not_less u 0 (omega arith))
any_over (x ∷ rows) u rising =
    let all : List Numbered = x ∷ rows in
    let p : Numbered → Bool = λ y. nat_lt u y.id in
    let at : last_of all ≡ (get_or all (length all - 1) x).id = last_of-some all x (omega arith) in
    elim (cases_lt u (last_of all)) [
      | inl over ↦ list_any_at p all (length all - 1) x (omega arith) (lt-ltb u (get_or all (length all - 1) x).id (omega arith)) ∙ sym (lt-ltb u (last_of all) over)
      | inr under ↦ list_any_none p all (λ k d low. not_less u (get_or all k d).id (below k d low under)) ∙ sym (not_less u (last_of all) under)
    ]
  where
    below : (k : ℕ) (d : Numbered) → k < length (x ∷ rows) → last_of (x ∷ rows) ≤ u → (get_or (x ∷ rows) k d).id ≤ u
    below k d low under =
        let last : last_of (x ∷ rows) ≡ (get_or (x ∷ rows) (length (x ∷ rows) - 1) d).id = last_of-some (x ∷ rows) d (omega arith) in
        elim (cases_lt k (length (x ∷ rows) - 1)) [
          | inl before ↦ (let h : (get_or (x ∷ rows) k d).id < (get_or (x ∷ rows) (length (x ∷ rows) - 1) d).id = rising k (length (x ∷ rows) - 1) d before (omega arith) in omega arith)
          | inr is ↦ (let e : k ≡ length (x ∷ rows) - 1 = omega arith in let f : (get_or (x ∷ rows) k d).id ≡ (get_or (x ∷ rows) (length (x ∷ rows) - 1) d).id = ap (λ j. (get_or (x ∷ rows) j d).id) e in omega arith)
        ]

pub any_over_lane : (s : EventBuffer) (number u : ℕ) → IsSoundBuffer s → number < LANES
    → list_any (λ x. nat_lt u x.id) (lane_at s number).rows ≡ nat_lt u (last_of (lane_at s number).rows)
any_over_lane s number u sound low = any_over (lane_at s number).rows u (sound.each number low).rising

pub none_over_last : (s : EventBuffer) (number : ℕ) → IsSoundBuffer s → number < LANES → All (λ x. x.id ≤ s.last_id) (lane_at s number).rows
none_over_last s number sound low = (sound.each number low).up_to_last

pub last_up_to_last : (s : EventBuffer) (number : ℕ) → IsSoundBuffer s → number < LANES → last_of (lane_at s number).rows ≤ s.last_id
last_up_to_last s number sound low = last_of-most (lane_at s number).rows s.last_id (none_over_last s number sound low)
