-- What follows from `Comes`, `ComesTo` and `comes`, for members of any type.
use Rattle.std.proofs.Common.{◌≡◌, ℕ, suc, zero, ◌+◌, ◌<◌, Bool, true, List, [], ◌∷◌, ◌++◌, length, Some, drop, min, refl, sym, ap, ◌∙◌, subst, inl, inr, arith}
use Rattle.std.specs.Prelude.{slice_get, Contains, All, IsTrue, ◌↔◌, map}
use Rattle.std.proofs.lemmas.List.{drop-drop, drop-append-le, drop_at, drop_min, drop_all, drop-map, length-drop, get_or-drop}
use Rattle.std.proofs.lemmas.Option.{slice_get-map, slice_get_within, same_Some, none-some, get_or_from_slice_get}
use Rattle.std.proofs.lemmas.List.Elements.{All-nil, All-cons, All-weaker}
use Rattle.std.specs.Option.{option_map}
use Rattle.std.proofs.lemmas.Bool.{cases_Bool, false≢true, cond-true, cond-false, both_ways}
use Rattle.dnp_line.specs.Comes.{Comes, ComesTo, comes}

-- the member at place m of what is left after n is the one at place n + m
pub slice_get-drop : {X : Type 0} (xs : List X) (n m : ℕ) → slice_get (drop n xs) m ≡ slice_get xs (n + m)
slice_get-drop xs zero m = ap (slice_get xs) (omega arith)
slice_get-drop [] (suc n) m = refl
slice_get-drop (x ∷ xs) (suc n) m =
    let next : suc (n + m) ≡ suc n + m = omega arith in
    slice_get-drop xs n m ∙ ap (slice_get (x ∷ xs)) next

-- the members of a list keep their places when more is put after
pub slice_get-append : {X : Type 0} (xs ys : List X) (n : ℕ) → n < length xs → slice_get (xs ++ ys) n ≡ slice_get xs n
slice_get-append [] ys n within = absurd (omega arith)
slice_get-append (x ∷ xs) ys zero within = refl
slice_get-append (x ∷ xs) ys (suc n) within = slice_get-append xs ys n (omega arith)

-- what comes of an end of a list comes of the list
pub Comes-drop : {X : Type 0} (came sent : List X) (n : ℕ) → Comes came (drop n sent) → Comes came sent
Comes-drop [] sent n h = tt
Comes-drop (member ∷ later) sent n h =
    (n + h.0, sym (slice_get-drop sent n h.0) ∙ h.1, subst (λ (s : List _). Comes later s) (drop-drop h.0 n sent) h.2)

-- what comes of a list comes of it still when more stands in front
pub Comes-front : {X : Type 0} (came before sent : List X) → Comes came sent → Comes came (before ++ sent)
Comes-front came before sent h =
    Comes-drop came (before ++ sent) (length before)
    (subst (λ (s : List _). Comes came s) (sym (drop_at before sent (length before) refl)) h)

-- what comes of a list comes of it still when more is sent
pub Comes-behind : {X : Type 0} (came sent more : List X) → Comes came sent → Comes came (sent ++ more)
Comes-behind [] sent more h = tt
Comes-behind (member ∷ later) sent more h =
    let within : h.0 < length sent = slice_get_within sent h.0 member h.1 in (
      h.0,
      slice_get-append sent more h.0 within ∙ h.1,
      subst (λ (s : List _). Comes later s) (sym (drop-append-le h.0 sent more (omega arith))) (Comes-behind later (drop h.0 sent) more h.2),
    )

-- each list came of itself
pub Comes-refl : {X : Type 0} (sent : List X) → Comes sent sent
Comes-refl [] = tt
Comes-refl (member ∷ later) = (0, refl, Comes-drop later (member ∷ later) 1 (Comes-refl later))

-- where `sent` came of `first`, a place of `sent` has a place of `first`: the same member stands
-- there, and what follows came of what follows
pub Comes-place : {X : Type 0} (sent first : List X) (n : ℕ) (member : X) → slice_get sent n ≡ Some member → Comes sent first →
    (m : ℕ) × (slice_get first m ≡ Some member) × Comes (drop n sent) (drop m first)
Comes-place [] first n member at h = absurd (none-some member at)
Comes-place (s ∷ sent) first zero member at h =
    let here : slice_get first (h.0 + 0) ≡ slice_get first h.0 = ap (slice_get first) (omega arith) in
    (h.0, h.1 ∙ at, (0, slice_get-drop first h.0 0 ∙ here ∙ h.1, h.2))
Comes-place (s ∷ sent) first (suc n) member at h =
    let p : (m : ℕ) × (slice_get (drop h.0 first) m ≡ Some member) × Comes (drop n sent) (drop m (drop h.0 first)) =
    Comes-place sent (drop h.0 first) n member at h.2 in
    (h.0 + p.0, sym (slice_get-drop first h.0 p.0) ∙ p.1, subst (λ (s : List _). Comes (drop n sent) s) (drop-drop p.0 h.0 first) p.2)

-- two lines in a row are a line
pub Comes-trans : {X : Type 0} (came sent first : List X) → Comes came sent → Comes sent first → Comes came first
Comes-trans [] sent first h k = tt
Comes-trans (member ∷ later) sent first h k =
    let p = Comes-place sent first h.0 member h.1 k in
    (p.0, p.1, Comes-trans later (drop h.0 sent) (drop p.0 first) h.2 p.2)

-- what came of a list, seen through a function, came of that list seen through it
pub Comes-map : {X Y : Type 0} (f : X → Y) (came sent : List X) → Comes came sent → Comes (map f came) (map f sent)
Comes-map f [] sent h = tt
Comes-map f (member ∷ later) sent h = (
  h.0,
  slice_get-map f sent h.0 ∙ ap (option_map f) h.1,
  subst (λ (s : List _). Comes (map f later) s) (sym (drop-map f h.0 sent)) (Comes-map f later (drop h.0 sent) h.2),
)

-- nothing but the empty list comes of the empty list
pub Comes-nil : {X : Type 0} (came : List X) → Comes came [] → came ≡ []
Comes-nil [] h = refl
Comes-nil (member ∷ later) h = absurd (none-some member h.1)

-- a member of an end of a list is a member of the list
pub Contains-drop : {X : Type 0} (xs : List X) (n : ℕ) (x : X) → Contains (drop n xs) x → Contains xs x
Contains-drop xs n x h =
    (n + h.0, omega (arith, h.1, length-drop n xs), sym (get_or-drop n xs h.0 x) ∙ h.2)

-- what came was sent
pub Comes-members : {X : Type 0} (came sent : List X) → Comes came sent → All (Contains sent) came
Comes-members [] sent h = All-nil (Contains sent)
Comes-members (member ∷ later) sent h =
    All-cons (Contains sent) member later
    (h.0, slice_get_within sent h.0 member h.1, get_or_from_slice_get sent h.0 member member h.1)
    (All-weaker (Contains (drop h.0 sent)) (Contains sent) (λ x. Contains-drop sent h.0 x) later (Comes-members later (drop h.0 sent) h.2))

-- what came to a rest came
pub ComesTo-comes : {X : Type 0} (came sent rest : List X) → ComesTo came sent rest → Comes came sent
ComesTo-comes [] sent rest h = tt
ComesTo-comes (member ∷ later) sent rest h = (h.0, h.1, ComesTo-comes later (drop h.0 sent) rest h.2)

-- what came has a rest: all from the member that came last on
pub ComesTo-some : {X : Type 0} (came sent : List X) → Comes came sent → (rest : List X) × ComesTo came sent rest
ComesTo-some [] sent h = (sent, (0, refl))
ComesTo-some (member ∷ later) sent h =
    let r = ComesTo-some later (drop h.0 sent) h.2 in (r.0, (h.0, h.1, r.1))

-- what may still come is an end of what was sent
pub ComesTo-end : {X : Type 0} (came sent rest : List X) → ComesTo came sent rest → (n : ℕ) × (rest ≡ drop n sent)
ComesTo-end [] sent rest h = h
ComesTo-end (member ∷ later) sent rest h =
    let e = ComesTo-end later (drop h.0 sent) rest h.2 in (h.0 + e.0, e.1 ∙ drop-drop e.0 h.0 sent)

-- before anything came, all may come
pub ComesTo-start : {X : Type 0} (sent : List X) → ComesTo [] sent sent
ComesTo-start sent = (0, refl)

-- nothing came, and nothing will
pub ComesTo-gone : {X : Type 0} (sent : List X) → ComesTo [] sent []
ComesTo-gone sent = (length sent, sym (drop_all (length sent) sent (omega arith)))

-- more is sent: it may come, after what may come already
pub ComesTo-behind : {X : Type 0} (came sent rest more : List X) → ComesTo came sent rest → ComesTo came (sent ++ more) (rest ++ more)
ComesTo-behind [] sent rest more h =
    let n : ℕ = min h.0 (length sent) in (
      n,
      ap (λ (s : List _). s ++ more) (h.1 ∙ sym (drop_min h.0 sent)) ∙ sym (drop-append-le n sent more (omega arith)),
    )
ComesTo-behind (member ∷ later) sent rest more h =
    let within : h.0 < length sent = slice_get_within sent h.0 member h.1 in (
      h.0,
      slice_get-append sent more h.0 within ∙ h.1,
      subst (λ (s : List _). ComesTo later s (rest ++ more)) (sym (drop-append-le h.0 sent more (omega arith)))
          (ComesTo-behind later (drop h.0 sent) rest more h.2),
    )

-- some of what may come is lost
pub ComesTo-drop : {X : Type 0} (came sent rest : List X) (n : ℕ) → ComesTo came sent rest → ComesTo came sent (drop n rest)
ComesTo-drop [] sent rest n h = (h.0 + n, ap (drop n) h.1 ∙ drop-drop n h.0 sent)
ComesTo-drop (member ∷ later) sent rest n h = (h.0, h.1, ComesTo-drop later (drop h.0 sent) rest n h.2)

-- a line is cleared: all of what may come is lost
pub ComesTo-clear : {X : Type 0} (came sent rest : List X) → ComesTo came sent rest → ComesTo came sent []
ComesTo-clear came sent rest h =
    subst (λ (r : List _). ComesTo came sent r) (drop_all (length rest) rest (omega arith)) (ComesTo-drop came sent rest (length rest) h)

-- one of the members that may come does, and may come again
pub ComesTo-push : {X : Type 0} (came sent rest : List X) (n : ℕ) (member : X) → ComesTo came sent rest → slice_get rest n ≡ Some member →
    ComesTo (came ++ member ∷ []) sent (drop n rest)
ComesTo-push [] sent rest n member h at =
    let place : drop n rest ≡ drop (h.0 + n) sent = ap (drop n) h.1 ∙ drop-drop n h.0 sent in
    (h.0 + n, sym (slice_get-drop sent h.0 n) ∙ sym (ap (λ (s : List _). slice_get s n) h.1) ∙ at, (0, place))
ComesTo-push (first ∷ later) sent rest n member h at =
    (h.0, h.1, ComesTo-push later (drop h.0 sent) rest n member h.2 at)

-- what came of a list whose first member differs from its own first came of the others
pub came_later : {X : Type 0} (member first : X) (later others : List X) → (member ≡ first → ⊥) →
    Comes (member ∷ later) (first ∷ others) → Comes (member ∷ later) others
came_later member first later others apart (zero, at, h) = absurd (apart (sym (same_Some first member at)))
came_later member first later others apart (suc n, at, h) = (n, at, h)

-- where `came` came of `sent`, the test holds
pub Comes-test : {X : Type 0} (equal : X → X → Bool) → ((x y : X) → IsTrue (equal x y) ↔ (x ≡ y)) →
    (came sent : List X) → Comes came sent → comes equal came sent ≡ true
Comes-test equal decides [] sent h = refl
Comes-test equal decides (member ∷ later) [] h = absurd (none-some member h.1)
Comes-test equal decides (member ∷ later) (first ∷ others) h =
    elim (cases_Bool (equal member first)) [
      | inl same ↦
          cond-true (equal member first) _ _ same
          ∙ Comes-test equal decides later (first ∷ others) (Comes-drop later (first ∷ others) h.0 h.2)
      | inr differs ↦
          let apart : member ≡ first → ⊥ = λ e. both_ways (equal member first) differs ((decides member first).1 e) in
          cond-false (equal member first) _ _ differs
          ∙ Comes-test equal decides (member ∷ later) others (came_later member first later others apart h)
    ]

-- where the test holds, `came` came of `sent`
pub test-Comes : {X : Type 0} (equal : X → X → Bool) → ((x y : X) → IsTrue (equal x y) ↔ (x ≡ y)) →
    (came sent : List X) → comes equal came sent ≡ true → Comes came sent
test-Comes equal decides [] sent h = tt
test-Comes equal decides (member ∷ later) [] h = absurd (false≢true h)
test-Comes equal decides (member ∷ later) (first ∷ others) h =
    elim (cases_Bool (equal member first)) [
      | inl same ↦ (
        0,
        ap Some (sym ((decides member first).0 same)),
        test-Comes equal decides later (first ∷ others) (sym (cond-true (equal member first) _ _ same) ∙ h),
      )
      | inr differs ↦
          let r = test-Comes equal decides (member ∷ later) others (sym (cond-false (equal member first) _ _ differs) ∙ h) in
          (suc r.0, r.1, r.2)
    ]
