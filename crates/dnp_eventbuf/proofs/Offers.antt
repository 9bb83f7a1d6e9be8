-- What a release up to the last id of an offer takes, whatever was appended in between.
use Rattle.std.proofs.Common.{◌≡◌, ◌⊎◌, ℕ, zero, suc, ◌-◌, ◌<◌, ◌≤◌, Bool, true, false, cond, List, [], ◌∷◌, ◌++◌, map, take, length, get_or, subst, sym, ap, ◌∙◌, arith, inl, inr, refl, nat_lt, nat_le, Option}
use Rattle.std.specs.List.{All, AllPairs, Contains, filter}
use Rattle.std.specs.Option.{option_map, unwrap_or}
use Rattle.std.proofs.lemmas.Bool.{cases_lt, leb-true, lt-ltb, le-leb}
use Rattle.std.proofs.lemmas.List.{map-append, get_or-take, length-take}
use Rattle.std.proofs.lemmas.List.Elements.{All-head, All-tail, All-filter, filter_passes, All-contains_itself, All-take, All-weaker, Contains-append_left, Contains-append_right}
use Rattle.std.proofs.lemmas.List.Kept.{AllPairs-filter}
use Rattle.std.proofs.lemmas.Option.{slice_get-get_or}
use Rattle.dnp_objects.specs.declared.limits.TheConstants.{LANES}
use Rattle.dnp_objects.specs.Counts.{IsCoveredBy, HasNoRepeat}
use Rattle.dnp_objects.specs.Events.{IsEvent}
use Rattle.dnp_objects.specs.Lanes.{lane_number}
use Rattle.dnp_objects.specs.declared.lane.Lane.{Lane}
use Rattle.dnp_objects.specs.declared.row.Row.{Row}
use Rattle.dnp_objects.specs.declared.lane.LaneRow.{LaneRow}
use Rattle.dnp_eventbuf.specs.declared.numbered.Numbered.{Numbered}
use Rattle.dnp_eventbuf.specs.FitsLane.{FitsLane}
use Rattle.dnp_eventbuf.specs.Sound.{IsSoundBuffer, IsSoundLane}
use Rattle.dnp_eventbuf.specs.EventBuffer.{EventBuffer, lane_at, row_of, with_rows, exhausts, offered, last_of, up_to}
use Rattle.dnp_eventbuf.proofs.Ids.{new_ids}
use Rattle.dnp_eventbuf.proofs.Soundness.{IsSoundBuffer-with_rows}

abbrev pub Rises : List Numbered → Type 0
Rises rows = AllPairs (λ x y. x.id < y.id) rows

-- ---- members of a filtered list

contains_later : {A : Type 0} (b : Bool) (y x : A) (ys : List A) → Contains ys x → Contains (cond b (y ∷ ys) ys) x
contains_later true y x ys (k, low, is) = (suc k, omega arith, is)
contains_later false y x ys found = found

Contains-filter : {A : Type 0} (p : A → Bool) (xs : List A) (x : A) (k : ℕ) → k < length xs → get_or xs k x ≡ x → p x ≡ true → Contains (filter p xs) x
Contains-filter p [] x k low is passes = absurd (omega arith)
Contains-filter {A} p (y ∷ ys) x zero low is passes =
    let here : p y ≡ true = ap p is ∙ passes in
    subst (λ (b : Bool). Contains (cond b (y ∷ filter p ys) (filter p ys)) x) (sym here) (zero, omega arith, is)
Contains-filter p (y ∷ ys) x (suc k) low is passes = contains_later (p y) y x (filter p ys) (Contains-filter p ys x k (omega arith) is passes)

-- ---- the last id of a list

pub last_of-some : (rows : List Numbered) (d : Numbered) → 0 < length rows → last_of rows ≡ (get_or rows (length rows - 1) d).id
last_of-some rows d some = ap (λ (o : Option Numbered). unwrap_or (option_map (λ x. x.id) o) 0) (slice_get-get_or rows (length rows - 1) d (omega arith))

last_of-none : (rows : List Numbered) → length rows ≡ 0 → last_of rows ≡ 0
last_of-none [] none = refl
last_of-none (x ∷ rows) none = absurd (omega arith)

-- the last of the first rows is one of them, or 0
last_of-take : (most : ℕ) (rows : List Numbered) (d : Numbered) → (k : ℕ) → k < length rows → most ≤ k → Rises rows → 0 < (get_or rows k d).id
    → last_of (take most rows) < (get_or rows k d).id
last_of-take zero rows d k low beyond rising from_1 = omega (arith, last_of-none (take zero rows) (omega (arith, length-take zero rows)))
last_of-take (suc m) rows d k low beyond rising from_1 =
    let long : length (take (suc m) rows) ≡ suc m = omega (arith, length-take (suc m) rows) in
    let at : last_of (take (suc m) rows) ≡ (get_or (take (suc m) rows) (length (take (suc m) rows) - 1) d).id = last_of-some (take (suc m) rows) d (omega arith) in
    let place : length (take (suc m) rows) - 1 ≡ m = omega arith in
    let same : get_or (take (suc m) rows) (length (take (suc m) rows) - 1) d ≡ get_or rows m d = ap (λ (j : ℕ). get_or (take (suc m) rows) j d) place ∙ get_or-take (suc m) rows m d (omega arith) in
    let ids : last_of (take (suc m) rows) ≡ (get_or rows m d).id = at ∙ ap (λ (x : Numbered). x.id) same in
    let below : (get_or rows m d).id < (get_or rows k d).id = rising m k d (omega arith) low in
    omega arith

pub last_of-most : (rows : List Numbered) (last : ℕ) → All (λ x. x.id ≤ last) rows → last_of rows ≤ last
last_of-most [] last all = omega arith
last_of-most (x ∷ rows) last all =
    let at = last_of-some (x ∷ rows) x (omega arith) in
    let few : (get_or (x ∷ rows) (length (x ∷ rows) - 1) x).id ≤ last = all (length (x ∷ rows) - 1) x (omega arith) in
    omega arith

-- ---- what was offered

-- a row over `after`, up to the last one that was offered, was offered
was_offered : (rows : List Numbered) (after most : ℕ) (x : Numbered) → Rises rows → Contains rows x → after < x.id
    → x.id ≤ last_of (take most (filter (λ y. nat_lt after y.id) rows)) → Contains (take most (filter (λ y. nat_lt after y.id) rows)) x
was_offered rows after most x rising (k, low, is) over upto =
    let p : Numbered → Bool = λ y. nat_lt after y.id in
    let (j, low', is') = Contains-filter p rows x k low is (lt-ltb after x.id over) in
    let rising' : Rises (filter p rows) = AllPairs-filter (λ (a b : Numbered). a.id < b.id) p rows rising in
    let id_is : (get_or (filter p rows) j x).id ≡ x.id = ap (λ (y : Numbered). y.id) is' in
    elim (cases_lt j most) [
      | inl within ↦ (j, omega (arith, length-take most (filter p rows)), get_or-take most (filter p rows) j x within ∙ is')
      | inr beyond ↦
          let less : last_of (take most (filter p rows)) < (get_or (filter p rows) j x).id = last_of-take most (filter p rows) x j low' beyond rising' (omega arith) in
          absurd (omega arith)
    ]

member : (old now : List Numbered) (last after most u : ℕ) → Rises old → u ≡ last_of (take most (filter (λ y. nat_lt after y.id) old)) → u ≤ last
    → (x : Numbered) → Contains old x ⊎ (last < x.id) → Contains now x → x.id ≤ u
    → Contains (filter (λ y. nat_le y.id after) now ++ take most (filter (λ y. nat_lt after y.id) old)) x
member old now last after most u rising u_is few x stood (k, low, is) upto =
    let before = filter (λ (y : Numbered). nat_le y.id after) now in
    let shown = take most (filter (λ (y : Numbered). nat_lt after y.id) old) in
    elim (cases_lt after x.id) [
      | inl over ↦ elim stood [
        | inl old_one ↦ Contains-append_right before shown x (was_offered old after most x rising old_one over (omega arith))
        | inr new_one ↦ absurd (omega arith)
      ]
      | inr under ↦ Contains-append_left before shown x (Contains-filter (λ y. nat_le y.id after) now x k low is (le-leb x.id after under))
    ]

-- the laws of covered lists that the proof rests on
pub record Covering : Type 0 where
  pub members : (xs ys : List Numbered) → HasNoRepeat xs → All (Contains ys) xs → IsCoveredBy xs ys
  pub mapped : (f : Numbered → Row) (xs ys : List Numbered) → IsCoveredBy xs ys → IsCoveredBy (map f xs) (map f ys)

pub release_takes_offered : Covering → (s : EventBuffer) (xs : List LaneRow) (number after most : ℕ) → IsSoundBuffer s → All FitsLane xs → exhausts s xs ≡ false
    → number < LANES
    → IsCoveredBy (up_to (last_of (offered s number after most)) (lane_at (with_rows s xs) number)) (up_to after (lane_at (with_rows s xs) number) ++ map row_of (offered s number after most))
release_takes_offered laws s xs number after most sound carried within low =
    let now = (lane_at (with_rows s xs) number).rows in
    let old = (lane_at s number).rows in
    let shown = offered s number after most in
    let u = last_of shown in
    let p : Numbered → Bool = λ x. nat_le x.id u in
    let taken = filter p now in
    let before = filter (λ (x : Numbered). nat_le x.id after) now in
    let lane_old : IsSoundLane number s.last_id (lane_at s number) = sound.each number low in
    let lane_now : IsSoundLane number (with_rows s xs).last_id (lane_at (with_rows s xs) number) = (IsSoundBuffer-with_rows s xs sound carried within).each
    number low in
    let rising : Rises taken = AllPairs-filter (λ (a b : Numbered). a.id < b.id) p now lane_now.rising in
    let apart : HasNoRepeat taken =
    λ i j d first second same. let less = rising i j d first second in omega (arith, ap (λ (x : Numbered). x.id) same) in
    let few : u ≤ s.last_id =
    last_of-most shown s.last_id (All-take (λ (x : Numbered). x.id ≤ s.last_id) most (filter (λ x. nat_lt after x.id) old) (All-filter (λ x. nat_lt after x.id) (λ (x : Numbered). x.id ≤ s.last_id) old lane_old.up_to_last))
    in
    let stood : All (λ (x : Numbered). Contains old x ⊎ (s.last_id < x.id)) taken = All-filter p (λ (x : Numbered). Contains old x ⊎ (s.last_id < x.id)) now (new_ids s xs number) in
    let there : All (Contains now) taken = All-filter p (Contains now) now (All-contains_itself now) in
    let passes : All (λ (x : Numbered). p x ≡ true) taken = filter_passes p now in
    let each : All (Contains (before ++ shown)) taken =
    λ k d short.
    let x = get_or taken k d in
    member old now s.last_id after most u lane_old.rising refl few x (stood k d short) (there k d short) (leb-true x.id u (passes k d short))
    in
    subst (λ (ys : List Row). IsCoveredBy (map row_of taken) ys) (map-append row_of before shown)
    (laws.mapped row_of taken (before ++ shown) (laws.members taken (before ++ shown) apart each))

-- no row has the id 0
none_at_0 : (rows : List Numbered) → All (λ x. 1 ≤ x.id) rows → filter (λ x. nat_le x.id 0) rows ≡ []
none_at_0 [] from_1 = refl
none_at_0 (x ∷ rows) from_1 =
    let h : 1 ≤ x.id = All-head (λ (y : Numbered). 1 ≤ y.id) x rows from_1 in
    ap (λ (b : Bool). cond b (x ∷ filter (λ y. nat_le y.id 0) rows) (filter (λ y. nat_le y.id 0) rows)) (go (nat_le x.id 0) (leb-true x.id 0) h)
    ∙ none_at_0 rows (All-tail (λ (y : Numbered). 1 ≤ y.id) x rows from_1)
  where
    go : (b : Bool) → (b ≡ true → x.id ≤ 0) → 1 ≤ x.id → b ≡ false
    go true low h = absurd (let l : x.id ≤ 0 = low refl in omega arith)
    go false low h = refl

-- from the oldest row on, nothing else is taken
pub release_takes_offered_alone : Covering → (s : EventBuffer) (xs : List LaneRow) (number most : ℕ) → IsSoundBuffer s → All FitsLane xs → exhausts s xs ≡ false
    → number < LANES
    → IsCoveredBy (up_to (last_of (offered s number 0 most)) (lane_at (with_rows s xs) number)) (map row_of (offered s number 0 most))
release_takes_offered_alone laws s xs number most sound carried within low =
    let now = lane_at (with_rows s xs) number in
    let none : up_to 0 now ≡ [] = ap (map row_of) (none_at_0 now.rows ((IsSoundBuffer-with_rows s xs sound carried within).each number low).from_1) in
    subst (λ (before : List Row). IsCoveredBy (up_to (last_of (offered s number 0 most)) now) (before ++ map row_of (offered s number 0 most))) none
    (release_takes_offered laws s xs number 0 most sound carried within low)

-- ---- what is offered is an event

pub offered_events : (s : EventBuffer) (of : Lane) (after most : ℕ) → IsSoundBuffer s → lane_number of < LANES
    → All (λ x. IsEvent x.row) (offered s (lane_number of) after most)
offered_events s of after most sound low =
    let rows = (lane_at s (lane_number of)).rows in
    let Fits : Numbered → Type 0 = λ x. IsEvent x.row in
    let carried : All (λ (x : Numbered). FitsLane (record { lane = of; row = x.row })) rows = (sound.each (lane_number of) low).carried of refl in
    let events : All Fits rows = All-weaker (λ (x : Numbered). FitsLane (record { lane = of; row = x.row })) Fits (λ x h. h.fits) rows carried in
    All-take Fits most (filter (λ x. nat_lt after x.id) rows) (All-filter (λ x. nat_lt after x.id) Fits rows events)
