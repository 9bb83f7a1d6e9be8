-- A fragment and the lanes that it was made of: what it holds, and what its confirm releases.
use Rattle.std.proofs.Common.{◌≡◌, ℕ, ◌<◌, ◌≤◌, Bool, true, false, cond, List, [], ◌∷◌, ◌++◌, sym, subst, arith}
use Rattle.std.specs.Prelude.{slice_index_or}
use Rattle.std.specs.List.{All, Contains, filter}
use Rattle.std.specs.List.Sorted.{IsPermutation}
use Rattle.std.proofs.lemmas.Bool.{leb-true, le-leb}
use Rattle.std.proofs.lemmas.List.Elements.{All-nil, All-cons, All-head, All-tail, All-push, All-weaker, All-filter, All-contains, Contains-append_left, Contains-append_right, Contains-push, filter_passes}
use Rattle.std.proofs.lemmas.List.Sorted.{IsPermutation-refl}
use Rattle.dnp_eventbuf.specs.Buffered.{Buffered, id_limit, is_upto}
use Rattle.dnp_world.specs.LawLink.{SentFragment}
use Rattle.dnp_world.specs.Moves.{IsOffered, nothing_reported, nothing_sent, taken}
use Rattle.dnp_world.specs.Standing.{AllIn, IsOfLanes}
use Rattle.dnp_world.proofs.Beginning.{reported_says, sent_says}
use Rattle.dnp_world.proofs.Exchanges.{more_taken}

-- ---- lists

pub all_left : {X : Type 0} (P : X → Type 0) (xs ys : List X) → All P (xs ++ ys) → All P xs
all_left P [] ys h = All-nil P
all_left P (x ∷ xs) ys h = All-cons P x xs (All-head P x (xs ++ ys) h) (all_left P xs ys (All-tail P x (xs ++ ys) h))

pub same_permutation : {X : Type 0} (xs ys : List X) → xs ≡ ys → IsPermutation xs ys
same_permutation xs ys e = subst (IsPermutation xs) e (IsPermutation-refl xs)

-- ---- a fragment of the lanes

-- a row comes, with an id over all others
over_all : (f : SentFragment) (lanes : List Buffered) (last_id : ℕ) (x : Buffered) → last_id < x.id → ((lane : ℕ) → id_limit f.upto lane ≤ last_id) →
    x.id ≤ id_limit f.upto x.lane → ⊥
over_all f lanes last_id x newer limits h =
    let most : id_limit f.upto x.lane ≤ last_id = limits x.lane in
    omega (arith, newer, most, h)

pub of_lanes_appended : (uns : Bool) (lanes stood : List Buffered) (last_id : ℕ) (f : SentFragment) (x : Buffered) → last_id < x.id →
    IsOfLanes uns lanes stood last_id f → IsOfLanes uns (lanes ++ x ∷ []) (stood ++ x ∷ []) x.id f
of_lanes_appended uns lanes stood last_id f x newer h =
    record {
      limits = λ lane. let most : id_limit f.upto lane ≤ last_id = h.limits lane in omega (arith, newer, most);
      rows = more_taken f.rows stood (x ∷ []) h.rows;
      prefix = All-push (λ y. y.id ≤ id_limit f.upto y.lane →
          Contains f.rows y) lanes x h.prefix (λ k. absurd (over_all f lanes last_id x newer h.limits k));
      says = h.says;
    }

-- rows leave the lanes
pub of_lanes_fewer : (uns : Bool) (lanes fewer stood : List Buffered) (last_id : ℕ) (f : SentFragment) →
    ((P : Buffered → Type 0) → All P lanes → All P fewer) → IsOfLanes uns lanes stood last_id f → IsOfLanes uns fewer stood last_id f
of_lanes_fewer uns lanes fewer stood last_id f less h =
    record { limits = h.limits; rows = h.rows; prefix = less (λ x. x.id ≤ id_limit f.upto x.lane → Contains f.rows x) h.prefix; says = h.says }

in_front : {X : Type 0} (x : X) (xs : List X) → Contains (x ∷ xs) x
in_front x xs = Contains-append_left (x ∷ []) xs x (Contains-push [] x)

behind : {X : Type 0} (x : X) (xs : List X) (y : X) → Contains xs y → Contains (x ∷ xs) y
behind x xs y h = Contains-append_right (x ∷ []) xs y h

-- what passes a test is kept by it
kept_first : {X : Type 0} (b : Bool) (x : X) (xs : List X) → b ≡ true → Contains (cond b (x ∷ xs) xs) x
kept_first true x xs e = in_front x xs
kept_first false x xs e = absurd (cc)

kept_later : {X : Type 0} (b : Bool) (x : X) (xs : List X) (y : X) → Contains xs y → Contains (cond b (x ∷ xs) xs) y
kept_later true x xs y h = behind x xs y h
kept_later false x xs y h = h

filter_keeps : {X : Type 0} (p : X → Bool) (xs : List X) → All (λ x. p x ≡ true → Contains (filter p xs) x) xs
filter_keeps p [] = All-nil (λ x. p x ≡ true → Contains (filter p []) x)
filter_keeps p (x ∷ xs) =
    All-cons (λ y. p y ≡ true → Contains (filter p (x ∷ xs)) y) x xs (λ e. kept_first (p x) x (filter p xs) e)
    (All-weaker (λ y. p y ≡ true → Contains (filter p xs) y) (λ y. p y ≡ true → Contains (filter p (x ∷ xs)) y)
    (λ y h e. kept_later (p x) x (filter p xs) y (h e)) xs (filter_keeps p xs))

-- a new fragment
pub of_lanes_offered : (uns : Bool) (lanes stood : List Buffered) (last_id : ℕ) (f : SentFragment) → AllIn lanes stood → IsOffered uns lanes last_id f →
    IsOfLanes uns lanes stood last_id f
of_lanes_offered uns lanes stood last_id f there o =
    record {
      limits = o.limits;
      rows = subst (λ (rows : List Buffered). AllIn rows stood) (sym o.rows) (All-filter (is_upto f.upto) (Contains stood) lanes there);
      prefix = subst (λ (rows : List Buffered). All (λ x. x.id ≤ id_limit f.upto x.lane → Contains rows x) lanes) (sym o.rows)
          (All-weaker (λ x. is_upto f.upto x ≡ true → Contains (filter (is_upto f.upto) lanes) x) (λ x. x.id ≤ id_limit f.upto x.lane →
          Contains (filter (is_upto f.upto) lanes) x)
          (λ x h k. h (le-leb x.id (id_limit f.upto x.lane) k)) lanes (filter_keeps (is_upto f.upto) lanes));
      says = o.says;
    }

-- the events that the connection begins with: none are up to no ids
nothing_prefix : (lanes : List Buffered) (last_id : ℕ) → All (λ x. (1 ≤ x.id) × (x.id ≤ last_id)) lanes
    → All (λ x. x.id ≤ 0 → Contains [] x) lanes
nothing_prefix lanes last_id ids =
    All-weaker (λ x. (1 ≤ x.id) × (x.id ≤ last_id)) (λ x. x.id ≤ 0 → Contains [] x) (λ x h k. absurd (omega (arith, h.0, k))) lanes ids

pub of_lanes_sent : (lanes stood : List Buffered) (last_id : ℕ) → All (λ x. (1 ≤ x.id) × (x.id ≤ last_id)) lanes
    → IsOfLanes false lanes stood last_id nothing_sent
of_lanes_sent lanes stood last_id ids =
    record { limits = λ lane. omega arith; rows = All-nil (Contains stood); prefix = nothing_prefix lanes last_id ids; says = sent_says }

pub of_lanes_reported : (lanes stood : List Buffered) (last_id : ℕ) → All (λ x. (1 ≤ x.id) × (x.id ≤ last_id)) lanes
    → IsOfLanes true lanes stood last_id nothing_reported
of_lanes_reported lanes stood last_id ids =
    record { limits = λ lane. omega arith; rows = All-nil (Contains stood); prefix = nothing_prefix lanes last_id ids; says = reported_says }

-- ---- what a confirm releases was taken

pub upto_taken : (uns : Bool) (lanes stood took : List Buffered) (last_id : ℕ) (f : SentFragment) (upto : List ℕ) → upto ≡ f.upto →
    IsOfLanes uns lanes stood last_id f → AllIn f.rows took → AllIn (filter (is_upto upto) lanes) took
upto_taken uns lanes stood took last_id f upto e h taken =
    subst (λ (u : List ℕ). AllIn (filter (is_upto u) lanes) took) (sym e)
    (λ k d within.
    let passes : is_upto f.upto (slice_index_or (filter (is_upto f.upto) lanes) k d) ≡ true = filter_passes (is_upto f.upto) lanes k d within in
    let below : (slice_index_or (filter (is_upto f.upto) lanes) k d).id ≤ id_limit f.upto (slice_index_or (filter (is_upto f.upto) lanes) k d).lane =
    leb-true (slice_index_or (filter (is_upto f.upto) lanes) k d).id
    (id_limit f.upto (slice_index_or (filter (is_upto f.upto) lanes) k d).lane) passes in
    All-contains (Contains took) f.rows (slice_index_or (filter (is_upto f.upto) lanes) k d) taken
    (All-filter (is_upto f.upto) (λ x. x.id ≤ id_limit f.upto x.lane → Contains f.rows x) lanes h.prefix k d within below))
