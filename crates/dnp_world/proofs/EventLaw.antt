-- What follows of the events, and that it holds before the first opening.
use Rattle.std.proofs.Common.{◌≡◌, ◌≢◌, ℕ, ◌≤◌, ◌==◌, true, false, cond, ◌&&◌, List, [], ◌∷◌, ◌++◌, map, refl, sym, ap, ◌∙◌, subst, arith}
use Rattle.std.specs.List.{All, Contains, count_by}
use Rattle.std.proofs.lemmas.Bool.Decides.{Decides-eqb}
use Rattle.std.proofs.lemmas.List.Kept.{AllPairs-cons}
use Rattle.std.proofs.lemmas.List.Elements.{All-nil, All-cons, All-map, All-weaker}
use Rattle.std.proofs.lemmas.List.Sorted.{Contains-permutation, sum_by-IsPermutation}
use Rattle.std.proofs.lemmas.List.{append-nil, length-map, get_or-map}
use Rattle.dnp_objects.specs.declared.row.Row.{Row}
use Rattle.dnp_objects.specs.Counts.{IsCoveredBy, HasNoRepeat}
use Rattle.dnp_eventbuf.specs.Buffered.{Buffered, buffered_row, is_named}
use Rattle.dnp_world.specs.Lists.{Each}
use Rattle.dnp_world.specs.LawLink.{SentFragment, LawLink, Up}
use Rattle.dnp_world.specs.Standing.{AllIn, Events, Inventory, IsFresh, IsOfLanes, IsOfStood, inventory}
use Rattle.dnp_world.proofs.Counting.{count_by-append, count_by-cons, one_if}
use Rattle.dnp_world.proofs.Offers.{of_lanes_reported, of_lanes_sent, same_permutation}

-- ---- the law

-- an event as a value of types that the laws below speak of: its id, its lane and its row
abbrev pub Key : Type 0
Key = ℕ × ℕ × Row

abbrev pub key : Buffered → Key
key x = (x.id, x.lane, x.row)

abbrev pub key_row : Key → Row
key_row k = k.2

-- what `dnp_objects` promises of lists
pub record Laws : Type 0 where
  pub members : (xs ys : List Key) → HasNoRepeat xs → All (Contains ys) xs → IsCoveredBy xs ys
  pub mapped : (f : Key → Row) (xs ys : List Key) → IsCoveredBy xs ys → IsCoveredBy (map f xs) (map f ys)

rows_by_key : (xs : List Buffered) → map key_row (map key xs) ≡ map buffered_row xs
rows_by_key [] = refl
rows_by_key (x ∷ xs) = ap (λ (l : List Row). x.row ∷ l) (rows_by_key xs)

contains_map : {X Y : Type 0} (f : X → Y) (xs : List X) (x : X) → Contains xs x → Contains (map f xs) (f x)
contains_map f xs x h = (h.0, omega (arith, h.1, length-map xs f), get_or-map f xs h.0 x (f x) h.1 ∙ ap f h.2)

members_map : {Y : Type 0} (f : Buffered → Y) (xs ys : List Buffered) → AllIn xs ys → All (Contains (map f ys)) (map f xs)
members_map f xs ys h =
    All-map (Contains (map f ys)) f xs
    (All-weaker (Contains ys) (λ x. Contains (map f ys) (f x)) (λ x k. contains_map f ys x k) xs h)

-- each name once: no event twice
named_itself : (x : Buffered) → is_named x.id x.lane x ≡ true
named_itself x =
    let id : (x.id == x.id) ≡ true = (Decides-eqb x.id x.id).1 refl in
    let lane : (x.lane == x.lane) ≡ true = (Decides-eqb x.lane x.lane).1 refl in
    ap (λ b. b && (x.lane == x.lane)) id ∙ lane

named_none : (x : Buffered) (ys : List Buffered) → count_by (is_named x.id x.lane) ys ≡ 0 → All (λ k. key x ≢ k) (map key ys)
named_none x [] e = All-nil (λ k. key x ≢ k)
named_none x (y ∷ ys) e =
    All-cons (λ k. key x ≢ k) (key y) (map key ys)
    (λ same.
    let itself : cond {A = ℕ} (is_named x.id x.lane x) 1 0 ≡ 1 = ap {B = ℕ} (λ b. cond b 1 0) (named_itself x) in
    let one : one_if (is_named x.id x.lane) y ≡ 1 =
    subst (λ (k : Key). cond {A = ℕ} ((k.0 == x.id) && (k.1 == x.lane)) 1 0 ≡ 1) same itself in
    absurd (omega (arith, e, one, count_by-cons (is_named x.id x.lane) y ys)))
    (named_none x ys (omega (arith, e, count_by-cons (is_named x.id x.lane) y ys)))

no_repeat : (xs : List Buffered) → ((id lane : ℕ) → count_by (is_named id lane) xs ≤ 1) → HasNoRepeat (map key xs)
no_repeat [] once = λ i j d low high. absurd (omega (arith, high))
no_repeat (x ∷ xs) once =
    let one : one_if (is_named x.id x.lane) x ≡ 1 = ap {B = ℕ} (λ b. cond b 1 0) (named_itself x) in
    let none : count_by (is_named x.id x.lane) xs ≡ 0 =
    omega (arith, once x.id x.lane, count_by-cons (is_named x.id x.lane) x xs, one) in
    AllPairs-cons (λ y z. y ≢ z) (key x) (map key xs) (named_none x xs none)
    (no_repeat xs (λ id lane. omega (arith, once id lane, count_by-cons (is_named id lane) x xs)))

released_once : (v : Inventory) → Events v → (id lane : ℕ) → count_by (is_named id lane) v.released ≤ 1
released_once v r id lane =
    let same : count_by (is_named id lane) (v.lanes ++ (v.released ++ v.left)) ≡ count_by (is_named id lane) v.stood =
    sum_by-IsPermutation (one_if (is_named id lane)) v.stood (v.lanes ++ (v.released ++ v.left)) r.whole in
    omega (
      arith,
      same,
      r.once id lane,
      count_by-append (is_named id lane) v.lanes (v.released ++ v.left),
      count_by-append (is_named id lane) v.released v.left,
    )

pub released_covered : Laws → (v : Inventory) → Events v → IsCoveredBy (map buffered_row v.released) (map buffered_row v.took)
released_covered laws v r =
    let keys : IsCoveredBy (map key v.released) (map key v.took) =
    laws.members (map key v.released) (map key v.took) (no_repeat v.released (released_once v r))
    (members_map key v.released v.took r.released) in
    let rows : IsCoveredBy (map key_row (map key v.released)) (map key_row (map key v.took)) =
    laws.mapped key_row (map key v.released) (map key v.took) keys in
    subst (λ (l : List Row). IsCoveredBy l (map buffered_row v.took)) (rows_by_key v.released)
    (subst (λ (l : List Row). IsCoveredBy (map key_row (map key v.released)) l) (rows_by_key v.took) rows)

-- what was taken stood in the lanes: it is there, was released or left
pub took_stood : (v : Inventory) → Events v → AllIn v.took (v.lanes ++ (v.released ++ v.left))
took_stood v r =
    All-weaker (Contains v.stood) (Contains (v.lanes ++ (v.released ++ v.left)))
    (λ x h. Contains-permutation v.stood (v.lanes ++ (v.released ++ v.left)) x r.whole h) v.took r.took

pub took_rows_stood : (v : Inventory) → Events v
    → All (Contains (map buffered_row (v.lanes ++ (v.released ++ v.left)))) (map buffered_row v.took)
took_rows_stood v r = members_map buffered_row v.took (v.lanes ++ (v.released ++ v.left)) (took_stood v r)

-- before the first opening
pub rows_fresh : (l : LawLink) → IsFresh l → Events (inventory l)
rows_fresh l fresh =
    let all : l.lanes ≡ l.lanes ++ (l.released ++ l.left) =
    sym (append-nil l.lanes) ∙ ap (λ (r : List Buffered). l.lanes ++ r) (sym (ap (λ (r : List Buffered). r ++ l.left) fresh.released ∙ fresh.left)) in
    record {
      whole = same_permutation l.stood (l.lanes ++ (l.released ++ l.left)) (fresh.stood ∙ all);
      once = λ id lane. subst (λ (xs : List Buffered). count_by (is_named id lane) xs ≤ 1) (sym fresh.stood) (fresh.once id lane);
      ids = subst (λ (xs : List Buffered). All (λ x. (1 ≤ x.id) × (x.id ≤ l.last_id)) xs) (sym fresh.stood) fresh.ids;
      released = subst (λ (xs : List Buffered). AllIn xs l.took) (sym fresh.released) (All-nil (Contains l.took));
      took = subst (λ (xs : List Buffered). AllIn xs l.stood) (sym fresh.took) (All-nil (Contains l.stood));
      up = subst (λ (u : List Up). Each (IsOfStood l.stood) u) (sym fresh.up) tt;
      current = subst (λ (f : SentFragment). IsOfLanes false l.lanes l.stood l.last_id f) (sym fresh.current)
          (of_lanes_sent l.lanes l.stood l.last_id fresh.ids);
      reported = subst (λ (f : SentFragment). IsOfLanes true l.lanes l.stood l.last_id f) (sym fresh.reported)
          (of_lanes_reported l.lanes l.stood l.last_id fresh.ids);
    }
