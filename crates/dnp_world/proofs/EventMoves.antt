-- The events through each move.
use Rattle.std.proofs.Common.{◌≡◌, ℕ, ◌<◌, ◌≤◌, ◌==◌, Bool, true, false, not, cond, ◌&&◌, List, [], ◌∷◌, ◌++◌, refl, sym, ap, ◌∙◌, subst, arith, append_assoc}
use Rattle.std.specs.List.{All, Contains, count_by, filter}
use Rattle.std.specs.List.Sorted.{IsPermutation}
use Rattle.std.proofs.lemmas.Bool.{and_parts}
use Rattle.std.proofs.lemmas.Bool.Decides.{Decides-eqb, nat_tests}
use Rattle.std.proofs.lemmas.List.Elements.{All-head, All-tail, All-append, All-push, All-weaker, All-filter, All-contains_itself}
use Rattle.std.proofs.lemmas.List.Sorted.{IsPermutation-trans, IsPermutation-append_left, IsPermutation-append_right, IsPermutation-append_comm, IsPermutation-filter_both, All-permutation}
use Rattle.dnp_eventbuf.specs.Buffered.{Buffered, is_named, is_upto}
use Rattle.dnp_world.specs.Lists.{Each, IsEnd}
use Rattle.dnp_world.specs.LawLink.{SentFragment, Reports, Responds, Up, fragment_of}
use Rattle.dnp_world.specs.Moves.{IsOffered, nothing_reported, nothing_sent, released, taken}
use Rattle.dnp_world.specs.Standing.{AllIn, Events, Inventory, IsOfLanes, IsOfStood}
use Rattle.dnp_world.proofs.Lists.{each_both, each_end, each_weaker}
use Rattle.dnp_world.proofs.Counting.{count_by-append, count_by-cons, one_if}
use Rattle.dnp_world.proofs.Exchanges.{more_taken}
use Rattle.dnp_world.proofs.Offers.{all_left, of_lanes_appended, of_lanes_fewer, of_lanes_offered, of_lanes_reported, of_lanes_sent, same_permutation}

-- ---- the parts of what stood

-- the last two of three parts change places
last_two : {X : Type 0} (a b c : List X) → IsPermutation ((a ++ b) ++ c) ((a ++ c) ++ b)
last_two a b c =
    IsPermutation-trans ((a ++ b) ++ c) (a ++ (b ++ c)) ((a ++ c) ++ b) (same_permutation ((a ++ b) ++ c) (a ++ (b ++ c)) (append_assoc a b c))
    (IsPermutation-trans (a ++ (b ++ c)) (a ++ (c ++ b)) ((a ++ c) ++ b)
    (IsPermutation-append_right a (b ++ c) (c ++ b) (IsPermutation-append_comm b c))
    (same_permutation (a ++ (c ++ b)) ((a ++ c) ++ b) (sym (append_assoc a c b))))

whole_appended : (stood lanes rest : List Buffered) (x : Buffered) → IsPermutation stood (lanes ++ rest) →
    IsPermutation (stood ++ x ∷ []) ((lanes ++ x ∷ []) ++ rest)
whole_appended stood lanes rest x h =
    IsPermutation-trans (stood ++ x ∷ []) ((lanes ++ rest) ++ x ∷ []) ((lanes ++ x ∷ []) ++ rest)
    (IsPermutation-append_left (x ∷ []) stood (lanes ++ rest) h) (last_two lanes rest (x ∷ []))

whole_dropped : (stood lanes stay gone released left : List Buffered) → IsPermutation lanes (stay ++ gone) →
    IsPermutation stood (lanes ++ (released ++ left)) → IsPermutation stood (stay ++ (released ++ (left ++ gone)))
whole_dropped stood lanes stay gone released left parts h =
    let rest : List Buffered = released ++ left in
    let joined : (stay ++ rest) ++ gone ≡ stay ++ (released ++ (left ++ gone)) =
    append_assoc stay rest gone ∙ ap (λ (l : List Buffered). stay ++ l) (append_assoc released left gone) in
    IsPermutation-trans stood (lanes ++ rest) (stay ++ (released ++ (left ++ gone))) h
    (IsPermutation-trans (lanes ++ rest) ((stay ++ gone) ++ rest) (stay ++ (released ++ (left ++ gone)))
    (IsPermutation-append_left rest lanes (stay ++ gone) parts)
    (IsPermutation-trans ((stay ++ gone) ++ rest) ((stay ++ rest) ++ gone) (stay ++ (released ++ (left ++ gone))) (last_two stay gone rest)
    (same_permutation ((stay ++ rest) ++ gone) (stay ++ (released ++ (left ++ gone))) joined)))

whole_released : (stood lanes stay go released left : List Buffered) → IsPermutation lanes (go ++ stay) →
    IsPermutation stood (lanes ++ (released ++ left)) → IsPermutation stood (stay ++ ((released ++ go) ++ left))
whole_released stood lanes stay go released left parts h =
    let rest : List Buffered = released ++ left in
    let turned : IsPermutation lanes (stay ++ go) = IsPermutation-trans lanes (go ++ stay) (stay ++ go) parts (IsPermutation-append_comm go stay) in
    let inner : IsPermutation (go ++ rest) ((released ++ go) ++ left) =
    IsPermutation-trans (go ++ rest) ((go ++ released) ++ left) ((released ++ go) ++ left)
    (same_permutation (go ++ rest) ((go ++ released) ++ left) (sym (append_assoc go released left)))
    (IsPermutation-append_left left (go ++ released) (released ++ go) (IsPermutation-append_comm go released)) in
    IsPermutation-trans stood (lanes ++ rest) (stay ++ ((released ++ go) ++ left)) h
    (IsPermutation-trans (lanes ++ rest) ((stay ++ go) ++ rest) (stay ++ ((released ++ go) ++ left))
    (IsPermutation-append_left rest lanes (stay ++ go) turned)
    (IsPermutation-trans ((stay ++ go) ++ rest) (stay ++ (go ++ rest)) (stay ++ ((released ++ go) ++ left))
    (same_permutation ((stay ++ go) ++ rest) (stay ++ (go ++ rest)) (append_assoc stay go rest))
    (IsPermutation-append_right stay (go ++ rest) ((released ++ go) ++ left) inner)))

-- ---- ids

none_over : (xs : List Buffered) (last_id id lane : ℕ) → last_id < id → All (λ x. (1 ≤ x.id) × (x.id ≤ last_id)) xs →
    count_by (is_named id lane) xs ≡ 0
none_over [] last_id id lane over h = refl
none_over (x ∷ xs) last_id id lane over h =
    let first : (1 ≤ x.id) × (x.id ≤ last_id) = All-head (λ y. (1 ≤ y.id) × (y.id ≤ last_id)) x xs h in
    let rest : count_by (is_named id lane) xs ≡ 0 = none_over xs last_id id lane over (All-tail (λ y. (1 ≤ y.id) × (y.id ≤ last_id)) x xs h) in
    let other : (x.id == id) ≡ false = grind (arith, nat_tests) in
    let none : one_if (is_named id lane) x ≡ 0 = ap {B = ℕ} (λ b. cond (b && (x.lane == lane)) 1 0) other in
    omega (arith, count_by-cons (is_named id lane) x xs, rest, none)

once_more : (stood : List Buffered) (last_id : ℕ) (x : Buffered) (id lane : ℕ) (b : Bool) → is_named id lane x ≡ b → last_id < x.id →
    All (λ y. (1 ≤ y.id) × (y.id ≤ last_id)) stood → count_by (is_named id lane) stood ≤ 1 → count_by (is_named id lane) (stood ++ x ∷ []) ≤ 1
once_more stood last_id x id lane true e newer ids h =
    let same : x.id ≡ id = (Decides-eqb x.id id).0 ((and_parts (x.id == id) (x.lane == lane) e).0) in
    let none : count_by (is_named id lane) stood ≡ 0 = none_over stood last_id id lane (omega (arith, newer, same)) ids in
    let one : one_if (is_named id lane) x ≡ 1 = ap {B = ℕ} (λ b. cond b 1 0) e in
    omega (arith, count_by-append (is_named id lane) stood (x ∷ []), count_by-cons (is_named id lane) x [], none, one)
once_more stood last_id x id lane false e newer ids h =
    let none : one_if (is_named id lane) x ≡ 0 = ap {B = ℕ} (λ b. cond b 1 0) e in
    omega (arith, count_by-append (is_named id lane) stood (x ∷ []), count_by-cons (is_named id lane) x [], none, h)

-- ---- each move

of_stood_more : (stood : List Buffered) (x : Buffered) (u : Up) → IsOfStood stood u → IsOfStood (stood ++ x ∷ []) u
of_stood_more stood x (Responds f) h = (more_taken f.rows stood (x ∷ []) h.0, h.1)
of_stood_more stood x (Reports f) h = (more_taken f.rows stood (x ∷ []) h.0, h.1)

of_stood_rows : (stood : List Buffered) (u : Up) → IsOfStood stood u → AllIn (fragment_of u).rows stood
of_stood_rows stood (Responds f) h = h.0
of_stood_rows stood (Reports f) h = h.0

pub rows_appended : (v : Inventory) (x : Buffered) → v.last_id < x.id → Events v →
    Events (record v { lanes = v.lanes ++ x ∷ []; last_id = x.id; stood = v.stood ++ x ∷ [] })
rows_appended v x newer r =
    record {
      whole = whole_appended v.stood v.lanes (v.released ++ v.left) x r.whole;
      once = λ id lane. once_more v.stood v.last_id x id lane (is_named id lane x) refl newer r.ids (r.once id lane);
      ids = All-push (λ y. (1 ≤ y.id) × (y.id ≤ x.id)) v.stood x
          (All-weaker (λ y. (1 ≤ y.id) × (y.id ≤ v.last_id)) (λ y. (1 ≤ y.id) × (y.id ≤ x.id))
          (λ y h. let most : y.id ≤ v.last_id = h.1 in (h.0, omega (arith, most, newer))) v.stood r.ids)
          (omega (arith, newer), omega arith);
      released = r.released;
      took = more_taken v.took v.stood (x ∷ []) r.took;
      up = each_weaker (IsOfStood v.stood) (IsOfStood (v.stood ++ x ∷ [])) (λ f h. of_stood_more v.stood x f h) v.up r.up;
      current = of_lanes_appended false v.lanes v.stood v.last_id v.current x newer r.current;
      reported = of_lanes_appended true v.lanes v.stood v.last_id v.reported x newer r.reported;
    }

pub rows_dropped : (v : Inventory) (stay gone : List Buffered) → IsPermutation v.lanes (stay ++ gone) → Events v →
    Events (record v { lanes = stay; left = v.left ++ gone })
rows_dropped v stay gone parts r =
    let less : (P : Buffered → Type 0) → All P v.lanes →
    All P stay = λ P h. all_left P stay gone (All-permutation P v.lanes (stay ++ gone) parts h) in
    record {
      whole = whole_dropped v.stood v.lanes stay gone v.released v.left parts r.whole;
      once = r.once;
      ids = r.ids;
      released = r.released;
      took = r.took;
      up = r.up;
      current = of_lanes_fewer false v.lanes stay v.stood v.last_id v.current less r.current;
      reported = of_lanes_fewer true v.lanes stay v.stood v.last_id v.reported less r.reported;
    }

pub rows_released : (v : Inventory) (upto : List ℕ) → AllIn (filter (is_upto upto) v.lanes) v.took → Events v →
    Events (record v { lanes = filter (λ x. not (is_upto upto x)) v.lanes; released = v.released ++ filter (is_upto upto) v.lanes })
rows_released v upto taken r =
    let p : Buffered → Bool = is_upto upto in
    let q : Buffered → Bool = λ x. not (is_upto upto x) in
    let less : (P : Buffered → Type 0) → All P v.lanes → All P (filter q v.lanes) = λ P h. All-filter q P v.lanes h in
    record {
      whole = whole_released v.stood v.lanes (filter q v.lanes) (filter p v.lanes) v.released v.left
          (IsPermutation-filter_both p q (λ x. refl) v.lanes) r.whole;
      once = r.once;
      ids = r.ids;
      released = All-append (Contains v.took) v.released (filter p v.lanes) r.released taken;
      took = r.took;
      up = r.up;
      current = of_lanes_fewer false v.lanes (filter q v.lanes) v.stood v.last_id v.current less r.current;
      reported = of_lanes_fewer true v.lanes (filter q v.lanes) v.stood v.last_id v.reported less r.reported;
    }

lanes_stood : (v : Inventory) → Events v → AllIn v.lanes v.stood
lanes_stood v r =
    all_left (Contains v.stood) v.lanes (v.released ++ v.left)
    (All-permutation (Contains v.stood) v.stood (v.lanes ++ (v.released ++ v.left)) r.whole (All-contains_itself v.stood))

-- other fragments are on the way up, and others are current
rows_up : (v : Inventory) (up : List Up) (current reported : SentFragment) → Each (IsOfStood v.stood) up → IsOfLanes false v.lanes v.stood v.last_id current
    → IsOfLanes true v.lanes v.stood v.last_id reported → Events v → Events (record v { up = up; current = current; reported = reported })
rows_up v up current reported there sent says r =
    record { whole = r.whole; once = r.once; ids = r.ids; released = r.released; took = r.took; up = there; current = sent; reported = says }

pub rows_sent : (v : Inventory) (f : SentFragment) → IsOffered false v.lanes v.last_id f → Events v →
    Events (record v { up = v.up ++ Responds f ∷ []; current = f })
rows_sent v f o r =
    let new : IsOfLanes false v.lanes v.stood v.last_id f = of_lanes_offered false v.lanes v.stood v.last_id f (lanes_stood v r) o in
    rows_up v (v.up ++ Responds f ∷ []) f v.reported (each_both (IsOfStood v.stood) v.up (Responds f ∷ []) r.up ((new.rows, new.says), tt)) new r.reported r

pub rows_reported : (v : Inventory) (f : SentFragment) → IsOffered true v.lanes v.last_id f → Events v →
    Events (record v { up = v.up ++ Reports f ∷ []; reported = f })
rows_reported v f o r =
    let new : IsOfLanes true v.lanes v.stood v.last_id f = of_lanes_offered true v.lanes v.stood v.last_id f (lanes_stood v r) o in
    rows_up v (v.up ++ Reports f ∷ []) v.current f (each_both (IsOfStood v.stood) v.up (Reports f ∷ []) r.up ((new.rows, new.says), tt)) r.current new r

-- a fragment goes up, whose rows stood
pub rows_again : (v : Inventory) (f : Up) → IsOfStood v.stood f → Events v → Events (record v { up = v.up ++ f ∷ [] })
rows_again v f there r =
    rows_up v (v.up ++ f ∷ []) v.current v.reported (each_both (IsOfStood v.stood) v.up (f ∷ []) r.up (there, tt)) r.current r.reported r

pub rows_lost : (v : Inventory) (up : List Up) → IsEnd up v.up → Events v → Events (record v { up = up })
rows_lost v up k r = rows_up v up v.current v.reported (each_end (IsOfStood v.stood) up v.up k r.up) r.current r.reported r

pub rows_taken : (v : Inventory) (f : Up) (rest : List Up) → v.up ≡ f ∷ rest → Events v → Events (record v { took = v.took ++ (fragment_of f).rows })
rows_taken v f rest up_is r =
    let there : AllIn (fragment_of f).rows v.stood = of_stood_rows v.stood f ((subst (λ (u : List Up). Each (IsOfStood v.stood) u) up_is r.up).0) in
    record {
      whole = r.whole;
      once = r.once;
      ids = r.ids;
      released = more_taken v.released v.took (fragment_of f).rows r.released;
      took = All-append (Contains v.stood) v.took (fragment_of f).rows r.took there;
      up = r.up;
      current = r.current;
      reported = r.reported;
    }

pub lanes_ids : (v : Inventory) → Events v → All (λ x. (1 ≤ x.id) × (x.id ≤ v.last_id)) v.lanes
lanes_ids v r =
    all_left (λ x. (1 ≤ x.id) × (x.id ≤ v.last_id)) v.lanes (v.released ++ v.left)
    (All-permutation (λ x. (1 ≤ x.id) × (x.id ≤ v.last_id)) v.stood (v.lanes ++ (v.released ++ v.left)) r.whole r.ids)

pub rows_opened : (v : Inventory) → Events v → Events (record v { up = []; current = nothing_sent; reported = nothing_reported })
rows_opened v r =
    rows_up v [] nothing_sent nothing_reported tt (of_lanes_sent v.lanes v.stood v.last_id (lanes_ids v r))
    (of_lanes_reported v.lanes v.stood v.last_id (lanes_ids v r)) r
