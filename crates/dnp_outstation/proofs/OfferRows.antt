-- Rows of lanes that a READ gives.
use Rattle.std.proofs.Common.{◌≡◌, ℕ, ◌<◌, suc, zero, Bool, true, false, cond, List, [], ◌∷◌, ◌++◌, length, take, filter, map, max, get_or, nat_lt, nat_le}
use Rattle.std.proofs.Common.{refl, ap, sym, ◌∙◌, arith, Option, None, Some, IfSome, ◌+◌, ◌-◌, ◌≤◌, drop, subst}
use Rattle.std.specs.List.{All, AllPairs}
use Rattle.std.proofs.lemmas.Bool.{le-leb, ltb-true, ltb-false}
use Rattle.std.proofs.lemmas.Bool.Decides.{nat_tests}
use Rattle.std.proofs.lemmas.List.Elements.{All-filter, All-take, All-weaker}
use Rattle.std.proofs.lemmas.List.Kept.{AllPairs-filter}
use Rattle.std.proofs.lemmas.List.{length-take, get_or-take, take_all, take-append-drop, map-append}
use Rattle.dnp_eventbuf.specs.declared.numbered.Numbered.{Numbered}
use Rattle.dnp_eventbuf.specs.EventBuffer.{EventBuffer, lane_at, offered, without}
use Rattle.dnp_eventbuf.specs.FitsLane.{FitsLane}
use Rattle.dnp_eventbuf.specs.Sound.{IsSoundBuffer}
use Rattle.dnp_objects.specs.Lanes.{lane_number}
use Rattle.dnp_objects.specs.declared.lane.Lane.{Lane}
use Rattle.dnp_objects.specs.declared.limits.TheConstants.{LANES}
use Rattle.dnp_outstation.specs.declared.offer.writer.Writer.{Writer}
use Rattle.dnp_outstation.specs.Items.{Item, event_of, at_most, rows_left}
use Rattle.dnp_outstation.specs.steps.Filling.{after_release, over_of, fill, ended}
use Rattle.dnp_outstation.specs.steps.Grouping.{Marked, marked, mark}
use Rattle.dnp_outstation.specs.steps.Putting.{Puts}
use Rattle.dnp_outstation.proofs.OfferPresent.{puts_full}

take_none : (n : ℕ) → take n (let none : List Numbered = [] in none) ≡ []
take_none zero = refl
take_none (suc n) = refl

-- ---- rows that stood in the lanes

abbrev pub stood_at : ℕ → Numbered → Bool
stood_at stood x = nat_le x.id stood

abbrev pub Rises : List Numbered → Type 0
Rises rows = AllPairs (λ (x y : Numbered). x.id < y.id) rows

came_after : (id stood : ℕ) → stood < id → nat_le id stood ≡ false
came_after id stood after = grind (arith, nat_tests)

-- none of the rows stood where all have ids over it
none_stood : (stood : ℕ) (rows : List Numbered) → ((k : ℕ) (d : Numbered) → k < length rows → stood < (get_or rows k d).id) → filter (stood_at stood) rows ≡ []
none_stood stood [] after = refl
none_stood stood (x ∷ xs) after =
    ap (λ (b : Bool). cond b (x ∷ filter (stood_at stood) xs) (filter (stood_at stood) xs)) (came_after x.id stood (after 0 x (omega arith)))
    ∙ none_stood stood xs (λ k d less. after (suc k) d (omega arith))

-- where ids rise, the first so many of those that stood are those that stood of the first so many
cut_stood : (stood n : ℕ) (rows : List Numbered) → Rises rows → filter (stood_at stood) (take n rows) ≡ take n (filter (stood_at stood) rows)
cut_stood stood zero [] rising = refl
cut_stood stood (suc n) [] rising = refl
cut_stood stood zero (x ∷ xs) rising = refl
cut_stood stood (suc n) (x ∷ xs) rising =
    by_test (nat_le x.id stood) refl (cut_stood stood n xs (λ i j d low high. rising (suc i) (suc j) d (omega arith) (omega arith)))
  where
    by_test : (b : Bool) → nat_le x.id stood ≡ b → filter (stood_at stood) (take n xs) ≡ take n (filter (stood_at stood) xs)
        → cond b (x ∷ filter (stood_at stood) (take n xs)) (filter (stood_at stood) (take n xs))
        ≡ take (suc n) (cond b (x ∷ filter (stood_at stood) xs) (filter (stood_at stood) xs))
    by_test true is rest = ap (λ (l : List Numbered). x ∷ l) rest
    by_test false is rest =
        let none : filter (stood_at stood) xs ≡ [] = none_stood stood xs
        (λ k d less. let higher = rising 0 (suc k) d (omega arith) (omega arith) in grind (arith, nat_tests)) in
        rest ∙ ap (take n) none ∙ take_none n ∙ sym (ap (take (suc n)) none)

-- all of them did, where all ids are up to it
all_stood : (stood : ℕ) (rows : List Numbered) → ((k : ℕ) (d : Numbered) → k < length rows → (get_or rows k d).id ≤ stood) → filter (stood_at stood) rows ≡ rows
all_stood stood [] each = refl
all_stood stood (x ∷ xs) each =
    ap (λ (b : Bool). cond b (x ∷ filter (stood_at stood) xs) (filter (stood_at stood) xs)) (le-leb x.id stood (each 0 x (omega arith)))
    ∙ ap (λ (l : List Numbered). x ∷ l) (all_stood stood xs (λ k d less. each (suc k) d (omega arith)))

-- so where ids rise, and the last one did
pub last_stood : (stood : ℕ) (rows : List Numbered) → ((d : Numbered) → 0 < length rows → (get_or rows (length rows - 1) d).id ≤ stood) → Rises rows
    → filter (stood_at stood) rows ≡ rows
last_stood stood rows last rising = all_stood stood rows (λ k d less. by k d less (nat_lt k (length rows - 1)) refl)
  where
    by : (k : ℕ) (d : Numbered) → k < length rows → (b : Bool) → nat_lt k (length rows - 1) ≡ b → (get_or rows k d).id ≤ stood
    by k d less true before =
        let under = ltb-true k (length rows - 1) before in
        let end = last d (omega arith) in let low = rising k (length rows - 1) d (omega arith) (omega arith) in omega arith
    by k d less false before =
        let same : k ≡ length rows - 1 = omega (arith, less, ltb-false k (length rows - 1) before) in
        let end = last d (omega arith) in subst (λ (n : ℕ). (get_or rows n d).id ≤ stood) (sym same) end

-- ---- rows that are left after a release

pub left_after : (s : EventBuffer) (upto : List ℕ) (number after over : ℕ)
    → ((most : ℕ) → offered (without s upto) number after most ≡ offered s number over most)
    → filter (λ x. nat_lt after x.id) (lane_at (without s upto) number).rows ≡ filter (λ x. nat_lt over x.id) (lane_at s number).rows
left_after s upto number after over law =
    let old : List Numbered = filter (λ x. nat_lt over x.id) (lane_at s number).rows in
    let new : List Numbered = filter (λ x. nat_lt after x.id) (lane_at (without s upto) number).rows in
    sym (take_all (length old + length new) new (omega arith)) ∙ law (length old + length new) ∙ take_all (length old + length new) old (omega arith)

-- the rows over an id that stood, at most so many, are those that a header may still give
pub rows_given : (s : EventBuffer) (released : Option (List ℕ)) (stood : ℕ) (given : List ℕ) (number : ℕ) (most : Option ℕ) → IsSoundBuffer s → number < LANES
    → IfSome released (λ upto. length upto ≡ LANES)
    → ((t : EventBuffer) (upto : List ℕ) (n after limit : ℕ) → length upto ≡ length t.lanes → n < length t.lanes → offered (without t upto) n after limit
    ≡ offered t n (max after (get_or upto n 0)) limit)
    → filter (stood_at stood) (at_most most (filter (λ x. nat_lt (over_of given released number) x.id) (lane_at s number).rows))
    ≡ at_most most (rows_left (after_release s released) stood given number)
rows_given s released stood given number most sound low nine law =
    by_limit most ∙ ap (λ (rows : List Numbered). at_most most (filter (stood_at stood) rows)) (by_release released nine)
  where
    left : List Numbered
    left = filter (λ x. nat_lt (over_of given released number) x.id) (lane_at s number).rows

    by_limit : (m : Option ℕ) → filter (stood_at stood) (at_most m left) ≡ at_most m (filter (stood_at stood) left)
    by_limit None = refl
    by_limit (Some n) = cut_stood stood n left
        (AllPairs-filter (λ (x y : Numbered). x.id < y.id) (λ x. nat_lt (over_of given released number) x.id) (lane_at s number).rows
        (sound.each number low).rising)

    by_release : (r : Option (List ℕ)) → IfSome r (λ upto. length upto ≡ LANES)
        → filter (λ x. nat_lt (over_of given r number) x.id) (lane_at s number).rows
        ≡ filter (λ x. nat_lt (get_or given number 0) x.id) (lane_at (after_release s r) number).rows
    by_release None nine = refl
    by_release (Some upto) nine =
        sym (left_after s upto number (get_or given number 0) (over_of given (Some upto) number)
        (λ limit. law s upto number (get_or given number 0) limit (nine ∙ sym sound.nine) (omega (arith, sound.nine))))

-- ---- the first rows of a lane

pub lane_kinds : (s : EventBuffer) (lane : Lane) (after most : ℕ) → IsSoundBuffer s → lane_number lane < LANES
    → All (λ x. x.row.kind ≡ lane.kind) (offered s (lane_number lane) after most)
lane_kinds s lane after most sound low =
    let P : Numbered → Type 0 = λ x. x.row.kind ≡ lane.kind in
    let rows : List Numbered = (lane_at s (lane_number lane)).rows in
    All-take P most (filter (λ x. nat_lt after x.id) rows)
    (All-filter (λ (x : Numbered). nat_lt after x.id) P rows
    (All-weaker (λ (x : Numbered). FitsLane (record { lane = lane; row = x.row })) P (λ x h. h.of_its_kind) rows
    ((sound.each (lane_number lane) low).carried lane refl)))

-- their ids rise
pub rises_offered : (s : EventBuffer) (number after most : ℕ) → IsSoundBuffer s → number < LANES → Rises (offered s number after most)
rises_offered s number after most sound low =
    let rows : List Numbered = filter (λ x. nat_lt after x.id) (lane_at s number).rows in
    let whole : Rises rows = AllPairs-filter (λ (x y : Numbered). x.id < y.id) (λ x. nat_lt after x.id) (lane_at s number).rows (sound.each number low).rising in
    λ i j d before within.
    let long = length-take most rows in
    let first = get_or-take most rows i d (omega arith) in
    let second = get_or-take most rows j d (omega arith) in
    let risen = whole i j d before (omega arith) in
    subst (λ (x : Numbered). x.id < (get_or (take most rows) j d).id) (sym first) (subst (λ (y : Numbered). (get_or rows i d).id < y.id) (sym second) risen)

-- where the first of them don't all fit, neither do they
pub lane_full : (w w' : Writer) (fit is_open : Bool) (header lane lane' few : ℕ) (all rows : List Numbered) (more : List Marked)
    → lane' ≡ lane → rows ≡ take few all → Puts w (mark is_open (map (event_of header lane') rows)) fit w' → fit ≡ false
    → fill w (mark is_open (map (event_of header lane) all) ++ more) ≡ ended false w'
lane_full w w' fit is_open header lane lane' few all rows more same is put full =
    let e : Numbered → Item = event_of header lane in
    let rest : List Marked = mark is_open (map e (drop few all)) in
    ap (λ (xs : List Numbered). fill w (mark is_open (map e xs) ++ more)) (sym (take-append-drop few all))
    ∙ ap (λ (xs : List Item). fill w (mark is_open xs ++ more)) (map-append e (take few all) (drop few all))
    ∙ ap (λ (xs : List Marked). fill w (xs ++ more)) (map-append (marked is_open) (map e (take few all)) (map e (drop few all)))
    ∙ ap (λ (xs : List Numbered). fill w ((mark is_open (map e xs) ++ rest) ++ more)) (sym is)
    ∙ ap (λ (n : ℕ). fill w ((mark is_open (map (event_of header n) rows) ++ rest) ++ more)) (sym same)
    ∙ puts_full w w' fit (mark is_open (map (event_of header lane') rows)) rest more put full
