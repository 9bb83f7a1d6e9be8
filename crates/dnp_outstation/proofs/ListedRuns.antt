-- Rows of a lane that go on as those that stand last: how far a loop has found them to, where the rows that are put come to, and
-- what a call that puts them all makes of a writer.
use Rattle.std.proofs.Common.{◌≡◌, ◌≤◌, ◌<◌, ◌+◌, ◌-◌, ◌^◌, min, ℕ, zero, suc, Bool, true, cond, ◌&&◌, ◌==◌, refl, sym, ◌∙◌, ap, subst, List, [], ◌∷◌, ◌++◌, length, take, drop, map, append_assoc, take_all, take-append-drop, arith, Option, Some}
use Rattle.std.specs.Prelude.{slice_get, slice_set}
use Rattle.std.specs.List.{All, fold}
use Rattle.std.proofs.lemmas.Bool.{eq-eqb}
use Rattle.std.proofs.lemmas.List.{set-set}
use Rattle.std.proofs.lemmas.List.Elements.{All-head, All-tail, All-nil, All-cons, All-map}
use Rattle.dnp_objects.specs.Equality.{kind_eq}
use Rattle.dnp_objects.specs.declared.row.Kind.TheVariants.{Binary}
use Rattle.dnp_objects.specs.declared.row.Row.{Row}
use Rattle.dnp_appfragment.specs.Built.{with_objects, objects_put}
use Rattle.dnp_eventbuf.specs.declared.numbered.Numbered.{Numbered}
use Rattle.dnp_outstation.specs.declared.offer.grouping.Waiting.{Waiting}
use Rattle.dnp_outstation.specs.declared.offer.place.ReadPlace.{ReadPlace}
use Rattle.dnp_outstation.specs.declared.offer.writer.Writer.{Writer}
use Rattle.dnp_outstation.specs.Forms.{is_in_reach, told_after, told_by}
use Rattle.dnp_outstation.specs.Items.{event_of, given_after, place_after}
use Rattle.dnp_outstation.specs.Layout.{Laid}
use Rattle.dnp_outstation.specs.steps.Grouping.{Marked, mark, marked, laid_from, open_in, waiting_items}
use Rattle.dnp_outstation.specs.steps.Putting.{PutsFirst, StopsIn, GoOn, passed_rows}
use Rattle.dnp_outstation.proofs.PutLists.{Stands, CommonStays, CanTell, said, rows_in, listed, map-append, list_first, list_stops}

-- ---- which of them go on so

-- in a group each that is in reach
pub group_goes : (v : Waiting) (header : ℕ) (is_open : Bool) (lane common : ℕ) (own left : List Numbered)
    → ((x : Numbered) → (kind_eq x.row.kind Binary && is_in_reach (Some common) x.row.time) ≡ true → (more : List Marked)
    → laid_from (open_in v) (marked is_open (event_of header lane x) ∷ more)
    ≡ told_after common (event_of header lane x) ∷ laid_from (open_in v) more)
    → All (λ (x : Numbered). (kind_eq x.row.kind Binary && is_in_reach (Some common) x.row.time) ≡ true) own
    → GoOn v header is_open lane (Some common) own left
group_goes v header is_open lane common [] left laid near more = refl
group_goes v header is_open lane common (x ∷ xs) left laid near more =
    let e = event_of header lane in
    let P : Numbered → Type 0 = λ x. (kind_eq x.row.kind Binary && is_in_reach (Some common) x.row.time) ≡ true in
    laid x (All-head P x xs near) (mark is_open (map e (xs ++ left)) ++ more)
    ∙ ap (λ (l : List Laid). told_after common (e x) ∷ l) (group_goes v header is_open lane common xs left laid (All-tail P x xs near) more)

-- one more goes on so
pub goes_further : (v : Waiting) (header : ℕ) (is_open : Bool) (lane : ℕ) (told : Option ℕ) (own : List Numbered) (x : Numbered) (after : List Numbered)
    → GoOn v header is_open lane told own (x ∷ after)
    → ((more : List Marked) → laid_from (open_in v) (mark is_open (map (event_of header lane) (x ∷ after)) ++ more)
    ≡ told_by told (event_of header lane x) ∷ laid_from (open_in v) (mark is_open (map (event_of header lane) after) ++ more))
    → GoOn v header is_open lane told (own ++ x ∷ []) after
goes_further v header is_open lane told own x after goes laid more =
    let e = event_of header lane in
    let rest : List Laid = laid_from (open_in v) (mark is_open (map e after) ++ more) in
    ap (λ (l : List Numbered). laid_from (open_in v) (mark is_open (map e l) ++ more)) (append_assoc own (x ∷ []) after)
    ∙ goes more
    ∙ ap (λ (l : List Laid). map (told_by told) (map e own) ++ l) (laid more)
    ∙ sym (append_assoc (map (told_by told) (map e own)) (told_by told (e x) ∷ []) rest)
    ∙ ap (λ (l : List Laid). l ++ rest) (sym (ap (map (told_by told)) (map-append e own (x ∷ [])) ∙ map-append (told_by told) (map e own) (e x ∷ [])))

-- ---- where the rows come to

abbrev last_row : Numbered → List Numbered → Numbered
last_row x [] = x
last_row x (y ∷ ys) = last_row y ys

last_get : (x : Numbered) (xs : List Numbered) → slice_get (x ∷ xs) (length xs) ≡ Some (last_row x xs)
last_get x [] = refl
last_get x (y ∷ ys) = last_get y ys

ids_are : (ids : List ℕ) (header lane : ℕ) (x : Numbered) (xs : List Numbered)
    → fold given_after ids (map (event_of header lane) (x ∷ xs)) ≡ slice_set ids lane (last_row x xs).id
ids_are ids header lane x [] = refl
ids_are ids header lane x (y ∷ ys) =
    ids_are (slice_set ids lane x.id) header lane y ys ∙ set-set ids lane x.id (last_row y ys).id

place_is : (p : ReadPlace) (header lane : ℕ) (x : Numbered) (xs : List Numbered) → p.header ≡ header
    → fold place_after p (map (event_of header lane) (x ∷ xs))
    ≡ record { header = header; count = min (p.count + length (x ∷ xs)) (2 ^ 32 - 1); given = slice_set p.given lane (last_row x xs).id }
place_is p header lane x [] under =
    (λ i. record { header = header; count = min (cond (eq-eqb p.header header under i) p.count 0 + 1) (2 ^ 32 - 1); given = slice_set p.given lane x.id })
place_is p header lane x (y ∷ ys) under =
    place_is (place_after p (event_of header lane x)) header lane y ys refl
    ∙ (λ i. record { header = header; count = counts i; given = set-set p.given lane x.id (last_row y ys).id i })
  where
    counts : min (min (cond (p.header == header) p.count 0 + 1) (2 ^ 32 - 1) + length (y ∷ ys)) (2 ^ 32 - 1) ≡ min (p.count + length (x ∷ y ∷ ys)) (2 ^ 32 - 1)
    counts =
        ap (λ (b : Bool). min (min (cond b p.count 0 + 1) (2 ^ 32 - 1) + length (y ∷ ys)) (2 ^ 32 - 1)) (eq-eqb p.header header under)
        ∙ omega arith

some_same : {A : Type 0} (x y : A) → Some x ≡ Some y → x ≡ y
some_same x y is = cc

-- the last of them is the one that the slice gives
pub passed_is : (w : Writer) (lane : ℕ) (rows : List Numbered) (last : Numbered) (count : ℕ) → Some last ≡ slice_get rows (length rows - 1)
    → count ≡ min (w.place.count + min (length rows) (2 ^ 32 - 1)) (2 ^ 32 - 1)
    → record w {
      place = record w.place { count = count; given = slice_set w.place.given lane last.id };
      upto = slice_set w.upto lane last.id;
    } ≡ passed_rows w w.place.header lane rows
passed_is w lane [] last count there is = cc
passed_is w lane (x ∷ xs) last count there is = sym (λ i. record w { place = place i; upto = upto i })
  where
    before : length (x ∷ xs) - 1 ≡ length xs
    before = omega arith

    same : last_row x xs ≡ last
    same = some_same (last_row x xs) last (sym (last_get x xs) ∙ ap (slice_get (x ∷ xs)) (sym before) ∙ sym there)

    counted : min (w.place.count + length (x ∷ xs)) (2 ^ 32 - 1) ≡ count
    counted = omega arith

    place : fold place_after w.place (map (event_of w.place.header lane) (x ∷ xs))
        ≡ record w.place { count = count; given = slice_set w.place.given lane last.id }
    place = place_is w.place w.place.header lane x xs refl
        ∙ (λ i. record { header = w.place.header; count = counted i; given = slice_set w.place.given lane (same i).id })

    upto : fold given_after w.upto (map (event_of w.place.header lane) (x ∷ xs)) ≡ slice_set w.upto lane last.id
    upto = ids_are w.upto w.place.header lane x xs ∙ ap (λ (y : Numbered). slice_set w.upto lane y.id) same

-- ---- the rows that a loop has come past

pub record Next (n : ℕ) (rows : List Numbered) (x : Numbered) (after : List Numbered) : Type 0 where
  pub taken : take (n + 1) rows ≡ take n rows ++ x ∷ []
  pub rest : after ≡ drop (n + 1) rows
  pub few : n + 1 ≤ length rows

next_of : (n : ℕ) (rows : List Numbered) (x : Numbered) (after : List Numbered) → drop n rows ≡ x ∷ after
    → (take (suc n) rows ≡ take n rows ++ x ∷ []) × (after ≡ drop (suc n) rows) × (suc n ≤ length rows)
next_of zero [] x after is = cc
next_of zero (y ∷ ys) x after is =
    let first : y ≡ x = cc in let others : ys ≡ after = cc in
    (ap (λ (z : Numbered). z ∷ []) first, sym others, omega arith)
next_of (suc n) [] x after is = cc
next_of (suc n) (y ∷ ys) x after is =
    let rest = next_of n ys x after is in (ap (λ (l : List Numbered). y ∷ l) rest.0, rest.1, (let few = rest.2 in omega arith))

pub next_is : (n : ℕ) (rows rest : List Numbered) (x : Numbered) (after : List Numbered) → rest ≡ drop n rows → rest ≡ x ∷ after → Next n rows x after
next_is n rows rest x after left is =
    let next = next_of n rows x after (sym left ∙ is) in
    let one : suc n ≡ n + 1 = omega arith in
    record {
      taken = subst (λ (m : ℕ). take m rows ≡ take n rows ++ x ∷ []) one next.0;
      rest = subst (λ (m : ℕ). after ≡ drop m rows) one next.1;
      few = let few = next.2 in omega arith;
    }

-- what is so of those before it and of itself
pub all_next : (P : Numbered → Type 0) (n : ℕ) (rows : List Numbered) (x : Numbered) (after : List Numbered) → Next n rows x after
    → All P (take n rows) → P x → All P (take (n + 1) rows)
all_next P n rows x after next all here = subst (λ (l : List Numbered). All P l) (sym next.taken) (snoc (take n rows) all)
  where
    snoc : (xs : List Numbered) → All P xs → All P (xs ++ x ∷ [])
    snoc [] all = All-cons P x [] here (All-nil P)
    snoc (y ∷ ys) all = All-cons P y (ys ++ x ∷ []) (All-head P y ys all) (snoc ys (All-tail P y ys all))

pub goes_next : (v : Waiting) (header : ℕ) (is_open : Bool) (lane : ℕ) (told : Option ℕ) (n : ℕ) (rows rest : List Numbered) (x : Numbered)
    (after : List Numbered) → rest ≡ drop n rows → rest ≡ x ∷ after → Next n rows x after → GoOn v header is_open lane told (take n rows) (drop n rows)
    → ((more : List Marked) → laid_from (open_in v) (mark is_open (map (event_of header lane) (x ∷ after)) ++ more)
    ≡ told_by told (event_of header lane x) ∷ laid_from (open_in v) (mark is_open (map (event_of header lane) after) ++ more))
    → GoOn v header is_open lane told (take (n + 1) rows) (drop (n + 1) rows)
goes_next v header is_open lane told n rows rest x after left is next goes laid =
    subst (λ (p : List Numbered × List Numbered). GoOn v header is_open lane told p.0 p.1) (λ i. (sym next.taken i, next.rest i))
    (goes_further v header is_open lane told (take n rows) x after
    (subst (λ (l : List Numbered). GoOn v header is_open lane told (take n rows) l) (sym left ∙ is) goes) laid)

-- ---- the same of what the calls have found

pub all_rows : (P : Row → Type 0) (n : ℕ) (rows own : List Numbered) → own ≡ take n rows → All (λ (x : Numbered). P x.row) (take n rows) → All P (rows_in own)
all_rows P n rows own is all =
    All-map P (λ (x : Numbered). x.row) own (subst (λ (l : List Numbered). All (λ (x : Numbered). P x.row) l) (sym is) all)

-- so many rows of a slice, those that go on so, and how many of them the builder put
pub record IsListed (w w' : Writer) (header : ℕ) (is_open : Bool) (lane : ℕ) (told : Option ℕ) (n : ℕ) (rows own left : List Numbered) (count : ℕ)
    : Type 0 where
  pub stands : Stands w header lane told
  pub own_is : own ≡ take n rows
  pub left_is : left ≡ drop n rows
  pub tells : CanTell told (take n rows)
  pub goes : GoOn w.waiting header is_open lane told (take n rows) (drop n rows)
  pub put : count ≡ objects_put w.builder (said told own)
  pub few : count ≤ length (rows_in own)
  pub is : w' ≡ listed w (with_objects w.builder (said told own)) header lane (take count own)

rows_long : (xs : List Numbered) → length (rows_in xs) ≡ length xs
rows_long [] = refl
rows_long (x ∷ xs) = ap (λ (n : ℕ). suc n) (rows_long xs)

whole_is : (n : ℕ) (rows own left : List Numbered) → own ≡ take n rows → left ≡ drop n rows → own ++ left ≡ rows
whole_is n rows own left own_is left_is = (λ i. own_is i ++ left_is i) ∙ take-append-drop n rows

pub listed_first : CommonStays → (w w' : Writer) (header : ℕ) (is_open : Bool) (lane : ℕ) (told : Option ℕ) (n : ℕ) (rows own left : List Numbered) (count : ℕ)
    → IsListed w w' header is_open lane told n rows own left count → waiting_items w.waiting ≡ [] → length own ≤ count
    → PutsFirst w header is_open lane rows left w'
listed_first law w w' header is_open lane told n rows own left count l none all =
    let many = rows_long own in
    let count_is : count ≡ length own = omega (arith, l.few) in
    subst (λ (whole : List Numbered). PutsFirst w header is_open lane whole left w') (whole_is n rows own left l.own_is l.left_is)
    (list_first law w w' header is_open lane told own left l.stands none
    (subst (λ (xs : List Numbered). CanTell told xs) (sym l.own_is) l.tells)
    (subst (λ (p : List Numbered × List Numbered). GoOn w.waiting header is_open lane told p.0 p.1) (λ i. (sym l.own_is i, sym l.left_is i)) l.goes)
    (sym l.put ∙ count_is)
    (l.is ∙ ap (λ (xs : List Numbered). listed w (with_objects w.builder (said told own)) header lane xs) (take_all count own all)))

pub listed_stops : CommonStays → (w w' : Writer) (header : ℕ) (is_open : Bool) (lane : ℕ) (told : Option ℕ) (n : ℕ) (rows own left : List Numbered) (count : ℕ)
    → IsListed w w' header is_open lane told n rows own left count → count < length own → StopsIn w header is_open lane rows w'
listed_stops law w w' header is_open lane told n rows own left count l few =
    subst (λ (whole : List Numbered). StopsIn w header is_open lane whole w') (whole_is n rows own left l.own_is l.left_is)
    (list_stops law w w' header is_open lane told own left count l.stands
    (subst (λ (p : List Numbered × List Numbered). GoOn w.waiting header is_open lane told p.0 p.1) (λ i. (sym l.own_is i, sym l.left_is i)) l.goes)
    l.put few l.is)
