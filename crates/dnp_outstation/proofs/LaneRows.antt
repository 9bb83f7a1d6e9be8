-- The rows of one lane among the items of a READ, and the last ids after them.
use Rattle.std.proofs.Common.{◌≡◌, ◌⊎◌, inl, inr, Bool, true, false, cond, if◌then◌else◌, refl, sym, ◌∙◌, ap, subst, ℕ, ◌+◌, ◌<◌, ◌==◌, List, [], ◌∷◌, ◌++◌, map, drop, length, get_or, set, arith, Option, None, Some, append_assoc, append-nil, eq-eqb, ne_eqb}
use Rattle.std.specs.Prelude.{fold, slice_set, slice_index}
use Rattle.std.specs.List.{cons_option, filter}
use Rattle.std.proofs.lemmas.Bool.{cases_eq}
use Rattle.std.proofs.lemmas.List.{take-append-drop, get_or-set_same, get_or-set_other, length-set}
use Rattle.std.proofs.lemmas.List.Elements.{filter_map-append}
use Rattle.dnp_eventbuf.specs.declared.numbered.Numbered.{Numbered}
use Rattle.dnp_eventbuf.specs.EventBuffer.{EventBuffer, lane_at}
use Rattle.dnp_outstation.specs.Items.{Thing, Item, Source, Static, Part, at_most, less, rows_left, event_of, event_items, present_of, given_after, part_items, items_of}
use Rattle.dnp_outstation.specs.Items.Thing.{Event, Present}
use Rattle.dnp_outstation.specs.Items.Part.{RowsOf, StaticsOf}
use Rattle.dnp_outstation.specs.Laws.{row_in, rows_in_lane}
use Rattle.dnp_outstation.proofs.Rising.{Rising, last_or, over, upto, rising_filter, over_rest}

-- a list begins with another
pub record Starts {A : Type 0} (xs all : List A) : Type 0 where
  pub rest : List A
  pub is : all ≡ xs ++ rest

pub starts_all : {A : Type 0} (xs : List A) → Starts xs xs
starts_all xs = record { rest = []; is = sym (append-nil xs) }

pub starts_of_start : {A : Type 0} (xs ys zs : List A) → Starts xs ys → Starts ys zs → Starts xs zs
starts_of_start xs ys zs a b = record { rest = a.rest ++ b.rest; is = b.is ∙ ap (λ l. l ++ b.rest) a.is ∙ append_assoc xs a.rest b.rest }

-- ---- of one lane's rows

pub rows_at : (header lane number : ℕ) (rows : List Numbered) → number ≡ lane → rows_in_lane lane (map (event_of header number) rows) ≡ rows
rows_at header lane number [] same = refl
rows_at header lane number (x ∷ xs) same =
    ap (λ (b : Bool). cons_option (if b then Some x else None) (rows_in_lane lane (map (event_of header number) xs))) (eq-eqb number lane same)
    ∙ ap (λ (rest : List Numbered). x ∷ rest) (rows_at header lane number xs same)

pub rows_elsewhere : (header lane number : ℕ) (rows : List Numbered) → (number ≡ lane → ⊥) → rows_in_lane lane (map (event_of header number) rows) ≡ []
rows_elsewhere header lane number [] other = refl
rows_elsewhere header lane number (x ∷ xs) other =
    ap (λ (b : Bool). cons_option (if b then Some x else None) (rows_in_lane lane (map (event_of header number) xs))) (ne_eqb number lane other)
    ∙ rows_elsewhere header lane number xs other

no_rows : (header lane : ℕ) (statics : List Static) → rows_in_lane lane (map (present_of header) statics) ≡ []
no_rows header lane [] = refl
no_rows header lane (x ∷ xs) = no_rows header lane xs

-- ---- lanes that a header asks for

-- the lane is none of these
abbrev pub IsApart : ℕ → List ℕ → Type 0
IsApart lane [] = Unit {0}
IsApart lane (number ∷ numbers) = (number ≡ lane → ⊥) × IsApart lane numbers

-- the lane stands among these once at most
abbrev pub IsOnce : ℕ → List ℕ → Type 0
IsOnce lane [] = Unit {0}
IsOnce lane (number ∷ numbers) = (number ≡ lane → IsApart lane numbers) × IsOnce lane numbers

-- each of these numbers is below one
abbrev pub AreLow : ℕ → List ℕ → Type 0
AreLow n [] = Unit {0}
AreLow n (number ∷ numbers) = (number < n) × AreLow n numbers

starts_most : {A : Type 0} (most : Option ℕ) (xs : List A) → Starts (at_most most xs) xs
starts_most None xs = starts_all xs
starts_most (Some n) xs = record { rest = drop n xs; is = sym (take-append-drop n xs) }

apart_rows : (s : EventBuffer) (stood : ℕ) (given : List ℕ) (header : ℕ) (most : Option ℕ) (numbers : List ℕ) (lane : ℕ) → IsApart lane numbers
    → rows_in_lane lane (event_items s stood given header most numbers) ≡ []
apart_rows s stood given header most [] lane apart = refl
apart_rows s stood given header most (number ∷ numbers) lane apart =
    let rows = at_most most (rows_left s stood given number) in
    let more = event_items s stood given header (less most (length rows)) numbers in
    filter_map-append (row_in lane) (map (event_of header number) rows) more
    ∙ ap (λ (l : List Numbered). l ++ rows_in_lane lane more) (rows_elsewhere header lane number rows apart.0)
    ∙ apart_rows s stood given header (less most (length rows)) numbers lane apart.1

event_rows : (s : EventBuffer) (stood : ℕ) (given : List ℕ) (header : ℕ) (most : Option ℕ) (numbers : List ℕ) (lane : ℕ) → IsOnce lane numbers
    → Starts (rows_in_lane lane (event_items s stood given header most numbers)) (rows_left s stood given lane)
event_rows s stood given header most [] lane once = record { rest = rows_left s stood given lane; is = refl }
event_rows s stood given header most (number ∷ numbers) lane once =
    by (event_rows s stood given header (less most (length rows)) numbers lane once.1) (cases_eq number lane)
  where
    rows : List Numbered
    rows = at_most most (rows_left s stood given number)

    more : List Item
    more = event_items s stood given header (less most (length rows)) numbers

    split : rows_in_lane lane (map (event_of header number) rows ++ more) ≡ rows_in_lane lane (map (event_of header number) rows) ++ rows_in_lane lane more
    split = filter_map-append (row_in lane) (map (event_of header number) rows) more

    by : Starts (rows_in_lane lane more) (rows_left s stood given lane) → (number ≡ lane) ⊎ (number ≡ lane → ⊥)
        → Starts (rows_in_lane lane (map (event_of header number) rows ++ more)) (rows_left s stood given lane)
    by behind (inl same) =
        let e : rows_in_lane lane (map (event_of header number) rows ++ more) ≡ rows =
        split
        ∙ ap (λ (l : List Numbered). l ++ rows_in_lane lane more) (rows_at header lane number rows same)
        ∙ ap (λ (l : List Numbered). rows ++ l) (apart_rows s stood given header (less most (length rows)) numbers lane (once.0 same))
        ∙ append-nil rows
        in
        let most_rows : Starts rows (rows_left s stood given number) = starts_most most (rows_left s stood given number) in
        subst (λ (l : List Numbered). Starts l (rows_left s stood given lane)) (sym e)
        (subst (λ (k : ℕ). Starts rows (rows_left s stood given k)) same most_rows)
    by behind (inr other) =
        let e : rows_in_lane lane (map (event_of header number) rows ++ more) ≡ rows_in_lane lane more =
        split ∙ ap (λ (l : List Numbered). l ++ rows_in_lane lane more) (rows_elsewhere header lane number rows other)
        in
        subst (λ (l : List Numbered). Starts l (rows_left s stood given lane)) (sym e) behind

-- ---- the last ids after items

length_after : (given : List ℕ) (x : Item) → length (given_after given x) ≡ length given
length_after given x = go x.thing
  where
    go : (thing : Thing) → length (given_after given (record { header = x.header; thing = thing })) ≡ length given
    go (Event lane row) = length-set given lane row.id
    go (Present static) = refl

pub length_given : (given : List ℕ) (items : List Item) → length (fold given_after given items) ≡ length given
length_given given [] = refl
length_given given (x ∷ xs) = length_given (given_after given x) xs ∙ length_after given x

pub last_given : (given : List ℕ) (items : List Item) (lane : ℕ) → lane < length given
    → slice_index (fold given_after given items) lane ≡ last_or (slice_index given lane) (rows_in_lane lane items)
last_given given [] lane low = refl
last_given given (x ∷ xs) lane low =
    last_given (given_after given x) xs lane (let e = length_after given x in omega arith) ∙ go x.thing
  where
    go : (thing : Thing) → (let y : Item = record { header = x.header; thing = thing } in
        last_or (slice_index (given_after given y) lane) (rows_in_lane lane xs) ≡ last_or (slice_index given lane) (rows_in_lane lane (y ∷ xs)))
    go (Event number row) = by (cases_eq number lane)
      where
        by : (number ≡ lane) ⊎ (number ≡ lane → ⊥)
            → last_or (slice_index (slice_set given number row.id) lane) (rows_in_lane lane xs)
            ≡ last_or (slice_index given lane) (cons_option (if number == lane then Some row else None) (rows_in_lane lane xs))
        by (inl same) =
            let written : slice_index (slice_set given number row.id) lane ≡ row.id =
            ap (λ (k : ℕ). get_or (set given k row.id) lane 0) same ∙ get_or-set_same given lane row.id 0 low
            in
            ap (λ (id : ℕ). last_or id (rows_in_lane lane xs)) written
            ∙ ap (λ (b : Bool). last_or (slice_index given lane) (cons_option (if b then Some row else None) (rows_in_lane lane xs)))
            (sym (eq-eqb number lane same))
        by (inr other) =
            let as_before : slice_index (slice_set given number row.id) lane ≡ slice_index given lane =
            get_or-set_other given number lane row.id 0 (λ e. other (sym e)) in
            ap (λ (id : ℕ). last_or id (rows_in_lane lane xs)) as_before
            ∙ ap (λ (b : Bool). last_or (slice_index given lane) (cons_option (if b then Some row else None) (rows_in_lane lane xs)))
            (sym (ne_eqb number lane other))
    go (Present static) = refl

-- ---- all items of a READ

abbrev pub HasLow : ℕ → Part → Type 0
HasLow n (RowsOf lanes most) = AreLow n lanes
HasLow n (StaticsOf statics) = Unit {0}

abbrev pub AllLow : ℕ → List Part → Type 0
AllLow n [] = Unit {0}
AllLow n (part ∷ parts) = HasLow n part × AllLow n parts

abbrev pub HasOnce : ℕ → Part → Type 0
HasOnce lane (RowsOf lanes most) = IsOnce lane lanes
HasOnce lane (StaticsOf statics) = Unit {0}

abbrev pub AllOnce : ℕ → List Part → Type 0
AllOnce lane [] = Unit {0}
AllOnce lane (part ∷ parts) = HasOnce lane part × AllOnce lane parts

pub part_rows : (s : Source) (stood : ℕ) (given : List ℕ) (header : ℕ) (part : Part) (lane : ℕ) → HasOnce lane part
    → Starts (rows_in_lane lane (part_items s stood given header part)) (rows_left s.lanes stood given lane)
part_rows s stood given header (RowsOf lanes most) lane once = event_rows s.lanes stood given header most lanes lane once
part_rows s stood given header (StaticsOf statics) lane once =
    subst (λ (l : List Numbered). Starts l (rows_left s.lanes stood given lane)) (sym (no_rows header lane statics))
    (record { rest = rows_left s.lanes stood given lane; is = refl })

-- two tests may be asked in either order
pub filter_swap : {A : Type 0} (p q : A → Bool) (xs : List A) → filter p (filter q xs) ≡ filter q (filter p xs)
filter_swap p q [] = refl
filter_swap p q (x ∷ xs) = by (p x) (q x) refl refl (filter_swap p q xs)
  where
    left : (b : Bool) → filter p (cond b (x ∷ filter q xs) (filter q xs))
        ≡ cond b (cond (p x) (x ∷ filter p (filter q xs)) (filter p (filter q xs))) (filter p (filter q xs))
    left true = refl
    left false = refl

    right : (b : Bool) → filter q (cond b (x ∷ filter p xs) (filter p xs))
        ≡ cond b (cond (q x) (x ∷ filter q (filter p xs)) (filter q (filter p xs))) (filter q (filter p xs))
    right true = refl
    right false = refl

    middle : (a b : Bool) → filter p (filter q xs) ≡ filter q (filter p xs)
        → cond b (cond a (x ∷ filter p (filter q xs)) (filter p (filter q xs))) (filter p (filter q xs))
        ≡ cond a (cond b (x ∷ filter q (filter p xs)) (filter q (filter p xs))) (filter q (filter p xs))
    middle true true same = ap (λ ys. x ∷ ys) same
    middle true false same = same
    middle false true same = same
    middle false false same = same

    by : (a b : Bool) → p x ≡ a → q x ≡ b → filter p (filter q xs) ≡ filter q (filter p xs) → filter p (filter q (x ∷ xs)) ≡ filter q (filter p (x ∷ xs))
    by a b pa qb same = left (q x) ∙ middle (p x) (q x) same ∙ sym (right (p x))

-- a beginning of the rows left is given: what is left then stands after it
pub left_behind : (s : EventBuffer) (stood : ℕ) (given given' : List ℕ) (lane : ℕ) (xs rest : List Numbered) → Rising 0 (lane_at s lane).rows
    → slice_index given' lane ≡ last_or (slice_index given lane) xs → rows_left s stood given lane ≡ xs ++ rest → rows_left s stood given' lane ≡ rest
left_behind s stood given given' lane xs rest rising last is =
    let rows = (lane_at s lane).rows in
    let up : Rising 0 (filter (upto stood) rows) = rising_filter (upto stood) 0 rows rising in
    let now : filter (over (slice_index given lane)) (filter (upto stood) rows) ≡ xs ++ rest =
    filter_swap (over (slice_index given lane)) (upto stood) rows ∙ is in
    let later : filter (over (last_or (slice_index given lane) xs)) (filter (upto stood) rows) ≡ rest =
    over_rest 0 (slice_index given lane) (filter (upto stood) rows) xs rest up now in
    ap (λ (id : ℕ). filter (upto stood) (filter (over id) rows)) last
    ∙ filter_swap (upto stood) (over (last_or (slice_index given lane) xs)) rows
    ∙ later

-- lane by lane, the items of a READ are a beginning of the rows left
pub item_rows : (s : Source) (stood : ℕ) (given : List ℕ) (header : ℕ) (parts : List Part) (lane : ℕ) → Rising 0 (lane_at s.lanes lane).rows
    → lane < length given → AllOnce lane parts
    → Starts (rows_in_lane lane (items_of s stood given header parts)) (rows_left s.lanes stood given lane)
item_rows s stood given header [] lane rising low once = record { rest = rows_left s.lanes stood given lane; is = refl }
item_rows s stood given header (part ∷ parts) lane rising low once =
    let items = part_items s stood given header part in
    let given' = fold given_after given items in
    let more = items_of s stood given' (header + 1) parts in
    let here : Starts (rows_in_lane lane items) (rows_left s.lanes stood given lane) = part_rows s stood given header part lane once.0 in
    let low' : lane < length given' = (let e = length_given given items in omega arith) in
    let there : Starts (rows_in_lane lane more) (rows_left s.lanes stood given' lane) = item_rows s stood given' (header + 1) parts lane rising low' once.1 in
    let rest_is : rows_left s.lanes stood given' lane ≡ here.rest =
    left_behind s.lanes stood given given' lane (rows_in_lane lane items) here.rest rising (last_given given items lane low) here.is in
    let split : rows_in_lane lane (items ++ more) ≡ rows_in_lane lane items ++ rows_in_lane lane more = filter_map-append (row_in lane) items more in
    subst (λ (l : List Numbered). Starts l (rows_left s.lanes stood given lane)) (sym split)
    (record {
      rest = there.rest;
      is = here.is
          ∙ ap (λ (l : List Numbered). rows_in_lane lane items ++ l) (sym rest_is ∙ there.is)
          ∙ sym (append_assoc (rows_in_lane lane items) (rows_in_lane lane more) there.rest);
    })
