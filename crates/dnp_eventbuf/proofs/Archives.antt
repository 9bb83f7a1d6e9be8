-- Rows under ids that go on from a number, and journals of them.
use Rattle.std.proofs.Common.{◌≡◌, ℕ, zero, suc, ◌+◌, ◌^◌, ◌<◌, ◌≤◌, Bool, true, false, cond, List, [], ◌∷◌, ◌++◌, length, drop, take, refl, sym, ap, ap₂, subst, ◌∙◌, arith, append_assoc, append-nil, length-append, map, min}
use Rattle.std.specs.Prelude.{filter, nat_lt}
use Rattle.std.specs.List.{All}
use Rattle.std.proofs.lemmas.Bool.Decides.{Decides-ltb}
use Rattle.std.proofs.lemmas.List.{take_min}
use Rattle.std.proofs.lemmas.List.Elements.{All-head, All-push, All-tail, All-weaker}
use Rattle.std.proofs.lemmas.List.Quantifiers.{all_pairs_push}
use Rattle.dnp_objects.specs.declared.row.Row.{Row}
use Rattle.dnp_eventbuf.specs.declared.numbered.Numbered.{Numbered}
use Rattle.dnp_eventbuf.specs.Archive.{Archive, IsSoundArchive, with_events, numbered}
use Rattle.dnp_eventbuf.specs.EventBuffer.{row_of}

abbrev first_of : ℕ → Row → Numbered
first_of last row = record { id = last + 1; row = row }

numbered-append : (last : ℕ) (xs ys : List Row) → numbered last (xs ++ ys) ≡ numbered last xs ++ numbered (last + length xs) ys
numbered-append last [] ys = ap (λ (n : ℕ). numbered n ys) (omega arith)
numbered-append last (x ∷ xs) ys =
    ap (λ (l : List Numbered). first_of last x ∷ l)
    (numbered-append (last + 1) xs ys ∙ ap (λ (n : ℕ). numbered (last + 1) xs ++ numbered n ys) (omega arith))

pub length-numbered : (last : ℕ) (xs : List Row) → length (numbered last xs) ≡ length xs
length-numbered last [] = refl
length-numbered last (x ∷ xs) = ap suc (length-numbered (last + 1) xs)

take-numbered : (n last : ℕ) (xs : List Row) → take n (numbered last xs) ≡ numbered last (take n xs)
take-numbered zero last xs = refl
take-numbered (suc n) last [] = refl
take-numbered (suc n) last (x ∷ xs) = ap (λ (l : List Numbered). first_of last x ∷ l) (take-numbered n (last + 1) xs)

under : (m n : ℕ) → m < n → nat_lt m n ≡ true
under m n h = (Decides-ltb m n).1 h

not_under : (m n : ℕ) → n ≤ m → nat_lt m n ≡ false
not_under m n h = go (nat_lt m n) (Decides-ltb m n).0
  where
    go : (b : Bool) → (b ≡ true → m < n) → b ≡ false
    go true less = absurd (let l : m < n = less refl in omega arith)
    go false less = refl

-- all ids are over a number that none has passed
all_over : (from last : ℕ) (rows : List Row) → from ≤ last → filter (λ x. nat_lt from x.id) (numbered last rows) ≡ numbered last rows
all_over from last [] low = refl
all_over from last (x ∷ rows) low =
    ap₂ (λ (b : Bool) (l : List Numbered). cond b (first_of last x ∷ l) l) (under from (last + 1) (omega arith))
    (all_over from (last + 1) rows (omega arith))

-- those over a number are the rows that come after it
over_from : (from last k : ℕ) (rows : List Row) → from ≡ last + k → filter (λ x. nat_lt from x.id) (numbered last rows) ≡ numbered from (drop k rows)
over_from from last zero rows is =
    let same : from ≡ last = omega arith in
    all_over from last rows (omega arith) ∙ ap (λ (n : ℕ). numbered n rows) (sym same)
over_from from last (suc k) [] is = refl
over_from from last (suc k) (x ∷ rows) is =
    let rest = filter (λ y. nat_lt from y.id) (numbered (last + 1) rows) in
    ap (λ (b : Bool). cond b (first_of last x ∷ rest) rest) (not_under from (last + 1) (omega arith))
    ∙ over_from from (last + 1) k rows (omega arith)

-- the first of them, where ids are places counted from 1
pub numbered-over : (from most count : ℕ) (rows rest shown : List Row) → rest ≡ drop from rows → count ≡ min most (length rest) → shown ≡ take count rest
    → numbered from shown ≡ take most (filter (λ x. nat_lt from x.id) (numbered 0 rows))
numbered-over from most count rows rest shown over least is =
    ap (numbered from) (is ∙ ap (λ (n : ℕ). take n rest) least ∙ take_min most rest ∙ ap (take most) over)
    ∙ sym (take-numbered most from (drop from rows)) ∙ sym (ap (take most) (over_from from 0 from rows (omega arith)))

-- ---- a journal stays sound

abbrev one_more : Archive → Row → Archive
one_more a row = record { rows = a.rows ++ first_of a.last_id row ∷ []; last_id = a.last_id + 1 }

sound_one : (a : Archive) (row : Row) → IsSoundArchive a → a.last_id + 1 ≤ 2 ^ 62 → IsSoundArchive (one_more a row)
sound_one a row sound low =
    let x : Numbered = first_of a.last_id row in
    let earlier : All (λ (y : Numbered). y.id ≤ a.last_id + 1) a.rows =
    All-weaker (λ (y : Numbered). y.id ≤ a.last_id) (λ (y : Numbered). y.id ≤ a.last_id + 1) (λ y h. omega arith) a.rows sound.up_to_last in
    record {
      rising = all_pairs_push (λ (x y : Numbered). x.id < y.id) a.rows x sound.rising (λ k d within. omega (arith, sound.up_to_last k d within));
      from_1 = All-push (λ (y : Numbered). 1 ≤ y.id) a.rows x sound.from_1 (omega arith);
      up_to_last = All-push (λ (y : Numbered). y.id ≤ a.last_id + 1) a.rows x earlier (omega arith);
      last_id_at_most = low;
    }

again : (a : Archive) (row : Row) (rows : List Row) → with_events (one_more a row) rows ≡ with_events a (row ∷ rows)
again a row rows =
    ap₂ (λ (xs : List Numbered) (n : ℕ). record { rows = xs; last_id = n })
    (append_assoc a.rows (first_of a.last_id row ∷ []) (numbered (a.last_id + 1) rows)) (omega arith)

pub sound_with : (a : Archive) (events : List Row) → IsSoundArchive a → a.last_id + length events ≤ 2 ^ 62 → IsSoundArchive (with_events a events)
sound_with a [] sound low =
    subst IsSoundArchive (ap₂ (λ (xs : List Numbered) (n : ℕ). record { rows = xs; last_id = n }) (sym (append-nil a.rows)) (omega arith)) sound
sound_with a (row ∷ rows) sound low =
    subst IsSoundArchive (again a row rows) (sound_with (one_more a row) rows (sound_one a row sound (omega arith)) (omega arith))

-- ---- a journal whose ids are places counted from 1

abbrev pub placed : List Row → Archive
placed rows = record { rows = numbered 0 rows; last_id = length rows }

pub placed_with : (rows events all : List Row) → all ≡ rows ++ events → placed all ≡ with_events (placed rows) events
placed_with rows events all is =
    ap placed is
    ∙ ap₂ (λ (xs : List Numbered) (n : ℕ). record { rows = xs; last_id = n })
    (numbered-append 0 rows events ∙ ap (λ (n : ℕ). numbered 0 rows ++ numbered n events) (omega arith)) (length-append rows events)

pub placed_sound : (rows events all : List Row) → all ≡ rows ++ events → length rows + length events ≤ 2 ^ 62 → IsSoundArchive (placed rows)
    → IsSoundArchive (placed all)
placed_sound rows events all is low sound = subst IsSoundArchive (sym (placed_with rows events all is)) (sound_with (placed rows) events sound low)

-- ---- laws of journals

pub rows-numbered : (last : ℕ) (rows : List Row) → map row_of (numbered last rows) ≡ rows
rows-numbered last [] = refl
rows-numbered last (x ∷ rows) = ap (λ (l : List Row). x ∷ l) (rows-numbered (last + 1) rows)

pub with_both : (a : Archive) (first second : List Row) → with_events a (first ++ second) ≡ with_events (with_events a first) second
with_both a first second =
    let numbers : a.rows ++ numbered a.last_id (first ++ second) ≡ (a.rows ++ numbered a.last_id first) ++ numbered (a.last_id + length first) second =
    ap (λ (l : List Numbered). a.rows ++ l) (numbered-append a.last_id first second)
    ∙ sym (append_assoc a.rows (numbered a.last_id first) (numbered (a.last_id + length first) second)) in
    ap₂ (λ (xs : List Numbered) (n : ℕ). record { rows = xs; last_id = n }) numbers (omega (arith, length-append first second))

pub all_from_0 : (rows : List Numbered) → All (λ x. 1 ≤ x.id) rows → filter (λ x. nat_lt 0 x.id) rows ≡ rows
all_from_0 [] from_1 = refl
all_from_0 (x ∷ rows) from_1 =
    ap₂ (λ (b : Bool) (l : List Numbered). cond b (x ∷ l) l) (under 0 x.id (All-head (λ (y : Numbered). 1 ≤ y.id) x rows from_1))
    (all_from_0 rows (All-tail (λ (y : Numbered). 1 ≤ y.id) x rows from_1))
