-- Rows whose ids rise, and pages of those over an id.
use Rattle.std.proofs.Common.{◌≡◌, ℕ, zero, suc, ◌<◌, ◌≤◌, Bool, true, false, cond, List, [], ◌∷◌, ◌++◌, length, drop}
use Rattle.std.proofs.Common.{take, refl, sym, ap, subst, ◌∙◌, arith, append_assoc}
use Rattle.std.specs.Prelude.{nat_lt, Option}
use Rattle.std.specs.Io.KnownBytes.{Appends}
use Rattle.std.proofs.KnownBytes.{Appends-nil, Appends-trans}
use Rattle.std.proofs.lemmas.Bool.Decides.{Decides-ltb}
use Rattle.std.proofs.lemmas.List.{take-append-drop}
use Rattle.std.proofs.lemmas.List.Elements.{filter-append}
use Rattle.dnp_rows.specs.declared.item.Item.{Item}
use Rattle.dnp_rows.specs.Lines.{AreLines}
use Rattle.dnp_rows.specs.Lines.AreLines.{NoMore, GoesOn}
use Rattle.dnp_rows.specs.Pages.{id_of, over, last_id, AreRising}

under : (m n : ℕ) → m < n → nat_lt m n ≡ true
under m n h = (Decides-ltb m n).1 h

not_under : (m n : ℕ) → n ≤ m → nat_lt m n ≡ false
not_under m n h = go (nat_lt m n) (Decides-ltb m n).0
  where
    go : (b : Bool) → (b ≡ true → m < n) → b ≡ false
    go true less = absurd (let l : m < n = less refl in omega arith)
    go false less = refl

-- a row is over an id, or it isn't
pub data Side (a n : ℕ) : Type 0 where
  IsOver : a < n → Side a n
  IsUpTo : n ≤ a → Side a n

side : (a n : ℕ) → Side a n
side a n = go (nat_lt a n) (Decides-ltb a n).0 (Decides-ltb a n).1
  where
    go : (b : Bool) → (b ≡ true → a < n) → (a < n → b ≡ true) → Side a n
    go true less more = IsOver (less refl)
    go false less more = IsUpTo (grind (arith, more))

kept : (a : ℕ) (x : Item) (xs : List Item) → a < id_of x → over a (x ∷ xs) ≡ x ∷ over a xs
kept a x xs h = ap (λ (b : Bool). cond b (x ∷ over a xs) (over a xs)) (under a (id_of x) h)

passed : (a : ℕ) (x : Item) (xs : List Item) → id_of x ≤ a → over a (x ∷ xs) ≡ over a xs
passed a x xs h = ap (λ (b : Bool). cond b (x ∷ over a xs) (over a xs)) (not_under a (id_of x) h)

-- ---- ids that rise

pub over_all : (a low : ℕ) (xs : List Item) → AreRising low xs → a ≤ low → over a xs ≡ xs
over_all a low [] rising h = refl
over_all a low (x ∷ xs) (first, rest) h =
    kept a x xs (omega arith) ∙ ap (λ (l : List Item). x ∷ l) (over_all a (id_of x) xs rest (omega arith))

pub last_over : (a : ℕ) (xs : List Item) → AreRising a xs → a ≤ last_id a xs
last_over a [] rising = omega arith
last_over a (x ∷ xs) (first, rest) = let more = last_over (id_of x) xs rest in omega arith

take_rising : (n a : ℕ) (xs : List Item) → AreRising a xs → AreRising a (take n xs)
take_rising zero a xs rising = tt
take_rising (suc n) a [] rising = tt
take_rising (suc n) a (x ∷ xs) (first, rest) = (first, take_rising n (id_of x) xs rest)

front_rising : (a : ℕ) (xs ys : List Item) → AreRising a (xs ++ ys) → AreRising a xs
front_rising a [] ys rising = tt
front_rising a (x ∷ xs) ys (first, rest) = (first, front_rising (id_of x) xs ys rest)

back_rising : (a : ℕ) (xs ys : List Item) → AreRising a (xs ++ ys) → AreRising (last_id a xs) ys
back_rising a [] ys rising = rising
back_rising a (x ∷ xs) ys (first, rest) = back_rising (id_of x) xs ys rest

pub over_rising : (a low : ℕ) (xs : List Item) → AreRising low xs → AreRising a (over a xs)
over_rising a low [] rising = tt
over_rising a low (x ∷ xs) (first, rest) = go (side a (id_of x)) (over_rising a (id_of x) xs rest)
  where
    go : Side a (id_of x) → AreRising a (over a xs) → AreRising a (over a (x ∷ xs))
    go (IsOver h) others =
        subst (AreRising a) (sym (kept a x xs h))
        (h, subst (AreRising (id_of x)) (sym (over_all a (id_of x) xs rest (omega arith))) rest)
    go (IsUpTo h) others = subst (AreRising a) (sym (passed a x xs h)) others

-- ---- rows over an id

pub over_twice : (a b : ℕ) (xs : List Item) → a ≤ b → over b (over a xs) ≡ over b xs
over_twice a b [] h = refl
over_twice a b (x ∷ xs) h = go (side a (id_of x)) (over_twice a b xs h)
  where
    go : Side a (id_of x) → over b (over a xs) ≡ over b xs → over b (over a (x ∷ xs)) ≡ over b (x ∷ xs)
    go (IsOver up) others =
        ap (over b) (kept a x xs up) ∙ ap (λ (l : List Item). cond (nat_lt b (id_of x)) (x ∷ l) l) others
    go (IsUpTo low) others = ap (over b) (passed a x xs low) ∙ others ∙ sym (passed b x xs (omega arith))

pub last-append : (a : ℕ) (xs ys : List Item) → last_id a (xs ++ ys) ≡ last_id (last_id a xs) ys
last-append a [] ys = refl
last-append a (x ∷ xs) ys = last-append (id_of x) xs ys

-- those after a page of rows that rise are the others
after_page : (n a : ℕ) (xs : List Item) → AreRising a xs → over (last_id a (take n xs)) xs ≡ drop n xs
after_page zero a xs rising = over_all a a xs rising (omega arith)
after_page (suc n) a [] rising = refl
after_page (suc n) a (x ∷ xs) (first, rest) =
    let last = last_over (id_of x) (take n xs) (take_rising n (id_of x) xs rest) in
    passed (last_id (id_of x) (take n xs)) x xs (omega arith) ∙ after_page n (id_of x) xs rest

-- a page of the rows over an id, and those over its last id, are the rows over it
pub page_and_rest : (n a : ℕ) (page xs : List Item) → AreRising 0 xs → page ≡ take n (over a xs) → page ++ over (last_id a page) xs ≡ over a xs
page_and_rest n a page xs rising is =
    let all = over a xs in
    let up : AreRising a all = over_rising a 0 xs rising in
    let last : a ≤ last_id a (take n all) = last_over a (take n all) (take_rising n a all up) in
    ap (λ (l : List Item). l ++ over (last_id a l) xs) is
    ∙ ap (λ (l : List Item). take n all ++ l) (sym (over_twice a (last_id a (take n all)) xs last) ∙ after_page n a all up)
    ∙ take-append-drop n all

-- what was printed and what is still to come are the rows over an id, also once more have come
pub still_to_come : (from last : ℕ) (printed xs more : List Item) → AreRising 0 (xs ++ more) → printed ++ over last xs ≡ over from xs
    → last ≡ last_id from printed → printed ++ over last (xs ++ more) ≡ over from (xs ++ more)
still_to_come from last printed xs more rising so_far is =
    let all : AreRising from (over from (xs ++ more)) = over_rising from 0 (xs ++ more) rising in
    let both = filter-append (λ (x : Item). nat_lt from (id_of x)) xs more in
    let parts : AreRising from ((printed ++ over last xs) ++ over from more) =
    subst (AreRising from) (both ∙ ap (λ (l : List Item). l ++ over from more) (sym so_far)) all in
    let shown : AreRising from printed =
    front_rising from printed (over last xs) (front_rising from (printed ++ over last xs) (over from more) parts) in
    let low : from ≤ last_id from printed = last_over from printed shown in
    let held : AreRising last (over last xs) = over_rising last 0 xs (front_rising 0 xs more rising) in
    let high : last ≤ last_id last (over last xs) = last_over last (over last xs) held in
    let tail : AreRising (last_id from (printed ++ over last xs)) (over from more) =
    back_rising from (printed ++ over last xs) (over from more) parts in
    let joined : last_id from (printed ++ over last xs) ≡ last_id last (over last xs) =
    last-append from printed (over last xs) ∙ ap (λ (n : ℕ). last_id n (over last xs)) (sym is) in
    let newer : over last more ≡ over from more =
    sym (over_twice from last more (omega (arith, low, is)))
    ∙ over_all last (last_id from (printed ++ over last xs)) (over from more) tail (omega (arith, joined, high)) in
    ap (λ (l : List Item). printed ++ l) (filter-append (λ (x : Item). nat_lt last (id_of x)) xs more)
    ∙ sym (append_assoc printed (over last xs) (over last more))
    ∙ ap (λ (l : List Item). l ++ over last more) so_far
    ∙ ap (λ (l : List Item). over from xs ++ l) newer
    ∙ sym both

-- ---- their lines

pub lines_more : {IsOf : Item → List ℕ → Type 0} {xs ys : List Item} {a b : List ℕ} → AreLines IsOf xs a → AreLines IsOf ys b → AreLines IsOf (xs ++ ys) (a ++ b)
lines_more {IsOf} {ys = ys} {b = b} NoMore more = more
lines_more {IsOf} {ys = ys} {b = b} (GoesOn item items line lines is rest) more =
    subst (AreLines IsOf (item ∷ items ++ ys)) (sym (append_assoc line lines b))
    (GoesOn item (items ++ ys) line (lines ++ b) is (lines_more rest more))

-- ---- pages, one after the other

-- rows are printed, and a page of those that are still to come is at hand
pub record Printed (IsOf : Item → List ℕ → Type 0) (from last : ℕ) (xs page : List Item) (held now : Option (List ℕ)) : Type 0 where
  pub rows : List Item
  pub lines : List ℕ
  pub spelt : AreLines IsOf rows lines
  pub written : Appends held now lines
  pub rising : AreRising 0 xs
  pub left : rows ++ over last xs ≡ over from xs
  pub to : last ≡ last_id from rows
  pub next : page ≡ take 1000 (over last xs)

pub nothing_printed : (IsOf : Item → List ℕ → Type 0) (from : ℕ) (xs page : List Item) (held : Option (List ℕ)) → AreRising 0 xs → page ≡ take 1000 (over from xs)
    → Printed IsOf from from xs page held held
nothing_printed IsOf from xs page held rising next = record {
  rows = [];
  lines = [];
  spelt = NoMore;
  written = Appends-nil held;
  rising = rising;
  left = refl;
  to = refl;
  next = next;
}

pub page_printed : (IsOf : Item → List ℕ → Type 0) (from last later : ℕ) (xs more page after : List Item) (lines : List ℕ) (held now upon : Option (List ℕ))
    → Printed IsOf from last xs page held now → later ≡ last_id last page → AreLines IsOf page lines → Appends now upon lines
    → AreRising 0 (xs ++ more) → after ≡ take 1000 (over later (xs ++ more)) → Printed IsOf from later (xs ++ more) after held upon
page_printed IsOf from last later xs more page after lines held now upon done is spelt written rising next =
    let to : later ≡ last_id from (done.rows ++ page) =
    is ∙ ap (λ (n : ℕ). last_id n page) done.to ∙ sym (last-append from done.rows page) in
    let left : (done.rows ++ page) ++ over later xs ≡ over from xs =
    append_assoc done.rows page (over later xs)
    ∙ ap (λ (n : ℕ). done.rows ++ (page ++ over n xs)) is
    ∙ ap (λ (l : List Item). done.rows ++ l) (page_and_rest 1000 last page xs done.rising done.next)
    ∙ done.left in record {
      rows = done.rows ++ page;
      lines = done.lines ++ lines;
      spelt = lines_more done.spelt spelt;
      written = Appends-trans held now upon done.lines lines done.written written;
      rising = rising;
      left = still_to_come from later (done.rows ++ page) xs more rising left to;
      to = to;
      next = next;
    }

-- a page that has rows ends in a greater id
pub page_goes_on : (last : ℕ) (page : List Item) → AreRising last page → 0 < length page → last < last_id last page
page_goes_on last [] rising some = absurd (omega (arith, some))
page_goes_on last (x ∷ page) (first, rest) some = let more = last_over (id_of x) page rest in omega (arith, first, more)
