-- What is filled item by item is what is offered: the longest beginning of the items that fits.
use Rattle.std.proofs.Common.{◌≡◌, Bool, true, false, if◌then◌else◌, refl, sym, ◌∙◌, ap, subst, ℕ, ◌==◌, List, [], ◌∷◌, ◌++◌, map, take, length, arith, append_assoc, append-nil, eq-eqb, ne_eqb, Option, None, Some, IfSome}
use Rattle.std.specs.List.{AllByRecursion}
use Rattle.std.proofs.lemmas.List.{length-append, length-map}
use Rattle.dnp_appfragment.specs.Headers.{Head}
use Rattle.dnp_outstation.specs.declared.offer.place.ReadPlace.{ReadPlace}
use Rattle.dnp_outstation.specs.declared.offer.writer.Writer.{Writer}
use Rattle.dnp_outstation.specs.Forms.{in_groups, told_by}
use Rattle.dnp_outstation.specs.Items.{Thing, Item}
use Rattle.dnp_outstation.specs.Items.Thing.{Event, Present}
use Rattle.dnp_outstation.specs.Layout.{Laid, item_of, fits_fragment}
use Rattle.dnp_outstation.specs.Offer.{longest, held_laid, Filled, filled_with, offered_of}
use Rattle.dnp_outstation.specs.steps.Grouping.{opened, laid_from}
use Rattle.dnp_outstation.specs.steps.Grouping.Open.{Shut}
use Rattle.dnp_outstation.specs.steps.Filling.{empty_from, put_laid, fits, ended, fill_laid, fill}
use Rattle.dnp_outstation.proofs.Grows.{fits_begins}
use Rattle.dnp_outstation.proofs.Coming.{laid_so}
use Rattle.dnp_outstation.proofs.Grouped.{grouped_items, told_each}
use Rattle.dnp_outstation.proofs.Joined.{IsTold, told_whole}
use Rattle.dnp_outstation.proofs.Longest.{longest_is}
use Rattle.dnp_outstation.proofs.Taken.{Holds, heads_are, empty_holds, put_holds, fits_is}

-- what ends with these items
ended_is : (is_last : Bool) (place : ReadPlace) (w : Writer) (items : List Laid) → Holds place w items → ended is_last w ≡ filled_with is_last place items
ended_is is_last place w items holds =
    ap (λ (hs : List Head). let f : Filled = record { headers = hs; upto = w.upto; left = if is_last then None else Some w.place } in f)
    (heads_are place w items holds)
    ∙ ap (λ (ids : List ℕ). let f : Filled = record {
      headers =
          (filled_with is_last place items).headers;
      upto = ids;
      left = if is_last then None else Some w.place;
    } in f) holds.upto_is
    ∙ ap (λ (p : ReadPlace). let f : Filled = record {
      headers = (filled_with is_last place items).headers;
      upto =
          (filled_with is_last place items).upto;
      left = if is_last then None else Some p;
    } in f) holds.place_is

-- the longest beginning of these items, put together
abbrev offered_with : ReadPlace → List Laid → List Laid → Filled
offered_with place items held = filled_with (length held == length items) place held

filled : (place : ReadPlace) (w : Writer) (items left : List Laid) → Holds place w items → fits w ≡ true → AllByRecursion IsTold left
    → fill_laid w left ≡ offered_with place (items ++ left) (longest fits_fragment (items ++ left))
filled place w items [] holds fit told =
    let fits_all : fits_fragment items ≡ true = sym (fits_is place w items holds) ∙ fit in
    let all : longest fits_fragment (items ++ []) ≡ items = longest_is fits_fragment items [] fits_all (λ m low. absurd (omega arith)) in
    let same : (length items == length (items ++ [])) ≡ true = eq-eqb _ _ (ap length (sym (append-nil items))) in
    ended_is true place w items holds
    ∙ ap (λ (b : Bool). filled_with b place items) (sym same)
    ∙ ap (λ (held : List Laid). offered_with place (items ++ []) held) (sym all)
filled place w items (y ∷ ys) holds fit told = by (λ within. filled place (put_laid w y) (items ++ y ∷ []) ys after within told.1) (fits (put_laid w y)) refl
  where
    after : Holds place (put_laid w y) (items ++ y ∷ [])
    after = put_holds place w items y holds fit told.0

    goal : Filled
    goal = offered_with place (items ++ y ∷ ys) (longest fits_fragment (items ++ y ∷ ys))

    more_fits : fits (put_laid w y) ≡ fits_fragment (items ++ y ∷ [])
    more_fits = fits_is place (put_laid w y) (items ++ y ∷ []) after

    by : (fits (put_laid w y) ≡ true
        → fill_laid (put_laid w y) ys ≡ offered_with place ((items ++ y ∷ []) ++ ys) (longest fits_fragment ((items ++ y ∷ []) ++ ys)))
        → (b : Bool) → fits (put_laid w y) ≡ b → fill_laid w (y ∷ ys) ≡ goal
    by behind true within =
        ap (λ (b : Bool). if b then fill_laid (put_laid w y) ys else ended false w) within
        ∙ behind within
        ∙ ap (λ (all : List Laid). offered_with place all (longest fits_fragment all)) (append_assoc items (y ∷ []) ys)
    by behind false past_end =
        let fits_now : fits_fragment items ≡ true = sym (fits_is place w items holds) ∙ fit in
        let past : fits_fragment (items ++ y ∷ []) ≡ false = sym more_fits ∙ past_end in
        let none : longest fits_fragment (items ++ y ∷ ys) ≡ items =
        longest_is fits_fragment items (y ∷ ys) fits_now (λ m low. over (take m ys) past (fits_fragment (items ++ y ∷ take m ys)) refl) in
        let fewer : (length items == length (items ++ y ∷ ys)) ≡ false = ne_eqb _ _ (λ e. let l = length-append items (y ∷ ys) in omega arith) in
        ap (λ (b : Bool). if b then fill_laid (put_laid w y) ys else ended false w) past_end
        ∙ ended_is false place w items holds
        ∙ ap (λ (b : Bool). filled_with b place items) (sym fewer)
        ∙ ap (λ (held : List Laid). offered_with place (items ++ y ∷ ys) held) (sym none)
      where
        over : (zs : List Laid) → fits_fragment (items ++ y ∷ []) ≡ false → (b : Bool) → fits_fragment (items ++ y ∷ zs) ≡ b → b ≡ false
        over zs past true it =
            absurd (let short : fits_fragment (items ++ y ∷ [])
            ≡ true = fits_begins (items ++ y ∷ []) zs (ap fits_fragment (append_assoc items (y ∷ []) zs) ∙ it) in cc)
        over zs past false it = refl

-- what goes as its own object or as 2.3 is told so
pub told_so : (x : Laid) → x ≡ told_by x.common x.item → IsTold x
told_so x is = go x.item.thing x.common refl is
  where
    go : (thing : Thing) (common : Option ℕ) → x.common ≡ common → x ≡ told_by common (record { header = x.item.header; thing = thing }) → IsTold x
    go thing None none is = told_whole x none
    go (Present static) (Some t) some is =
        absurd (let none : x.common ≡ None = ap (λ (y : Laid). y.common) is in let no : None ≡ Some t = sym none ∙ some in cc)
    go (Event lane row) (Some t) some is =
        subst (λ (c : Option ℕ). IfSome c (λ _. (x.object.group ≡ 2) × (x.object.variation ≡ 3))) (sym some)
        (ap (λ (y : Laid). y.object.group) is, ap (λ (y : Laid). y.object.variation) is)

all_told_so : (xs : List Laid) → AllByRecursion (λ x. x ≡ told_by x.common x.item) xs → AllByRecursion IsTold xs
all_told_so [] all = tt
all_told_so (x ∷ xs) all = (told_so x all.0, all_told_so xs all.1)

-- what is filled with events as they come is the longest beginning of them all in groups
pub feed_offers : (may : ℕ → Bool) (place : ReadPlace) (items : List Item) → (let rows = in_groups may items in
    fill_laid (empty_from place) (laid_from Shut (map (opened may) items)) ≡ offered_with place rows (longest fits_fragment rows))
feed_offers may place items =
    let rows = in_groups may items in
    ap (fill_laid (empty_from place)) (sym (laid_so may items))
    ∙ filled place (empty_from place) [] rows (empty_holds place) refl (all_told_so rows (told_each may items))

-- from a place on
pub fill_offers : (may : ℕ → Bool) (place : ReadPlace) (items : List Item) → fill (empty_from place) (map (opened may) items) ≡ offered_of may place items
unfolding offered_of held_laid
fill_offers may place items =
    let rows = in_groups may items in
    let held = longest fits_fragment rows in
    let many : length rows ≡ length items = sym (length-map rows item_of) ∙ ap length (grouped_items may items) in
    feed_offers may place items
    ∙ ap (λ (n : ℕ). filled_with (n == length rows) place held) (sym (length-map held item_of))
    ∙ ap (λ (n : ℕ). filled_with (length (map item_of held) == n) place held) many
