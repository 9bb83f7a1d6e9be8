-- Lists and keys of a plan's text.
use Rattle.std.proofs.Common.{◌≡◌, ℕ, suc, ◌+◌, ◌<◌, ◌≤◌, List, [], ◌∷◌, ◌++◌, length, get_or, drop, Option, Some, None, String, Global, eqb, refl, sym, ap, ◌∙◌, append_assoc, add-one, drop-cons}
use Rattle.std.proofs.Math.ListN.{drop_of_length-le}
use Rattle.std.proofs.lemmas.List.{append-nil}
use Rattle.std.specs.Option.{option_and_then, option_map}
use Rattle.toml.specs.Data.{Data, Items, Members}
use Rattle.toml.specs.View.{items_view, members_view, view}
use Rattle.toml.specs.declared.value.Value.{Value}
use Rattle.toml.proofs.Views.{items_view-drop}
use Rattle.dnp_plantext.specs.PlanFields.{all_of, keys_are, members_count}
use Rattle.dnp_plantext.specs.PlanRanges.{each_of}

-- one more in front of what is to come
in_front : {A : Type 0} (done : List A) (x : A) (o : Option (List A)) →
    option_map (λ more. done ++ more) (option_and_then (λ rest. Some (x ∷ rest)) o) ≡ option_map (λ more. (done ++ x ∷ []) ++ more) o
in_front done x None = refl
in_front done x (Some more) = ap Some (sym (append_assoc done (x ∷ []) more))

-- ---- items

item_read : {A : Type 0} (f : Data → Option A) (done : List A) (d : Data) (items : Items) (x : A) → f d ≡ Some x →
    option_map (λ more. done ++ more) (option_and_then (λ here. option_and_then (λ more. Some (here ∷ more)) (all_of f items)) (f d))
    ≡ option_map (λ more. (done ++ x ∷ []) ++ more) (all_of f items)
item_read f done d items x is = rw is (in_front done x (all_of f items))

pub item_more : {A : Type 0} (f : Data → Option A) (vs : List Value) (i : ℕ) (v : Value) (done : List A) (x : A) (whole : Option (List A)) →
    i < length vs → f (view (get_or vs i v)) ≡ Some x → whole ≡ option_map (λ more. done ++ more) (all_of f (items_view (drop i vs))) →
    whole ≡ option_map (λ more. (done ++ x ∷ []) ++ more) (all_of f (items_view (drop (i + 1) vs)))
item_more f vs i v done x whole within is before =
    before ∙ ap (λ (items : Items). option_map (λ more. done ++ more) (all_of f items)) (items_view-drop vs i v within)
    ∙ item_read f done (view (get_or vs i v)) (items_view (drop (i + 1) vs)) x is

-- ---- keys

pub count_is : (es : List (String Global × Value)) → members_count (members_view es) ≡ length es
count_is [] = refl
count_is (e ∷ es) = ap suc (count_is es)

pub keys_counted : (count n : ℕ) (o : Option Members) (es : List (String Global × Value)) → Some (members_view es) ≡ o → n ≡ length es →
    eqb n count ≡ keys_are count o
keys_counted count n o es is counted =
    ap (λ (m : ℕ). eqb m count) (counted ∙ sym (count_is es)) ∙ ap (keys_are count) is

-- ---- what each of a list gives

each_read : {A B : Type 0} (f : A → Option B) (done : List B) (x : A) (xs : List A) (y : B) → f x ≡ Some y →
    option_map (λ more. done ++ more) (each_of f (x ∷ xs)) ≡ option_map (λ more. (done ++ y ∷ []) ++ more) (each_of f xs)
each_read f done x xs y is = rw is (in_front done y (each_of f xs))

-- one more gives something
pub each_more : {A B : Type 0} (f : A → Option B) (xs : List A) (i : ℕ) (x : A) (done : List B) (y : B) (whole : Option (List B)) →
    i < length xs → f (get_or xs i x) ≡ Some y → whole ≡ option_map (λ more. done ++ more) (each_of f (drop i xs)) →
    whole ≡ option_map (λ more. (done ++ y ∷ []) ++ more) (each_of f (drop (i + 1) xs))
each_more f xs i x done y whole within is before =
    before ∙ ap (λ l. option_map (λ more. done ++ more) (each_of f l)) (drop-cons xs i x within)
    ∙ each_read f done (get_or xs i x) (drop (suc i) xs) y is
    ∙ ap (λ (n : ℕ). option_map (λ more. (done ++ y ∷ []) ++ more) (each_of f (drop n xs))) (sym (add-one i))

-- one gives nothing, and so do all
pub each_none : {A B : Type 0} (f : A → Option B) (xs : List A) (i : ℕ) (x : A) (done : List B) (whole : Option (List B)) →
    i < length xs → f (get_or xs i x) ≡ None → whole ≡ option_map (λ more. done ++ more) (each_of f (drop i xs)) → None ≡ whole
each_none f xs i x done whole within is before =
    sym (before ∙ ap (λ l. option_map (λ more. done ++ more) (each_of f l)) (drop-cons xs i x within) ∙ rw is refl)

-- all gave something
pub each_all : {A B : Type 0} (f : A → Option B) (xs : List A) (i : ℕ) (done : List B) (whole : Option (List B)) →
    length xs ≤ i → whole ≡ option_map (λ more. done ++ more) (each_of f (drop i xs)) → Some done ≡ whole
each_all f xs i done whole over before =
    sym (before ∙ ap (λ l. option_map (λ more. done ++ more) (each_of f l)) (drop_of_length-le xs over) ∙ ap Some (append-nil done))
