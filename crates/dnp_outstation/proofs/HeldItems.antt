-- What a fragment holds of the items that are left: a beginning, and as long a one as fits.
use Rattle.std.proofs.Common.{◌≡◌, refl, sym, ◌∙◌, ap, subst, ℕ, Bool, List, [], ◌∷◌, ◌++◌, map, take, drop, length, arith}
use Rattle.std.specs.List.{All, AllByRecursion}
use Rattle.std.proofs.lemmas.List.{length-map, take-append-drop, take_all, take-map}
use Rattle.std.proofs.lemmas.List.Elements.{All-take}
use Rattle.dnp_outstation.specs.Forms.{laid}
use Rattle.dnp_outstation.specs.Items.{Item}
use Rattle.dnp_outstation.specs.Laws.{IsLongest}
use Rattle.dnp_outstation.specs.Layout.{Laid, item_of, fits_fragment}
use Rattle.dnp_outstation.specs.Offer.{longest, held_laid, held_of}
use Rattle.dnp_outstation.specs.steps.Grouping.{marked, opened, laid_from}
use Rattle.dnp_outstation.specs.steps.Grouping.Open.{Shut}
use Rattle.dnp_outstation.proofs.Coming.{laid_so}
use Rattle.dnp_outstation.proofs.Grouped.{grouped_items}
use Rattle.dnp_outstation.proofs.Longest.{longest_longest}

pub held_longest : (may : ℕ → Bool) (items : List Item) → IsLongest fits_fragment (laid may items) (held_laid may items)
unfolding held_laid
held_longest may items = longest_longest fits_fragment (laid may items) refl

-- what is so of all that is laid is so of what is held
pub held_are_laid : (P : Laid → Type 0) (may : ℕ → Bool) (items : List Item) → All P (laid may items) → All P (held_laid may items)
held_are_laid P may items all = subst (All P) (held_longest may items).begins (All-take P (length (held_laid may items)) (laid may items) all)

pub held_begins : (may : ℕ → Bool) (items : List Item) → take (length (held_of may items)) items ≡ held_of may items
held_begins may items =
    let n = length (held_laid may items) in
    ap (λ (k : ℕ). take k items) (length-map (held_laid may items) item_of)
    ∙ ap (take n) (sym (grouped_items may items))
    ∙ take-map item_of n (laid may items)
    ∙ ap (map item_of) (held_longest may items).begins

-- the others stand after it
pub held_first : (may : ℕ → Bool) (items : List Item) → items ≡ held_of may items ++ drop (length (held_of may items)) items
held_first may items =
    let n = length (held_of may items) in
    sym (take-append-drop n items) ∙ ap (λ (held : List Item). held ++ drop n items) (held_begins may items)

-- as long as all that is left, it is all of that
pub held_whole : (may : ℕ → Bool) (items : List Item) → length (held_of may items) ≡ length items → held_of may items ≡ items
held_whole may items same = sym (held_begins may items) ∙ take_all (length (held_of may items)) items (omega arith)

pub held_none : (may : ℕ → Bool) → held_laid may [] ≡ []
unfolding held_laid
held_none may = refl

-- what headers of no item leave open makes no difference
opened_same : (may may' : ℕ → Bool) (items : List Item) → AllByRecursion (λ x. may x.header ≡ may' x.header) items
    → map (opened may) items ≡ map (opened may') items
opened_same may may' [] all = refl
opened_same may may' (x ∷ xs) all = (λ i. marked (all.0 i) x ∷ opened_same may may' xs all.1 i)

pub held_same : (may may' : ℕ → Bool) (items : List Item) → AllByRecursion (λ x. may x.header ≡ may' x.header) items
    → held_laid may items ≡ held_laid may' items
unfolding held_laid
held_same may may' items all =
    ap (longest fits_fragment) (laid_so may items ∙ ap (laid_from Shut) (opened_same may may' items all) ∙ sym (laid_so may' items))
