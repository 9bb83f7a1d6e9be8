-- What is laid of rows as they come is what is laid of them all in groups.
use Rattle.std.proofs.Common.{◌≡◌, ℕ, Bool, true, false, if◌then◌else◌, refl, ◌∙◌, ap, List, [], ◌∷◌, ◌++◌, map, append_assoc, length, nat_le, arith}
use Rattle.std.proofs.lemmas.Bool.{le-leb}
use Rattle.std.proofs.lemmas.List.{map_push}
use Rattle.std.specs.List.{flat_map}
use Rattle.dnp_outstation.specs.Forms.{reaches, time_of, told_after, lay_group, in_groups}
use Rattle.dnp_outstation.specs.Groups.{group, grown}
use Rattle.dnp_outstation.specs.Items.{Item}
use Rattle.dnp_outstation.specs.Layout.{Laid, lay}
use Rattle.dnp_outstation.specs.steps.Grouping.{Marked, opened, laid_from}
use Rattle.dnp_outstation.specs.steps.Grouping.Open.{Shut, One, Two, Within}

abbrev laid_grown : (ℕ → Bool) → Item → List Item → List Item → List Laid
laid_grown may first more xs = flat_map lay_group (grown (reaches may) first more xs)

long_group : (x a b : Item) (own : List Item) → lay_group (group x (a ∷ b ∷ own)) ≡ map (told_after (time_of x)) (x ∷ a ∷ b ∷ own)
long_group x a b own =
    let long : nat_le 3 (length (x ∷ a ∷ b ∷ own)) ≡ true = le-leb 3 (length (x ∷ a ∷ b ∷ own)) (omega arith) in
    ap (λ (t : Bool). if t then map (told_after (time_of x)) (x ∷ a ∷ b ∷ own) else map lay (x ∷ a ∷ b ∷ own)) long

-- what comes behind rows that wait, and behind a group of three
record IsLaid (may : ℕ → Bool) (xs : List Item) : Type 0 where
  one : (x : Item) → laid_grown may x [] xs ≡ laid_from (One (opened may x)) (map (opened may) xs)
  two : (x y : Item) → laid_grown may x (y ∷ []) xs ≡ laid_from (Two (opened may x) (opened may y)) (map (opened may) xs)
  within : (x a b : Item) (own : List Item)
      → laid_grown may x (a ∷ b ∷ own) xs ≡ map (told_after (time_of x)) (x ∷ a ∷ b ∷ own) ++ laid_from (Within (opened may x)) (map (opened may) xs)

is_laid : (may : ℕ → Bool) (xs : List Item) → IsLaid may xs
is_laid may [] = record { one = λ x. refl; two = λ x y. refl; within = λ x a b own. ap (λ (l : List Laid). l ++ []) (long_group x a b own) }
is_laid may (z ∷ zs) = step (is_laid may zs)
  where
    step : IsLaid may zs → IsLaid may (z ∷ zs)
    step rest = record {
      one = λ x. by_one x (reaches may x z);
      two = λ x y. by_two x y (reaches may x z);
      within = λ x a b own. by_within x a b own (reaches may x z);
    }
      where
        o : Item → Marked
        o = opened may

        by_one : (x : Item) (b : Bool) → flat_map lay_group (if b then grown (reaches may) x (z ∷ []) zs else group x [] ∷ grown (reaches may) z [] zs)
            ≡ (if b then laid_from (Two (o x) (o z)) (map o zs) else lay x ∷ laid_from (One (o z)) (map o zs))
        by_one x true = rest.two x z
        by_one x false = ap (λ (l : List Laid). lay x ∷ l) (rest.one z)

        by_two : (x y : Item) (b : Bool)
            → flat_map lay_group (if b then grown (reaches may) x (y ∷ z ∷ []) zs else group x (y ∷ []) ∷ grown (reaches may) z [] zs)
            ≡ (if b then told_after (time_of x) x ∷ told_after (time_of x) y ∷ told_after (time_of x) z ∷ laid_from (Within (o x)) (map o zs)
            else lay x ∷ lay y ∷ laid_from (One (o z)) (map o zs))
        by_two x y true = rest.within x y z []
        by_two x y false = ap (λ (l : List Laid). lay x ∷ lay y ∷ l) (rest.one z)

        by_within : (x a b : Item) (own : List Item) (t : Bool)
            → flat_map lay_group (if t then grown (reaches may) x (a ∷ b ∷ (own ++ z ∷ [])) zs else group x (a ∷ b ∷ own) ∷ grown (reaches may) z [] zs)
            ≡ map (told_after (time_of x)) (x ∷ a ∷ b ∷ own) ++ (if t then told_after (time_of x) z ∷ laid_from (Within (o x)) (map o zs) else laid_from (One (o z)) (map o zs))
        by_within x a b own true =
            rest.within x a b (own ++ z ∷ [])
            ∙ ap (λ (l : List Laid). l ++ laid_from (Within (o x)) (map o zs)) (map_push (told_after (time_of x)) (x ∷ a ∷ b ∷ own) z)
            ∙ append_assoc (map (told_after (time_of x)) (x ∷ a ∷ b ∷ own)) (told_after (time_of x) z ∷ []) (laid_from (Within (o x)) (map o zs))
        by_within x a b own false =
            ap (λ (l : List Laid). l ++ laid_grown may z [] zs) (long_group x a b own)
            ∙ ap (λ (l : List Laid). map (told_after (time_of x)) (x ∷ a ∷ b ∷ own) ++ l) (rest.one z)

pub laid_so : (may : ℕ → Bool) (items : List Item) → in_groups may items ≡ laid_from Shut (map (opened may) items)
laid_so may [] = refl
laid_so may (x ∷ xs) = (is_laid may xs).one x
