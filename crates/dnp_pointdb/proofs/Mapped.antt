-- A loop that writes f of each member, one after another.
use Rattle.std.proofs.Common.{◌≡◌, ℕ, zero, suc, ◌+◌, ◌<◌, ◌≤◌, List, [], ◌∷◌, length, map, get_or, set, replicate, false, refl, ◌∙◌, ap, arith}

-- the first n members are done
pub done : {A : Type 0} → (A → A) → ℕ → List A → List A
done f zero xs = xs
done f (suc n) [] = []
done f (suc n) (x ∷ xs) = f x ∷ done f n xs

done-next : {A : Type 0} (f : A → A) (n : ℕ) (xs : List A) (d : A) → n < length xs
    → set (done f n xs) n (f (get_or (done f n xs) n d)) ≡ done f (suc n) xs
unfolding done
done-next f n [] d lt = absurd (omega arith)
done-next f zero (x ∷ xs) d lt = refl
done-next {A} f (suc n) (x ∷ xs) d lt = ap (λ (ys : List A). f x ∷ ys) (done-next f n xs d (omega arith))

pub done-more : {A : Type 0} (f : A → A) (n : ℕ) (xs : List A) (d : A) → n < length xs
    → set (done f n xs) n (f (get_or (done f n xs) n d)) ≡ done f (n + 1) xs
done-more f n xs d lt =
    let one : suc n ≡ n + 1 = omega arith in
    done-next f n xs d lt ∙ ap (λ (m : ℕ). done f m xs) one

pub done-step : {A : Type 0} (f : A → A) (n : ℕ) (xs ys : List A) (r d : A) → ys ≡ done f n xs → n < length xs
    → r ≡ f (get_or ys n d) → set ys n r ≡ done f (n + 1) xs
done-step {A} f n xs ys r d same lt is =
    ap (λ (y : A). set ys n y) is
    ∙ ap (λ (zs : List A). set zs n (f (get_or zs n d))) same
    ∙ done-more f n xs d lt

pub done-none : {A : Type 0} (f : A → A) (xs : List A) → done f 0 xs ≡ xs
unfolding done
done-none f xs = refl

pub length-done : {A : Type 0} (f : A → A) (n : ℕ) (xs : List A) → length (done f n xs) ≡ length xs
unfolding done
length-done f zero xs = refl
length-done f (suc n) [] = refl
length-done f (suc n) (x ∷ xs) = ap (λ (m : ℕ). suc m) (length-done f n xs)

pub done-all : {A : Type 0} (f : A → A) (n : ℕ) (xs : List A) → length xs ≤ n → done f n xs ≡ map f xs
unfolding done
done-all f zero [] le = refl
done-all f (suc n) [] le = refl
done-all f zero (x ∷ xs) le = absurd (omega arith)
done-all {A} f (suc n) (x ∷ xs) le = ap (λ (ys : List A). f x ∷ ys) (done-all f n xs (omega arith))

pub unmarked : (n k : ℕ) → get_or (replicate n false) k false ≡ false
unmarked zero k = refl
unmarked (suc n) zero = refl
unmarked (suc n) (suc k) = unmarked n k
