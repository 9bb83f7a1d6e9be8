-- Lanes that are changed one after another, in place.
use Rattle.std.proofs.Common.{◌≡◌, ℕ, suc, zero, ◌+◌, ◌<◌, List, [], ◌∷◌, ◌++◌, length, map, take, drop, get_or, set, refl, ap, ap₂, arith, add-one}
use Rattle.std.specs.List.{AllZip}
use Rattle.dnp_eventbuf.specs.EventBuffer.{LaneState, above, lanes_above}

abbrev pub mapped : {A : Type 0} → (A → A) → ℕ → List A → List A
mapped f k xs = map f (take k xs) ++ drop k xs

mapped-suc : {A : Type 0} (f : A → A) (xs : List A) (k : ℕ) (d : A) → k < length xs
    → set (mapped f k xs) k (f (get_or (mapped f k xs) k d)) ≡ mapped f (suc k) xs
mapped-suc f [] k d low = absurd (omega arith)
mapped-suc f (x ∷ xs) zero d low = refl
mapped-suc f (x ∷ xs) (suc k) d low = ap (λ ys. f x ∷ ys) (mapped-suc f xs k d (omega arith))

-- one element more is replaced by its image
pub mapped-step : {A : Type 0} (f : A → A) (xs now : List A) (k : ℕ) (new d : A) → k < length xs → now ≡ mapped f k xs → new ≡ f (get_or now k d)
    → set now k new ≡ mapped f (k + 1) xs
mapped-step f xs now k new d low same is = rw (add-one, is, same) (mapped-suc f xs k d low)

abbrev pub cut_below : ℕ → List LaneState → List ℕ → List LaneState
cut_below k lanes upto = lanes_above (take k lanes) (take k upto) ++ drop k lanes

cut_below-suc : (lanes : List LaneState) (upto : List ℕ) (k : ℕ) (d : LaneState) → k < length lanes → length lanes ≡ length upto
    → set (cut_below k lanes upto) k (above (get_or upto k 0) (get_or (cut_below k lanes upto) k d)) ≡ cut_below (suc k) lanes upto
cut_below-suc [] upto k d low same = absurd (omega arith)
cut_below-suc (lane ∷ lanes) [] k d low same = absurd (omega arith)
cut_below-suc (lane ∷ lanes) (u ∷ us) zero d low same = refl
cut_below-suc (lane ∷ lanes) (u ∷ us) (suc k) d low same = ap (λ rest. above u lane ∷ rest) (cut_below-suc lanes us k d (omega arith) (omega arith))

-- one lane more is cut
pub cut_below-step : (lanes now : List LaneState) (upto : List ℕ) (k : ℕ) (new d : LaneState) → k < length lanes → length lanes ≡ length upto
    → now ≡ cut_below k lanes upto
    → new ≡ above (get_or upto k 0) (get_or now k d) → set now k new ≡ cut_below (k + 1) lanes upto
cut_below-step lanes now upto k new d low same is cut = rw (add-one, cut, is) (cut_below-suc lanes upto k d low same)

-- ---- lanes made of capacities

pub map-from_AllZip : {A B : Type 0} (R : A → B → Type 0) (f : A → B) → ((x : A) (y : B) → R x y → y ≡ f x) → (xs : List A) (ys : List B) → AllZip R xs ys
    → ys ≡ map f xs
map-from_AllZip R f says [] [] h = refl
map-from_AllZip R f says [] (y ∷ ys) h = absurd h
map-from_AllZip R f says (x ∷ xs) [] h = absurd h
map-from_AllZip R f says (x ∷ xs) (y ∷ ys) h = ap₂ (λ z zs. z ∷ zs) (says x y h.0) (map-from_AllZip R f says xs ys h.1)
