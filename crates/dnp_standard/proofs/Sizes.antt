-- Objects after their sizes: one more, the last, and one that is cut.
use Rattle.std.proofs.Common.{◌≡◌, ℕ, suc, ◌+◌, ◌-◌, ◌<◌, ◌≤◌, List, drop, length, ◌∙◌, ap, sym, subst, refl, arith, add_assoc}
use Rattle.std.proofs.lemmas.List.{drop-drop}
use Rattle.std.specs.Prelude.{Option, Some, None}
use Rattle.std.specs.Option.{option_map}
use Rattle.dnp_standard.specs.declared.qualifier.Width.{Width}
use Rattle.dnp_standard.specs.Headers.{sized_object, sized_octets, with_first}

map_twice : (a b : ℕ) (o : Option ℕ) → option_map (λ more. a + more) (option_map (λ more. b + more) o) ≡ option_map (λ more. a + b + more) o
map_twice a b None = refl
map_twice a b (Some n) = ap (λ (m : ℕ). Some m) (sym (add_assoc a b n))

-- one object more
pub sized_more : (w : Width) (octets : List ℕ) (count done place n : ℕ) → done < count → sized_object w (drop place octets) ≡ Some n
    → option_map (λ more. place + more) (sized_octets w (count - done) (drop place octets))
    ≡ option_map (λ more. place + n + more) (sized_octets w (count - (done + 1)) (drop (place + n) octets))
sized_more w octets count done place n low is =
    let left : count - done ≡ suc (count - (done + 1)) = omega arith in
    let rest : List ℕ = drop place octets in
    ap (λ (k : ℕ). option_map (λ more. place + more) (sized_octets w k rest)) left
    ∙ ap (λ (o : Option ℕ). option_map (λ more. place + more) (with_first (λ first. sized_octets w (count - (done + 1)) (drop first rest)) o)) is
    ∙ map_twice place n (sized_octets w (count - (done + 1)) (drop n rest))
    ∙ ap (λ (xs : List ℕ). option_map (λ more. place + n + more) (sized_octets w (count - (done + 1)) xs)) (drop-drop n place octets)

-- one that is cut
pub sized_cut : (w : Width) (octets : List ℕ) (count done place : ℕ) → done < count → sized_object w (drop place octets) ≡ None
    → option_map (λ more. place + more) (sized_octets w (count - done) (drop place octets)) ≡ None
sized_cut w octets count done place low is =
    let left : count - done ≡ suc (count - (done + 1)) = omega arith in
    let rest : List ℕ = drop place octets in
    ap (λ (k : ℕ). option_map (λ more. place + more) (sized_octets w k rest)) left
    ∙ ap (λ (o : Option ℕ). option_map (λ more. place + more) (with_first (λ first. sized_octets w (count - (done + 1)) (drop first rest)) o)) is

-- none left
pub sized_end : (w : Width) (octets : List ℕ) (count done place : ℕ) → count ≤ done
    → option_map (λ more. place + more) (sized_octets w (count - done) (drop place octets)) ≡ Some place
sized_end w octets count done place past =
    let left : count - done ≡ 0 = omega arith in
    ap (λ (k : ℕ). option_map (λ more. place + more) (sized_octets w k (drop place octets))) left ∙ ap (λ (m : ℕ). Some m) (let e : place + 0 ≡ place = omega arith in e)
