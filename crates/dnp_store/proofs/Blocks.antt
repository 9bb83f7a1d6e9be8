-- Lists that are gone through by blocks.
use Rattle.std.proofs.Common.{◌≡◌, List, [], ◌∷◌, ◌++◌, length, sym, ◌∙◌, arith, append-nil}
use Rattle.std.specs.List.{AllByRecursion}

pub parted : {X : Type 0} (P : X → Type 0) (xs ys : List X) → AllByRecursion P (xs ++ ys) → AllByRecursion P xs × AllByRecursion P ys
parted P [] ys all = (tt, all)
parted P (x ∷ xs) ys all = let rest = parted P xs ys all.1 in ((all.0, rest.0), rest.1)

-- where nothing is left, all are done
pub all_done : {X : Type 0} (xs done rest : List X) → xs ≡ done ++ rest → length rest ≡ 0 → done ≡ xs
all_done xs done [] parts none = sym (parts ∙ append-nil done)
all_done xs done (x ∷ rest) parts none = absurd (omega arith)
