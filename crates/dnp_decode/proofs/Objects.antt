-- The lines of the objects of a header, one after the other.
use Rattle.std.proofs.Common.{◌≡◌, ℕ, suc, ◌+◌, ◌-◌, ◌<◌, List, ◌++◌, ◌∙◌, ap, sym, append_assoc, arith}
use Rattle.std.specs.Prelude.{option_to_list}
use Rattle.dnp_appfragment.specs.Headers.{Head}
use Rattle.dnp_decode.specs.declared.line.Line.{Line}
use Rattle.dnp_decode.specs.FragmentLines.{object_line, objects_between}

-- object k, and those after it
next_object : (h : Head) (k n : ℕ) → k < n
    → objects_between h k (n - k) ≡ option_to_list (object_line h k) ++ objects_between h (k + 1) (n - (k + 1))
next_object h k n less = let one : n - k ≡ suc (n - (k + 1)) = omega arith in ap (λ (m : ℕ). objects_between h k m) one

-- once its line is put, those after it are left
pub object_put : (h : Head) (k n : ℕ) (out new all : List Line) → k < n → out ++ objects_between h k (n - k) ≡ all
    → new ≡ out ++ option_to_list (object_line h k) → new ++ objects_between h (k + 1) (n - (k + 1)) ≡ all
object_put h k n out new all less before put =
    ap (λ (xs : List Line). xs ++ objects_between h (k + 1) (n - (k + 1))) put
    ∙ append_assoc out (option_to_list (object_line h k)) (objects_between h (k + 1) (n - (k + 1)))
    ∙ ap (λ (ys : List Line). out ++ ys) (sym (next_object h k n less)) ∙ before
