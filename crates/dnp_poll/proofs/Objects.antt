-- The rows of the objects of a header, one after the other.
use Rattle.std.proofs.Common.{◌≡◌, ℕ, suc, ◌+◌, ◌-◌, ◌<◌, List, ◌++◌, ◌∙◌, ap, sym, append_assoc, arith}
use Rattle.std.specs.Prelude.{Bool, option_to_list}
use Rattle.dnp_appfragment.specs.Headers.{Head}
use Rattle.dnp_poll.specs.Rows.{row_at, rows_between}
use Rattle.dnp_poll.specs.declared.rows.ShownRow.{ShownRow}

-- object k, and those after it
next_object : (u : Bool) (h : Head) (k n : ℕ) → k < n
    → rows_between u h k (n - k) ≡ option_to_list (row_at u h k) ++ rows_between u h (k + 1) (n - (k + 1))
next_object u h k n less = let one : n - k ≡ suc (n - (k + 1)) = omega arith in ap (λ (m : ℕ). rows_between u h k m) one

-- once its row is put, those after it are left
pub object_put : (u : Bool) (h : Head) (k n : ℕ) (out new all : List ShownRow) → k < n → out ++ rows_between u h k (n - k) ≡ all
    → new ≡ out ++ option_to_list (row_at u h k) → new ++ rows_between u h (k + 1) (n - (k + 1)) ≡ all
object_put u h k n out new all less before put =
    ap (λ (xs : List ShownRow). xs ++ rows_between u h (k + 1) (n - (k + 1))) put
    ∙ append_assoc out (option_to_list (row_at u h k)) (rows_between u h (k + 1) (n - (k + 1)))
    ∙ ap (λ (ys : List ShownRow). out ++ ys) (sym (next_object u h k n less)) ∙ before
