-- What stands at all centres but one: how many of a thing that is, beside what stands at the one, and where all of it is from.
use Rattle.std.proofs.Common.{◌≡◌, ◌==◌, ℕ, zero, suc, ◌+◌, ◌<◌, ◌≤◌, if◌then◌else◌, Bool, true, false, List, [], ◌++◌, All, refl, ap, ap₂, ◌∙◌, append-nil, arith, eqb-true}
use Rattle.std.specs.List.{count_by}
use Rattle.std.proofs.lemmas.Bool.Decides.{nat_tests}
use Rattle.std.proofs.lemmas.List.{map-append}
use Rattle.std.proofs.lemmas.List.Elements.{All-append, All-nil, filter_map-append}
use Rattle.dnp_objects.specs.declared.command.Command.{Command}
use Rattle.dnp_concentrator.specs.declared.span.Spans.{Spans}
use Rattle.dnp_concentrator.specs.Mapped.{command_below}
use Rattle.dnp_controls.specs.declared.book.Entry.{Entry}
use Rattle.dnp_world.specs.Behind.{Elsewhere, IsFrom}
use Rattle.dnp_world.specs.BothSteady.{all_but}
use Rattle.dnp_world.specs.CommandWidths.{HasWidths}
use Rattle.dnp_world.specs.Kept.{command_of, commands_below, commands_in}
use Rattle.dnp_world.proofs.Counting.{count_by-append}

-- ---- lists

-- how many of all the lists of the first centres pass a test
abbrev pub total : {A : Type 0} → (A → Bool) → (ℕ → List A) → ℕ → ℕ
total test lists zero = 0
total test lists (suc n) = total test lists n + count_by test (lists n)

-- those before the one
total_before : {A : Type 0} (test : A → Bool) (centre : ℕ) (lists : ℕ → List A) (k : ℕ) → k ≤ centre
    → count_by test (all_but centre lists k) ≡ total test lists k
total_before test centre lists zero low = refl
total_before test centre lists (suc k) low =
    let apart : (centre == k) ≡ false = grind (arith, nat_tests, low) in
    rw apart (count_by-append test (all_but centre lists k) (lists k)
    ∙ ap (λ (n : ℕ). n + count_by test (lists k)) (total_before test centre lists k (omega (arith, low))))

-- what stands at the one, and at all others
pub total_with : {A : Type 0} (test : A → Bool) (centre : ℕ) (lists : ℕ → List A) (k : ℕ) → centre < k
    → count_by test (lists centre) + count_by test (all_but centre lists k) ≡ total test lists k
total_with test centre lists zero low = absurd (omega (arith, low))
total_with {A} test centre lists (suc k) low = by (λ lower. total_with test centre lists k lower) (centre == k) refl
  where
    by : (centre < k → count_by test (lists centre) + count_by test (all_but centre lists k) ≡ total test lists k) → (b : Bool) → (centre == k) ≡ b
        → count_by test (lists centre) + count_by test (all_but centre lists k ++ (if b then [] else lists k)) ≡ total test lists k + count_by test (lists k)
    by before true is =
        let same : centre ≡ k = eqb-true centre k is in
        omega (
          arith,
          ap (λ (n : ℕ). count_by test (lists n)) same,
          ap (λ (xs : List A). count_by test xs) (append-nil (all_but centre lists k)),
          total_before test centre lists k (omega (arith, same)),
        )
    by before false apart =
        let lower : centre < k = grind (arith, nat_tests, low, apart) in
        omega (arith, count_by-append test (all_but centre lists k) (lists k), before lower)

-- as many at each are as many in all
pub same_total : {A : Type 0} (test : A → Bool) (lists again : ℕ → List A) (k : ℕ)
    → ((n : ℕ) → n < k → count_by test (lists n) ≡ count_by test (again n)) → total test lists k ≡ total test again k
same_total test lists again zero same = refl
same_total test lists again (suc k) same =
    ap₂ (λ (a b : ℕ). a + b) (same_total test lists again k (λ n low. same n (omega (arith, low)))) (same k (omega arith))

-- the same lists at all others
pub same_but : {A : Type 0} (centre : ℕ) (lists again : ℕ → List A) (k : ℕ) → ((n : ℕ) → n < k → (centre == n) ≡ false → lists n ≡ again n)
    → all_but centre lists k ≡ all_but centre again k
same_but centre lists again zero same = refl
same_but {A} centre lists again (suc k) same =
    ap₂ (λ (xs ys : List A). xs ++ ys) (same_but centre lists again k (λ n low. same n (omega (arith, low)))) (by (centre == k) refl)
  where
    by : (b : Bool) → (centre == k) ≡ b → (if b then [] else lists k) ≡ (if b then [] else again k)
    by true is = refl
    by false apart = same k (omega arith) apart

-- nothing at all others
pub none_but : {A : Type 0} (centre : ℕ) (lists : ℕ → List A) (k : ℕ) → ((n : ℕ) → n < k → lists n ≡ []) → all_but centre lists k ≡ []
none_but centre lists zero none = refl
none_but {A} centre lists (suc k) none =
    ap₂ (λ (xs ys : List A). xs ++ ys) (none_but centre lists k (λ n low. none n (omega (arith, low)))) (by (centre == k))
  where
    by : (b : Bool) → (if b then [] else lists k) ≡ []
    by true = refl
    by false = none k (omega arith)

-- what is made of each list
pub made_but : {A B : Type 0} (make : List A → List B) (centre : ℕ) (lists : ℕ → List A) → make [] ≡ []
    → ((xs ys : List A) → make (xs ++ ys) ≡ make xs ++ make ys) → (k : ℕ) → make (all_but centre lists k) ≡ all_but centre (λ n. make (lists n)) k
made_but make centre lists none joined zero = none
made_but {A} {B} make centre lists none joined (suc k) =
    joined (all_but centre lists k) (if centre == k then [] else lists k)
    ∙ ap₂ (λ (xs ys : List B). xs ++ ys) (made_but make centre lists none joined k) (by (centre == k))
  where
    by : (b : Bool) → make (if b then [] else lists k) ≡ (if b then [] else make (lists k))
    by true = none
    by false = refl

-- ---- commands

-- of commands, as they go down
pub below_but : (indices : List Spans) (centre : ℕ) (lists : ℕ → List Command) (k : ℕ)
    → commands_below indices (all_but centre lists k) ≡ all_but centre (λ n. commands_below indices (lists n)) k
below_but indices centre lists k = made_but (commands_below indices) centre lists refl (filter_map-append (command_below indices)) k

-- of the entries of books
pub ordered_but : (indices : List Spans) (centre : ℕ) (lists : ℕ → List Entry) (k : ℕ)
    → commands_below indices (commands_in (all_but centre lists k)) ≡ all_but centre (λ n. commands_below indices (commands_in (lists n))) k
ordered_but indices centre lists k =
    ap (commands_below indices) (made_but commands_in centre lists refl (λ xs ys. map-append command_of xs ys) k)
    ∙ below_but indices centre (λ n. commands_in (lists n)) k

-- ---- where it is from

nothing_from : (indices : List Spans) → IsFrom indices (record { performed = []; orders = [] })
nothing_from indices = record { entered = record { at_most = λ test. omega arith }; widths = All-nil HasWidths }

from_joined : (indices : List Spans) (performed performed' : List Command) (orders orders' : List Entry)
    → IsFrom indices (record { performed = performed; orders = orders }) → IsFrom indices (record { performed = performed'; orders = orders' })
    → IsFrom indices (record { performed = performed ++ performed'; orders = orders ++ orders' })
from_joined indices performed performed' orders orders' f g = record {
  entered = rw (filter_map-append, map-append, filter_map-append) (record {
    at_most = λ test. omega (
      arith,
      f.entered.at_most test,
      g.entered.at_most test,
      count_by-append test (commands_below indices performed) (commands_below indices performed'),
      count_by-append test (commands_below indices (commands_in orders)) (commands_below indices (commands_in orders')),
    );
  });
  widths = All-append HasWidths performed performed' f.widths g.widths;
}

-- what stands at all others is from there
pub from_but : (indices : List Spans) (centre : ℕ) (sides : ℕ → Elsewhere) (k : ℕ) → ((n : ℕ) → n < k → IsFrom indices (sides n))
    → IsFrom indices (record { performed = all_but centre (λ n. (sides n).performed) k; orders = all_but centre (λ n. (sides n).orders) k })
from_but indices centre sides zero from = nothing_from indices
from_but indices centre sides (suc k) from =
    from_joined indices _ _ _ _ (from_but indices centre sides k (λ n low. from n (omega (arith, low)))) (by (centre == k))
  where
    by : (b : Bool) → IsFrom indices (record { performed = if b then [] else (sides k).performed; orders = if b then [] else (sides k).orders })
    by true = nothing_from indices
    by false = from k (omega arith)
