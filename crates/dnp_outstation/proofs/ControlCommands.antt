-- The commands of a request, one after another.
use Rattle.std.proofs.Common.{◌≡◌, ℕ, suc, ◌+◌, ◌-◌, ◌<◌, List, [], ◌∷◌, ◌++◌, length, Option, None, Some, option_to_list, ap, sym, ◌∙◌, append_assoc, arith, length-append}
use Rattle.std.specs.List.{flat_map, range_with_len}
use Rattle.dnp_objects.specs.declared.command.Command.{Command}
use Rattle.dnp_appfragment.specs.Headers.{Head}
use Rattle.dnp_outstation.specs.Controls.{command_at, commands_from}

-- what a range gives is what its first number gives, and then the others
pub more_from : {A : Type 0} (f : ℕ → List A) (k n : ℕ) → k < n
    → flat_map f (range_with_len k (n - k)) ≡ f k ++ flat_map f (range_with_len (k + 1) (n - (k + 1)))
more_from f k n less = let one : n - k ≡ suc (n - (k + 1)) = omega arith in ap (λ m. flat_map f (range_with_len k m)) one

-- a command is put after those before it
pub one_put : (h : Head) (k n : ℕ) (before all : List Command) (c : Command) → k < n → command_at h k ≡ Some c
    → before ++ commands_from h k (n - k) ≡ all → (before ++ c ∷ []) ++ commands_from h (k + 1) (n - (k + 1)) ≡ all
one_put h k n before all c less is sum =
    append_assoc before (c ∷ []) (commands_from h (k + 1) (n - (k + 1)))
    ∙ ap (λ (o : Option Command). before ++ (option_to_list o ++ commands_from h (k + 1) (n - (k + 1)))) (sym is)
    ∙ ap (λ (cs : List Command). before ++ cs) (sym (more_from (λ i. option_to_list (command_at h i)) k n less))
    ∙ sum

-- an object that is no command puts none
pub none_put : (h : Head) (k n : ℕ) (before all : List Command) → k < n → command_at h k ≡ None
    → before ++ commands_from h k (n - k) ≡ all → before ++ commands_from h (k + 1) (n - (k + 1)) ≡ all
none_put h k n before all less is sum =
    ap (λ (o : Option Command). before ++ (option_to_list o ++ commands_from h (k + 1) (n - (k + 1)))) (sym is)
    ∙ ap (λ (cs : List Command). before ++ cs) (sym (more_from (λ i. option_to_list (command_at h i)) k n less))
    ∙ sum

-- where one more is there, they are more than those before it
pub more_than : (h : Head) (k n : ℕ) (before all : List Command) (c : Command) → k < n → command_at h k ≡ Some c
    → before ++ commands_from h k (n - k) ≡ all → length before < length all
more_than h k n before all c less is sum =
    let put = one_put h k n before all c less is sum in
    let first = length-append (before ++ c ∷ []) (commands_from h (k + 1) (n - (k + 1))) in
    let second = length-append before (c ∷ []) in
    let same : length ((before ++ c ∷ []) ++ commands_from h (k + 1) (n - (k + 1))) ≡ length all = ap (λ (cs : List Command). length cs) put in
    omega arith
