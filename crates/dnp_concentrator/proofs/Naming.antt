-- The first command of a request.
use Rattle.std.proofs.Common.{◌≡◌, ℕ, suc, ◌+◌, ◌-◌, ◌<◌, List, [], ◌∷◌, ◌++◌, Option, None, Some, option_to_list, refl, ap, sym, ◌∙◌, arith}
use Rattle.std.specs.List.{flat_map, range_with_len}
use Rattle.std.specs.Prelude.{slice_get}
use Rattle.dnp_objects.specs.declared.command.Command.{Command}
use Rattle.dnp_appfragment.specs.Headers.{Head}
use Rattle.dnp_outstation.specs.Controls.{command_at, commands_from}

-- what a range gives is what its first number gives, and then the others
more_from : {A : Type 0} (f : ℕ → List A) (k n : ℕ) → k < n
    → flat_map f (range_with_len k (n - k)) ≡ f k ++ flat_map f (range_with_len (k + 1) (n - (k + 1)))
more_from f k n less = let one : n - k ≡ suc (n - (k + 1)) = omega arith in ap (λ m. flat_map f (range_with_len k m)) one

-- the command that stands at a place is the first of those from there on
pub first_here : (h : Head) (k n : ℕ) (c : Command) → k < n → command_at h k ≡ Some c
    → slice_get (commands_from h k (n - k)) 0 ≡ Some c
first_here h k n c less is =
    ap (λ (cs : List Command). slice_get cs 0) (more_from (λ i. option_to_list (command_at h i)) k n less)
    ∙ ap (λ (o : Option Command). slice_get (option_to_list o ++ commands_from h (k + 1) (n - (k + 1))) 0) is

-- an object that is no command is passed over
pub first_later : (h : Head) (k n : ℕ) → k < n → command_at h k ≡ None
    → slice_get (commands_from h (k + 1) (n - (k + 1))) 0 ≡ slice_get (commands_from h k (n - k)) 0
first_later h k n less is =
    ap (λ (o : Option Command). slice_get (option_to_list o ++ commands_from h (k + 1) (n - (k + 1))) 0) (sym is)
    ∙ ap (λ (cs : List Command). slice_get cs 0) (sym (more_from (λ i. option_to_list (command_at h i)) k n less))
