-- The headers of requests stand in the table for their functions, and there is room for them.
use Rattle.std.proofs.Common.{◌≡◌, ℕ, zero, suc, ◌+◌, ◌≤◌, Bool, true, false, not, ◌&&◌, IsTrue, ◌⊎◌, inl, inr, [], ◌∷◌, ◌++◌, length, None, cond, refl, sym, subst, arith}
use Rattle.dnp_objects.specs.Objects.{objects, content_of}
use Rattle.dnp_objects.specs.declared.command.Command.{Command}
use Rattle.dnp_objects.specs.declared.command.Command.TheVariants.{Block, Set16, Set32}
use Rattle.dnp_appfragment.specs.declared.table.Form.TheVariants as form
use Rattle.dnp_appfragment.specs.Built.{Built, size, heads, with_object}
use Rattle.dnp_appfragment.specs.declared.function.Function.{Function}
use Rattle.dnp_appfragment.specs.Headers.{IsHeader, header_octets}
use Rattle.dnp_appfragment.specs.Written.{order}
use Rattle.dnp_appfragment.specs.Table.{takes_of, rules, form_of, is_response}
use Rattle.dnp_master.specs.Requests.{class_header, has_class, has_some, function_for, is_good, no_restart, time_header}
use Rattle.dnp_master.specs.declared.task.Classes.{Classes}
use Rattle.dnp_master.specs.declared.task.Task.{Task}
use Rattle.dnp_master.specs.declared.task.Task.TheVariants.{Poll, Enable, Disable}
use Rattle.std.proofs.lemmas.Bool.{false≢true}
use Rattle.std.proofs.lemmas.List.{length-append}

-- ---- a class

pub class_is_read : (class : ℕ) → class ≤ 3 → IsHeader form.Read (class_header class)
unfolding takes_of rules content_of objects
class_is_read zero le = record { object = refl; fits = tt; forward = tt; objects = refl }
class_is_read (suc zero) le = record { object = refl; fits = tt; forward = tt; objects = refl }
class_is_read (suc (suc zero)) le = record { object = refl; fits = tt; forward = tt; objects = refl }
class_is_read (suc (suc (suc zero))) le = record { object = refl; fits = tt; forward = tt; objects = refl }
class_is_read (suc (suc (suc (suc n)))) le = absurd (omega arith)

pub class_is_enabled : (class : ℕ) → 1 ≤ class → class ≤ 3 → IsHeader form.Enable (class_header class)
unfolding takes_of rules content_of objects
class_is_enabled zero low le = absurd (omega arith)
class_is_enabled (suc zero) low le = record { object = refl; fits = tt; forward = tt; objects = refl }
class_is_enabled (suc (suc zero)) low le = record { object = refl; fits = tt; forward = tt; objects = refl }
class_is_enabled (suc (suc (suc zero))) low le = record { object = refl; fits = tt; forward = tt; objects = refl }
class_is_enabled (suc (suc (suc (suc n)))) low le = absurd (omega arith)

no_class_0 : (some zero : Bool) → IsTrue (some && not zero) → zero ≡ true → ⊥
no_class_0 true true good is = false≢true good
no_class_0 false true good is = false≢true good
no_class_0 some false good is = false≢true is

-- a class other than 0
enabled_class : (classes : Classes) (class : ℕ) → IsTrue (has_some classes && not (has_class classes 0)) → has_class classes class ≡ true
    → 1 ≤ class
enabled_class classes zero good is = absurd (no_class_0 (has_some classes) (has_class classes 0) good is)
enabled_class classes (suc n) good is = omega arith

abbrev Fits : Task → ℕ → Type 0
Fits task class = IsHeader (form_of (function_for task)) (class_header class)

-- each class that a task names
pub classes_fit : (task : Task) (classes : Classes) → (task ≡ Poll classes) ⊎ ((task ≡ Enable classes) ⊎ (task ≡ Disable classes))
    → IsTrue (is_good task) → (class : ℕ) → class ≤ 3 → has_class classes class ≡ true → Fits task class
classes_fit task classes (inl is) good class le has = subst (λ (t : Task). Fits t class) (sym is) (class_is_read class le)
classes_fit task classes (inr (inl is)) good class le has =
    let here : IsTrue (is_good (Enable classes)) = subst (λ (t : Task). IsTrue (is_good t)) is good in
    subst (λ (t : Task). Fits t class) (sym is) (class_is_enabled class (enabled_class classes class here has) le)
classes_fit task classes (inr (inr is)) good class le has =
    let here : IsTrue (is_good (Disable classes)) = subst (λ (t : Task). IsTrue (is_good t)) is good in
    subst (λ (t : Task). Fits t class) (sym is) (class_is_enabled class (enabled_class classes class here has) le)

-- ---- what is written

pub no_restart_fits : IsHeader form.Write no_restart
unfolding takes_of rules content_of objects
no_restart_fits = record { object = refl; fits = (omega arith, omega arith); forward = omega arith; objects = refl }

-- ---- a command

-- into a request without headers
abbrev pub fresh : Function → Built
fresh function = record { function = function; ended = []; run = None }

order_size : (command : Command) → length (header_octets (order command 0)) ≤ 18
order_size (Block index code count on off) = omega arith
order_size (Set16 index value) = omega arith
order_size (Set32 index value) = omega arith

-- a command is the one header of its request, in which there is room for it
pub one_command : (function : Function) (command : Command)
    → (size (with_object (fresh function) (order command 0)) ≤ 1024) × (heads (with_object (fresh function) (order command 0)) ≡ order command 0 ∷ [])
unfolding with_object
one_command function command = (one_size (is_response function), refl)
  where
    one_size : (b : Bool) → (cond b 4 2) + length (header_octets (order command 0) ++ []) ≤ 1024
    one_size true = omega (arith, order_size command, length-append (header_octets (order command 0)) [])
    one_size false = omega (arith, order_size command, length-append (header_octets (order command 0)) [])

-- a time has six octets
pub time_fits : (time : ℕ) → IsHeader form.Write (time_header time)
unfolding takes_of rules content_of objects
time_fits time = record { object = refl; fits = omega arith; forward = tt; objects = refl }
