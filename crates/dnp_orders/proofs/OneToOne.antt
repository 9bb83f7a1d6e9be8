-- Words and codes are one to one.
use Rattle.std.proofs.Common.{◌≡◌, ℕ, true, false, cond, eqb, refl, sym, ◌∙◌, ap, Option, Some, None, arith}
use Rattle.std.proofs.lemmas.Bool.Decides.{nat_tests}
use Rattle.dnp_orders.specs.declared.action.Action.{Action}
use Rattle.dnp_orders.specs.declared.action.Action.TheVariants.{LatchOn, LatchOff, PulseOn, PulseOff, Close, Trip}
use Rattle.dnp_orders.specs.Actions.{action_named, action_of, code_of, word_of}

pub read_back : (a : Action) → action_named (word_of a) ≡ Some a
read_back LatchOn = refl
read_back LatchOff = refl
read_back PulseOn = refl
read_back PulseOff = refl
read_back Close = refl
read_back Trip = refl

pub of_code : (a : Action) → action_of (code_of a) ≡ Some a
of_code LatchOn = refl
of_code LatchOff = refl
of_code PulseOn = refl
of_code PulseOff = refl
of_code Close = refl
of_code Trip = refl

some_same : (a b : Action) → Some a ≡ Some b → a ≡ b
some_same a b e = cc

pub apart : (a b : Action) → code_of a ≡ code_of b → a ≡ b
apart a b e = some_same a b (sym (of_code a) ∙ ap action_of e ∙ of_code b)

eqb_is : (m n : ℕ) → eqb m n ≡ true → m ≡ n
eqb_is m n is = grind (arith, nat_tests)

-- one branch of the table
branch : (code : ℕ) (v : Action) (rest : Option Action) (a : Action) → (rest ≡ Some a → code_of a ≡ code) →
    cond (eqb code (code_of v)) (Some v) rest ≡ Some a → code_of a ≡ code
branch code v rest a more e =
    elim (eqb code (code_of v)) as (λ b. eqb code (code_of v) ≡ b → cond b (Some v) rest ≡ Some a → code_of a ≡ code) [
      | true ↦ λ is same. ap code_of (some_same a v (sym same)) ∙ sym (eqb_is code (code_of v) is)
      | false ↦ λ is same. more same
    ] refl e

none_left : (code : ℕ) (a : Action) → None ≡ Some a → code_of a ≡ code
none_left code a e = cc

pub printed : (code : ℕ) (a : Action) → action_of code ≡ Some a → code_of a ≡ code
printed code a =
    branch code LatchOn _ a (branch code LatchOff _ a (branch code PulseOn _ a
    (branch code PulseOff _ a (branch code Close _ a (branch code Trip _ a (none_left code a))))))
