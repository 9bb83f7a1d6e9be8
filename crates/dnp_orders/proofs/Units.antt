-- What stands before a unit.
use Rattle.std.proofs.Common.{◌≡◌, ℕ, ◌-◌, true, false, List, length, take, sym, ◌∙◌, ap, subst, Option, Some, None, arith, Bor}
use Rattle.std.specs.Option.{MatchOption}
use Rattle.std.specs.Str.{IsCharBoundary}
use Rattle.std.specs.Str.Pattern.{FindsTextSuffix, StripsSuffix}
use Rattle.std.proofs.lemmas.Str.Pattern.{ends_text}
use Rattle.dnp_orders.specs.Numbers.{ends_in, front_of}

pub stripped : (unit word : List ℕ) (r : Option (Bor (List ℕ))) →
    MatchOption r (FindsTextSuffix unit word None) (λ x. StripsSuffix (FindsTextSuffix unit) word x.now) →
    MatchOption r (ends_in unit word ≡ false) (λ x. (ends_in unit word ≡ true) × (x.now ≡ front_of unit word))
stripped unit word None none = sym (ends_text false unit word none)
stripped unit word (Some x) (n, finds, front, long) = (
  sym (ends_text true unit word (n, finds, omega (arith, long), subst (λ (k : ℕ). IsCharBoundary word (length word - k)) (sym finds.0) finds.2)),
  front ∙ ap (λ (k : ℕ). take (length word - k) word) finds.0,
)
