-- What follows where a call went well, and where it was refused.
use Rattle.std.proofs.Common.{◌≡◌, ◌↔◌, IsErrAnd, Result, Ok, Err, OnOk, OnErr}

pub at_ok : {A E P Q : Type 0} (r : Result A E) → OnOk r P → (P → Q) → OnOk r Q
at_ok (Ok a) p f = f p
at_ok (Err e) p f = tt

pub at_err : {A E P Q : Type 0} (r : Result A E) → OnErr r P → (P → Q) → OnErr r Q
at_err (Ok a) p f = tt
at_err (Err e) p f = f p

pub both_ok : {A E : Type 0} (P Q : Type 0) (r : Result A E) → OnOk r P → OnOk r Q → OnOk r (P × Q)
both_ok P Q (Ok a) p q = (p, q)
both_ok P Q (Err e) p q = tt

pub both_err : {A E : Type 0} (P Q : Type 0) (r : Result A E) → OnErr r P → OnErr r Q → OnErr r (P × Q)
both_err P Q (Ok a) p q = tt
both_err P Q (Err e) p q = (p, q)

pub not_both : {A E : Type 0} (r : Result A E) (x : A) (e : E) → r ≡ Ok x → r ≡ Err e → ⊥
not_both r x e well refused = cc

-- A call tells a fault just where P. So does whoever hands on what it answers,
pub handed_on : {A B E P : Type 0} (r : Result A E) (s : Result B E) (fault told : E) → r ≡ Err fault → IsErrAnd s (λ x. x ≡ fault)
    → (r ≡ Err told) ↔ P → (s ≡ Err told) ↔ P
handed_on r (Ok x) fault told here handed when = absurd handed
handed_on r (Err x) fault told here handed when = (λ says. when.0 (cc), λ p. let its = when.1 p in cc)

-- and whoever does not tell it, once the call went through
pub went_on : {A B E P : Type 0} (r : Result A E) (x : A) (s : Result B E) (told : E) → r ≡ Ok x → (s ≡ Err told → ⊥)
    → (r ≡ Err told) ↔ P → (s ≡ Err told) ↔ P
went_on r x s told well never when = (λ says. absurd (never says), λ p. absurd (not_both r x told well (when.1 p)))
