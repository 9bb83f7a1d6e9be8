-- What the clauses of a call that may fail say where it did not.
use Rattle.std.proofs.Common.{◌≡◌, true, false, Result, Ok, Err, is_ok, OnOk, refl}
use Rattle.std.proofs.lemmas.Bool.{both_ways}

pub at_ok : {T E P : Type 0} (r : Result T E) → is_ok r ≡ true → OnOk r P → P
at_ok (Ok x) e p = p
at_ok (Err x) e p = absurd (both_ways false refl e)

pub at_ok_of : {T E P : Type 0} (r : Result T E) (x : T) → r ≡ Ok x → OnOk r P → P
at_ok_of (Ok y) x e p = p
at_ok_of (Err y) x e p = absurd (cc)
