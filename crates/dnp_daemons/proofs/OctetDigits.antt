-- Octets read from their digits.
use Rattle.std.proofs.Common.{◌≡◌, ℕ, ◌≤◌, List, [], ◌∷◌, ◌++◌, ◌-◌, length, get_or, drop, take, Option, Some, None, refl, sym, ◌∙◌, ap, arith, append_assoc}
use Rattle.std.specs.Option.{option_and_then, option_map}
use Rattle.std.proofs.lemmas.List.{take_rest}
use Rattle.dnp_streams.specs.OctetLines.{octet_named}
use Rattle.dnp_daemons.specs.Names.{octets_in_digits}

-- one octet in front
joined : (done : List ℕ) (octet : ℕ) (o : Option (List ℕ)) →
    option_map (λ more. done ++ more) (option_map (λ octets. octet ∷ octets) o) ≡ option_map (λ more. (done ++ octet ∷ []) ++ more) o
joined done octet None = refl
joined done octet (Some more) = ap Some (sym (append_assoc done (octet ∷ []) more))

put_first : (octet : ℕ) (o : Option (List ℕ)) →
    option_and_then (λ octets. Some (octet ∷ octets)) o ≡ option_map (λ octets. octet ∷ octets) o
put_first octet None = refl
put_first octet (Some octets) = refl

first_octet : (high low octet : ℕ) (more : List ℕ) → octet_named high low ≡ Some octet →
    octets_in_digits (high ∷ low ∷ more) ≡ option_map (λ octets. octet ∷ octets) (octets_in_digits more)
first_octet high low octet more is = rw is (put_first octet (octets_in_digits more))

from_digits : (word rest done : List ℕ) (octet : ℕ) → 2 ≤ length rest → octet_named (get_or rest 0 0) (get_or rest 1 0) ≡ Some octet →
    octets_in_digits word ≡ option_map (λ more. done ++ more) (octets_in_digits rest) →
    octets_in_digits word ≡ option_map (λ more. (done ++ octet ∷ []) ++ more) (octets_in_digits (drop 2 rest))
from_digits word [] done octet two is before = absurd (omega arith)
from_digits word (high ∷ []) done octet two is before = absurd (omega arith)
from_digits word (high ∷ low ∷ more) done octet two is before =
    before ∙ ap (option_map (λ more. done ++ more)) (first_octet high low octet more is) ∙ joined done octet (octets_in_digits more)

-- one octet more is read, and the digits after its own are still to come
pub octet_more : (word rest done : List ℕ) (octet : ℕ) → 2 ≤ length rest → octet_named (get_or rest 0 0) (get_or rest 1 0) ≡ Some octet →
    octets_in_digits word ≡ option_map (λ more. done ++ more) (octets_in_digits rest) →
    octets_in_digits word ≡ option_map (λ more. (done ++ octet ∷ []) ++ more) (octets_in_digits (take (length rest - 2) (drop 2 rest)))
octet_more word rest done octet two is before =
    from_digits word rest done octet two is before
    ∙ ap (λ (l : List ℕ). option_map (λ more. (done ++ octet ∷ []) ++ more) (octets_in_digits l)) (sym (take_rest rest 2))
