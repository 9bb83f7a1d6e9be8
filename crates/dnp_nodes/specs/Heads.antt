-- Definition: the head of a response (IEEE Std 1815-2012, application layer): application control, function, and two octets of indications.
use Rattle.std.specs.Prelude.{◌≡◌, ℕ, ◌++◌, ◌∷◌, [], List}
use Rattle.dnp_nodes.specs.declared.heads.Head.{Head}

abbrev pub octets_of : Head → List ℕ
octets_of head = head.control ∷ head.function ∷ head.iin.one ∷ head.iin.two ∷ []

-- the fragment begins with it
abbrev pub IsHeadOf : Head → List ℕ → Type 0
IsHeadOf head fragment = (objects : List ℕ) × (fragment ≡ octets_of head ++ objects)
