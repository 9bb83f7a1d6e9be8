-- The headers that are named, and those that are counted.
use Rattle.std.proofs.Common.{◌≡◌, ℕ, zero, suc, ◌+◌, ◌-◌, ◌<◌, ◌^◌, List, [], ◌∷◌, ◌++◌, length, take, min, refl, sym, ◌∙◌, ap, append_assoc, append-nil, arith}
use Rattle.std.proofs.lemmas.Grind.{common_steps}
use Rattle.std.specs.List.{flat_map}
use Rattle.dnp_appfragment.specs.Headers.{Head}
use Rattle.dnp_trace.specs.Phrases.{header_phrase, headers_phrase, more_phrase}

-- one header fewer is still named
pub named_less : (out after : List ℕ) (room : ℕ) (h : Head) (all rest : List Head) (whole : List ℕ) → 0 < room → all ≡ h ∷ rest
    → after ≡ out ++ header_phrase h → out ++ flat_map header_phrase (take room all) ≡ whole
    → after ++ flat_map header_phrase (take (room - 1) rest) ≡ whole
named_less out after zero h all rest whole some cons e before = absurd (omega arith)
named_less out after (suc r) h all rest whole some cons e before =
    let less : suc r - 1 ≡ r = omega arith in
    let tail : List ℕ = flat_map header_phrase (take r rest) in
    ap (λ (n : ℕ). after ++ flat_map header_phrase (take n rest)) less
    ∙ ap (λ (a : List ℕ). a ++ tail) e
    ∙ append_assoc out (header_phrase h) tail
    ∙ ap (λ (hs : List Head). out ++ flat_map header_phrase (take (suc r) hs)) (sym cons)
    ∙ before

pub take_none : (room : ℕ) → take room (let none : List Head = [] in none) ≡ []
take_none zero = refl
take_none (suc room) = refl

-- all are named or counted
pub named_all : (out init new : List ℕ) (room left : ℕ) (all hs : List Head) → all ≡ [] → left < 2 ^ 64
    → out ++ flat_map header_phrase (take room all) ≡ init ++ flat_map header_phrase (take 8 hs)
    → min (left + (length all - room)) (2 ^ 64 - 1) ≡ min (length hs - 8) (2 ^ 64 - 1)
    → new ≡ out ++ more_phrase left → new ≡ init ++ headers_phrase hs
named_all out init new room left all hs none fits named over e =
    let ended = ap length none in
    let counted : left ≡ min (length hs - 8) (2 ^ 64 - 1) = omega arith in
    let nothing : flat_map header_phrase (take room all) ≡ [] =
    ap (λ (xs : List Head). flat_map header_phrase (take room xs)) none ∙ ap (flat_map header_phrase) (take_none room) in
    let said : out ≡ init ++ flat_map header_phrase (take 8 hs) =
    sym (append-nil out) ∙ ap (λ (xs : List ℕ). out ++ xs) (sym nothing) ∙ named in
    e ∙ ap (λ (o : List ℕ). o ++ more_phrase left) said
    ∙ append_assoc init (flat_map header_phrase (take 8 hs)) (more_phrase left)
    ∙ ap (λ (n : ℕ). init ++ (flat_map header_phrase (take 8 hs) ++ more_phrase n)) counted
