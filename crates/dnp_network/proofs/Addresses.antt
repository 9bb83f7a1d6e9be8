-- An address that is read as a whole text is the one that the text spells.
use Rattle.std.proofs.Common.{◌≡◌, ℕ, List, [], ◌∷◌, length, Some, None, refl, sym, ◌∙◌, subst, arith, append-nil, ne_eqb, lit≤}
use Rattle.std.specs.Net.Grammar.{IsDotted, IsColonHex, IsIpv4Text, IsIpv6Text}
use Rattle.std.specs.Net.Reader.{Read, read_ipv4, read_ipv6, whole_value}
use Rattle.std.specs.declared.net.ipv4_addr.Ipv4Addr.{Ipv4Addr}
use Rattle.std.specs.declared.net.ipv6_addr.Ipv6Addr.{Ipv6Addr}
use Rattle.std.proofs.NetLemmas.Ipv4.{read_ipv4_complete, read_ipv4_sound}
use Rattle.std.proofs.NetLemmas.Ipv6.{read_ipv6_complete, read_ipv6_sound, EndsGroups-nil}
use Rattle.dnp_network.specs.Endpoints.{v4_of, v6_of}

whole : (r : Read (List ℕ)) (value : List ℕ) → r ≡ Some (value, []) → Some value ≡ whole_value r
whole r value e = rw e refl

left_over : (value : List ℕ) (c : ℕ) (rest : List ℕ) → None ≡ whole_value {A = List ℕ} (Some (value, c ∷ rest))
left_over value c rest = rw (ne_eqb (length (c ∷ rest)) 0 (omega arith)) refl

pub v4_read : (text octets : List ℕ) → IsDotted text octets → Some octets ≡ v4_of text
unfolding v4_of
v4_read text octets h = whole _ octets (rw append-nil at (read_ipv4_complete text octets [] h (lit≤ tt)))

v4_rest : (text : List ℕ) → ((a : Ipv4Addr) → ¬ (IsIpv4Text text a)) → (octets rest : List ℕ) → read_ipv4 text ≡ Some (octets, rest) →
    None ≡ whole_value {A = List ℕ} (Some (octets, rest))
v4_rest text none octets [] e =
    let (front, split, dotted) = read_ipv4_sound text octets [] e in
    absurd (none (record { octets = octets }) (subst (λ (t : List ℕ). IsDotted t octets) (sym (split ∙ append-nil front)) dotted))
v4_rest text none octets (c ∷ rest) e = left_over octets c rest

v4_cases : (text : List ℕ) → ((a : Ipv4Addr) → ¬ (IsIpv4Text text a)) → (r : Read (List ℕ)) → read_ipv4 text ≡ r → None ≡ whole_value r
v4_cases text none None e = refl
v4_cases text none (Some p) e = v4_rest text none p.0 p.1 e

pub v4_unread : (text : List ℕ) → ((a : Ipv4Addr) → ¬ (IsIpv4Text text a)) → None ≡ v4_of text
unfolding v4_of
v4_unread text none = v4_cases text none (read_ipv4 text) refl

pub v6_read : (text groups : List ℕ) → IsColonHex text groups → Some groups ≡ v6_of text
unfolding v6_of
v6_read text groups h = whole _ groups (rw append-nil at (read_ipv6_complete text groups [] h EndsGroups-nil))

v6_rest : (text : List ℕ) → ((a : Ipv6Addr) → ¬ (IsIpv6Text text a)) → (groups rest : List ℕ) → read_ipv6 text ≡ Some (groups, rest) →
    None ≡ whole_value {A = List ℕ} (Some (groups, rest))
v6_rest text none groups [] e =
    let (front, split, hex) = read_ipv6_sound text groups [] e in
    absurd (none (record { segments = groups }) (subst (λ (t : List ℕ). IsColonHex t groups) (sym (split ∙ append-nil front)) hex))
v6_rest text none groups (c ∷ rest) e = left_over groups c rest

v6_cases : (text : List ℕ) → ((a : Ipv6Addr) → ¬ (IsIpv6Text text a)) → (r : Read (List ℕ)) → read_ipv6 text ≡ r → None ≡ whole_value r
v6_cases text none None e = refl
v6_cases text none (Some p) e = v6_rest text none p.0 p.1 e

pub v6_unread : (text : List ℕ) → ((a : Ipv6Addr) → ¬ (IsIpv6Text text a)) → None ≡ v6_of text
unfolding v6_of
v6_unread text none = v6_cases text none (read_ipv6 text) refl
