-- A header of common times that is read has the octets of each of them.
use Rattle.std.proofs.Common.{◌≡◌, refl, sym, ◌∙◌, ap, subst, ℕ, ◌+◌, ◌*◌, ◌<◌, ◌≤◌, Bool, true, false, IsTrue, cond, nat_le, List, length, arith, Option, Some, None, Result, Ok, ◌==◌, ◌&&◌, ◌||◌, ◌⊎◌, inl, inr, eqb-true}
use Rattle.std.specs.Option.{IsSomeAnd}
use Rattle.std.proofs.lemmas.Bool.{and_parts}
use Rattle.dnp_objects.specs.Objects.{objects, content_of, object_size}
use Rattle.dnp_appfragment.specs.declared.fault.AppFault.{AppFault}
use Rattle.dnp_appfragment.specs.declared.header.Range.{Range}
use Rattle.dnp_appfragment.specs.declared.header.Range.TheVariants as range
use Rattle.dnp_appfragment.specs.declared.table.Form.{Form}
use Rattle.dnp_appfragment.specs.declared.table.Form.TheVariants as form
use Rattle.dnp_appfragment.specs.Table.{rules, takes_of, allows, count}
use Rattle.dnp_appfragment.specs.Headers.{Head, Context, IsHeader, IsHeaderAt, count_of, prefix_size, qualifier_of, octets_of, objects_size, is_common, is_relative, last_time, context_after}
use Rattle.dnp_appfragment.specs.Reading.{header_at}
use Rattle.dnp_appfragment.proofs.Numbers.{AreOctets}
use Rattle.dnp_appfragment.proofs.Grammar.{ReadsHeader, header_reads}

-- what is read is a header where it stands
pub header_is : (f : Form) (context : Context) (octets : List ℕ) (h : Head × List ℕ) → 0 < length octets → AreOctets octets
    → header_at f context octets ≡ Ok h → IsHeaderAt f context h.0
header_is f context octets h some are is =
    let reads = subst (λ (r : Result (Head × List ℕ) AppFault). ReadsHeader f context octets r) is (header_reads f context octets some are) in
    reads.0

-- the lines of the table
synchronized : (f : Form) → (takes_of f 51 1 ≡ None) ⊎ ((f ≡ form.Response) × (takes_of f 51 1 ≡ Some count))
unfolding takes_of rules objects content_of
synchronized form.Bare = inl refl
synchronized form.Read = inl refl
synchronized form.Write = inl refl
synchronized form.Command = inl refl
synchronized form.Enable = inl refl
synchronized form.Response = inr (refl, refl)

other_clock : (f : Form) → (takes_of f 51 2 ≡ None) ⊎ ((f ≡ form.Response) × (takes_of f 51 2 ≡ Some count))
unfolding takes_of rules objects content_of
other_clock form.Bare = inl refl
other_clock form.Read = inl refl
other_clock form.Write = inl refl
other_clock form.Command = inl refl
other_clock form.Enable = inl refl
other_clock form.Response = inr (refl, refl)

first_size : object_size 51 1 ≡ Some 6
unfolding objects content_of
first_size = refl

second_size : object_size 51 2 ≡ Some 6
unfolding objects content_of
second_size = refl

counted : (r : Range) → IsTrue (allows count (qualifier_of r)) → octets_of (count_of r) (prefix_size r) (Some 6) ≡ 6 * count_of r
counted range.All is = cc
counted (range.Span true first last) is = cc
counted (range.Span false first last) is = cc
counted (range.Count wide n) is = omega arith
counted (range.Indexed true n) is = cc
counted (range.Indexed false n) is = cc

one_line : (f : Form) (v : ℕ) (r : Range) (octets : List ℕ) → (takes_of f 51 v ≡ None) ⊎ ((f ≡ form.Response) × (takes_of f 51 v ≡ Some count))
    → object_size 51 v ≡ Some 6 → IsSomeAnd (takes_of f 51 v) (λ takes. IsTrue (allows takes (qualifier_of r)))
    → length octets ≡ objects_size f 51 v r → 6 * count_of r ≤ length octets
one_line f v r octets (inl none) size object sized =
    absurd (subst (λ (o : Option (List ℕ)). IsSomeAnd o (λ takes. IsTrue (allows takes (qualifier_of r)))) none object)
one_line f v r octets (inr line) size object sized =
    let takes = subst (λ (o : Option (List ℕ)). IsSomeAnd o (λ takes. IsTrue (allows takes (qualifier_of r)))) line.1 object in
    let all : length octets ≡ octets_of (count_of r) (prefix_size r) (object_size 51 v) = sized ∙ ap (λ (g : Form). objects_size g 51 v r) line.0 in
    omega (arith, all, ap (octets_of (count_of r) (prefix_size r)) size, counted r takes)

pub common_full : (f : Form) (h : Head) → IsHeader f h → is_common h ≡ true → 6 * count_of h.range ≤ length h.octets
common_full f h is common = go ((h.variation == 1)) refl
  where
    both : ((h.group == 51) ≡ true) × (((h.variation == 1) || (h.variation == 2)) ≡ true)
    both = and_parts (h.group == 51) ((h.variation == 1) || (h.variation == 2)) common

    group : h.group ≡ 51
    group = eqb-true h.group 51 both.0

    at : (v : ℕ) → h.variation ≡ v → (takes_of f 51 v ≡ None) ⊎ ((f ≡ form.Response) × (takes_of f 51 v ≡ Some count)) → object_size 51 v ≡ Some 6
        → 6 * count_of h.range ≤ length h.octets
    at v variation line size =
        one_line f v h.range h.octets line size
        (subst (λ (p : ℕ × ℕ). IsSomeAnd (takes_of f p.0 p.1) (λ takes. IsTrue (allows takes (qualifier_of h.range)))) (λ i. (group i, variation i)) is.object)
        (is.objects ∙ (λ i. objects_size f (group i) (variation i) h.range))

    go : (b : Bool) → (h.variation == 1) ≡ b → 6 * count_of h.range ≤ length h.octets
    go true one = at 1 (eqb-true h.variation 1 one) (synchronized f) first_size
    go false one =
        let two : (h.variation == 2) ≡ true = sym (ap (λ (b : Bool). b || (h.variation == 2)) one) ∙ both.1 in
        at 2 (eqb-true h.variation 2 two) (other_clock f) second_size

pub common_there : (f : Form) (context : Context) (octets : List ℕ) (h : Head × List ℕ) → 0 < length octets → AreOctets octets
    → header_at f context octets ≡ Ok h → is_common h.0 ≡ true → 6 * count_of h.0.range ≤ length h.0.octets
common_there f context octets h some are is common =
    let there = header_is f context octets h some are is in common_full f h.0 there.header common

-- ---- headers of times that are given after a common one

-- they leave it as it is
pub relative_keeps : (context : Context) (h : Head) → is_relative h.group h.variation ≡ true → context_after context h ≡ context
relative_keeps context h relative =
    let names = and_parts (h.group == 2) (h.variation == 3) relative in
    let group : h.group ≡ 2 = eqb-true h.group 2 names.0 in
    ap (λ (g : ℕ). cond (((g == 51) && ((h.variation == 1) || (h.variation == 2))) && nat_le 1 (count_of h.range)) (Some (last_time h)) context) group

relative_line : (f : Form) → (takes_of f 2 3 ≡ None) ⊎ (f ≡ form.Response)
unfolding takes_of rules objects content_of
relative_line form.Bare = inl refl
relative_line form.Read = inl refl
relative_line form.Write = inl refl
relative_line form.Command = inl refl
relative_line form.Enable = inl refl
relative_line form.Response = inr refl

relative_size : object_size 2 3 ≡ Some 3
unfolding objects content_of
relative_size = refl

-- and have three octets for each object, after its index
pub relative_long : (f : Form) (h : Head) → IsHeader f h → is_relative h.group h.variation ≡ true
    → length h.octets ≡ count_of h.range * (prefix_size h.range + 3)
relative_long f h is relative = go (relative_line f)
  where
    names : ((h.group == 2) ≡ true) × ((h.variation == 3) ≡ true)
    names = and_parts (h.group == 2) (h.variation == 3) relative

    group : h.group ≡ 2
    group = eqb-true h.group 2 names.0

    variation : h.variation ≡ 3
    variation = eqb-true h.variation 3 names.1

    go : (takes_of f 2 3 ≡ None) ⊎ (f ≡ form.Response) → length h.octets ≡ count_of h.range * (prefix_size h.range + 3)
    go (inl none) =
        absurd (subst (λ (o : Option (List ℕ)). IsSomeAnd o (λ takes. IsTrue (allows takes (qualifier_of h.range))))
        ((λ i. takes_of f (group i) (variation i)) ∙ none) is.object)
    go (inr response) =
        is.objects ∙ (λ i. objects_size (response i) (group i) (variation i) h.range)
        ∙ ap (octets_of (count_of h.range) (prefix_size h.range)) relative_size
