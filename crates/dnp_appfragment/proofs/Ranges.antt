-- Ranges, read and spelled.
use Rattle.std.proofs.Common.{◌≡◌, refl, sym, ◌∙◌, ap, subst, ℕ, ◌+◌, ◌*◌, ◌/◌, ◌%◌, ◌<◌, Bool, true, false, cond, List, [], ◌∷◌, ◌++◌, length, arith, Result, Ok, Err, eqb-true, ◌==◌, nat_lt}
use Rattle.std.proofs.lemmas.Bool.{cond_both, ltb-true, ltb-false, le-ltb, lt-ltb, eqb-false, ne_eqb}
use Rattle.std.proofs.lemmas.List.{length-append, append_assoc}
use Rattle.dnp_appfragment.specs.declared.fault.AppFault.{AppFault}
use Rattle.dnp_appfragment.specs.declared.fault.AppFault.TheVariants.{HeaderCut, QualifierUnknown, RangeBackward}
use Rattle.dnp_appfragment.specs.declared.header.Range.{Range}
use Rattle.dnp_appfragment.specs.declared.header.Range.TheVariants as range
use Rattle.dnp_appfragment.specs.declared.qualifier.TheConstants as qualifier
use Rattle.dnp_appfragment.specs.Headers.{qualifier_of, number, range_octets, NumbersFit, IsForward}
use Rattle.dnp_appfragment.specs.Faults.{range_size}
use Rattle.dnp_appfragment.specs.Reading.{◌>>=◌, number_at, span_at, count_at, indexed_at, range_at}
use Rattle.dnp_appfragment.proofs.TableLines.{known}
use Rattle.dnp_appfragment.proofs.Numbers.{AreOctets, number_size, length-number, ReadsNumber, number_reads, number_again, number_short}

-- the octets are this range's, of this qualifier, and its numbers fit
pub record IsRangeOf (q : ℕ) (octets : List ℕ) (r : Range) (rest : List ℕ) : Type 0 where
  pub qualifier : q ≡ qualifier_of r
  pub fits : NumbersFit r
  pub whole : octets ≡ range_octets r ++ rest

-- a range whose stop is under its start
pub record HasBackward (q : ℕ) (octets : List ℕ) : Type 0 where
  pub range : Range
  pub rest : List ℕ
  pub is : IsRangeOf q octets range rest
  pub backward : IsForward range → ⊥

-- what range a qualifier reads, or why none
abbrev pub ReadsRange : ℕ → List ℕ → Result (Range × List ℕ) AppFault → Type 0
ReadsRange q octets (Ok x) = IsRangeOf q octets x.0 x.1 × IsForward x.0 × AreOctets x.1
ReadsRange q octets (Err HeaderCut) = length octets < range_size q
ReadsRange q octets (Err RangeBackward) = HasBackward q octets
ReadsRange q octets (Err QualifierUnknown) = known q ≡ false
ReadsRange q octets (Err _) = ⊥

-- one number
count_reads : (wide : Bool) (octets : List ℕ) → AreOctets octets → ReadsRange (cond wide qualifier.WIDE_COUNT qualifier.COUNT) octets (count_at wide octets)
count_reads wide octets are = go wide (number_at wide octets) (number_reads wide octets are)
  where
    go : (wide : Bool) (r : Result (ℕ × List ℕ) AppFault) → ReadsNumber wide octets r
        → ReadsRange (cond wide qualifier.WIDE_COUNT qualifier.COUNT) octets (r >>= λ (n : ℕ × List ℕ). Ok (range.Count wide n.0, n.1))
    go wide (Ok x) reads = (record { qualifier = refl; fits = reads.0; whole = reads.1 }, tt, reads.2)
    go false (Err e) reads = subst (λ (d : AppFault). ReadsRange qualifier.COUNT octets (Err d)) (sym reads.0) reads.1
    go true (Err e) reads = subst (λ (d : AppFault). ReadsRange qualifier.WIDE_COUNT octets (Err d)) (sym reads.0) reads.1

indexed_reads : (wide : Bool) (octets : List ℕ) → AreOctets octets → ReadsRange (cond wide qualifier.WIDE_INDEXED qualifier.INDEXED) octets (indexed_at wide octets)
indexed_reads wide octets are = go wide (number_at wide octets) (number_reads wide octets are)
  where
    go : (wide : Bool) (r : Result (ℕ × List ℕ) AppFault) → ReadsNumber wide octets r
        → ReadsRange (cond wide qualifier.WIDE_INDEXED qualifier.INDEXED) octets (r >>= λ (n : ℕ × List ℕ). Ok (range.Indexed wide n.0, n.1))
    go wide (Ok x) reads = (record { qualifier = refl; fits = reads.0; whole = reads.1 }, tt, reads.2)
    go false (Err e) reads = subst (λ (d : AppFault). ReadsRange qualifier.INDEXED octets (Err d)) (sym reads.0) reads.1
    go true (Err e) reads = subst (λ (d : AppFault). ReadsRange qualifier.WIDE_INDEXED octets (Err d)) (sym reads.0) reads.1

-- a start and a stop
span_cut : (wide : Bool) (octets : List ℕ) (e : AppFault) → e ≡ HeaderCut → length octets < number_size wide + number_size wide
    → ReadsRange (cond wide qualifier.WIDE_SPAN qualifier.SPAN) octets (Err e)
span_cut false octets e is few = subst (λ (d : AppFault). ReadsRange qualifier.SPAN octets (Err d)) (sym is) few
span_cut true octets e is few = subst (λ (d : AppFault). ReadsRange qualifier.WIDE_SPAN octets (Err d)) (sym is) few

both_numbers : (wide : Bool) (octets rest last : List ℕ) (a b : ℕ) → octets ≡ number wide a ++ rest → rest ≡ number wide b ++ last
    → octets ≡ (number wide a ++ number wide b) ++ last
both_numbers wide octets rest last a b first second =
    first ∙ ap (λ (t : List ℕ). number wide a ++ t) second ∙ sym (append_assoc (number wide a) (number wide b) last)

span_reads : (wide : Bool) (octets : List ℕ) → AreOctets octets → ReadsRange (cond wide qualifier.WIDE_SPAN qualifier.SPAN) octets (span_at wide octets)
unfolding span_at
span_reads wide octets are = first (number_at wide octets) (number_reads wide octets are)
  where
    stop : (a : ℕ × List ℕ) → ReadsNumber wide octets (Ok a) → (b : ℕ × List ℕ) → ReadsNumber wide a.1 (Ok b)
        → (backward : Bool) → nat_lt b.0 a.0 ≡ backward
        → ReadsRange (cond wide qualifier.WIDE_SPAN qualifier.SPAN) octets (cond backward (Err RangeBackward) (Ok (range.Span wide a.0 b.0, b.1)))
    stop a start b end true is = record {
      range = range.Span wide a.0 b.0;
      rest = b.1;
      is = record { qualifier = refl; fits = (start.0, end.0); whole = both_numbers wide octets a.1 b.1 a.0 b.0 start.1 end.1 };
      backward = λ forward. let less : b.0 < a.0 = ltb-true b.0 a.0 is in omega arith;
    }
    stop a start b end false is = (
      record { qualifier = refl; fits = (start.0, end.0); whole = both_numbers wide octets a.1 b.1 a.0 b.0 start.1 end.1 },
      ltb-false b.0 a.0 is,
      end.2,
    )

    second : (a : ℕ × List ℕ) → ReadsNumber wide octets (Ok a) → (r : Result (ℕ × List ℕ) AppFault) → ReadsNumber wide a.1 r
        → ReadsRange (cond wide qualifier.WIDE_SPAN qualifier.SPAN) octets (r >>= λ (b : ℕ × List ℕ). cond (nat_lt b.0 a.0) (Err RangeBackward) (Ok (range.Span wide a.0 b.0, b.1)))
    second a start (Ok b) end = stop a start b end (nat_lt b.0 a.0) refl
    second a start (Err e) end =
        let size : length octets ≡ number_size wide + length a.1 =
        ap length start.1 ∙ length-append (number wide a.0) a.1 ∙ ap (λ (n : ℕ). n + length a.1) (length-number wide a.0) in
        let few : length a.1 < number_size wide = end.1 in
        span_cut wide octets e end.0 (omega arith)

    first : (r : Result (ℕ × List ℕ) AppFault) → ReadsNumber wide octets r
        → ReadsRange (cond wide qualifier.WIDE_SPAN qualifier.SPAN) octets (r >>= λ (a : ℕ × List ℕ). number_at wide a.1 >>= λ (b : ℕ × List ℕ). cond (nat_lt b.0 a.0) (Err RangeBackward) (Ok (range.Span wide a.0 b.0, b.1)))
    first (Ok a) start = second a start (number_at wide a.1) (number_reads wide a.1 start.2)
    first (Err e) start = let few : length octets < number_size wide = start.1 in span_cut wide octets e start.0 (omega arith)

-- another number than the seven
none_known : (q : ℕ) → (q == qualifier.SPAN) ≡ false → (q == qualifier.WIDE_SPAN) ≡ false → (q == qualifier.ALL) ≡ false → (q == qualifier.COUNT) ≡ false → (q == qualifier.WIDE_COUNT) ≡ false
    → (q == qualifier.INDEXED) ≡ false → (q == qualifier.WIDE_INDEXED) ≡ false → known q ≡ false
unfolding known
none_known q a b c d e f g = rw (other qualifier.ALL c, other qualifier.SPAN a, other qualifier.WIDE_SPAN b, other qualifier.COUNT d, other qualifier.WIDE_COUNT e, other qualifier.INDEXED f, other qualifier.WIDE_INDEXED g)
  where
    other : (k : ℕ) → (q == k) ≡ false → (k == q) ≡ false
    other k ne = ne_eqb k q (λ same. eqb-false q k ne (sym same))

-- a qualifier's range is what is read
turn : (q k : ℕ) (octets : List ℕ) (here others : Result (Range × List ℕ) AppFault) → ReadsRange k octets here
    → ((q == k) ≡ false → ReadsRange q octets others) → ReadsRange q octets (cond (q == k) here others)
turn q k octets here others at other =
    cond_both (q == k) here others (λ r. ReadsRange q octets r)
    (λ e. subst (λ (n : ℕ). ReadsRange n octets here) (sym (eqb-true q k e)) at) other

pub range_reads : (q : ℕ) (octets : List ℕ) → AreOctets octets → ReadsRange q octets (range_at q octets)
unfolding range_at
range_reads q octets are =
    turn q qualifier.SPAN octets (span_at false octets) _ (span_reads false octets are) (λ a.
    turn q qualifier.WIDE_SPAN octets (span_at true octets) _ (span_reads true octets are) (λ b.
    turn q qualifier.ALL octets (Ok (range.All, octets)) _ (record { qualifier = refl; fits = tt; whole = refl }, tt, are) (λ c.
    turn q qualifier.COUNT octets (count_at false octets) _ (count_reads false octets are) (λ d.
    turn q qualifier.WIDE_COUNT octets (count_at true octets) _ (count_reads true octets are) (λ e.
    turn q qualifier.INDEXED octets (indexed_at false octets) _ (indexed_reads false octets are) (λ f.
    turn q qualifier.WIDE_INDEXED octets (indexed_at true octets) _ (indexed_reads true octets are) (λ g.
    none_known q a b c d e f g)))))))

-- ---- and what is spelled is read

span_again : (wide : Bool) (a b : ℕ) (rest : List ℕ)
    → span_at wide ((number wide a ++ number wide b) ++ rest) ≡ cond (nat_lt b a) (Err RangeBackward) (Ok (range.Span wide a b, rest))
unfolding span_at
span_again false a b rest = refl
span_again true a b rest =
    let first : a % 256 + 256 * (a / 256) ≡ a = omega arith in
    let last : b % 256 + 256 * (b / 256) ≡ b = omega arith in
    λ i. cond (nat_lt (last i) (first i)) (Err RangeBackward) (Ok (range.Span true (first i) (last i), rest))

at_qualifier : (r : Range) (rest : List ℕ) → Result (Range × List ℕ) AppFault
at_qualifier range.All rest = Ok (range.All, rest)
at_qualifier (range.Span wide a b) rest = cond (nat_lt b a) (Err RangeBackward) (Ok (range.Span wide a b, rest))
at_qualifier (range.Count wide n) rest = Ok (range.Count wide n, rest)
at_qualifier (range.Indexed wide n) rest = Ok (range.Indexed wide n, rest)

read_back : (r : Range) (rest : List ℕ) → range_at (qualifier_of r) (range_octets r ++ rest) ≡ at_qualifier r rest
unfolding range_at at_qualifier
read_back range.All rest = refl
read_back (range.Span false a b) rest = span_again false a b rest
read_back (range.Span true a b) rest = span_again true a b rest
read_back (range.Count false n) rest = refl
read_back (range.Count true n) rest = ap (λ (r : Result (ℕ × List ℕ) AppFault). r >>= λ (n : ℕ × List ℕ). Ok (range.Count true n.0, n.1)) (number_again true n rest)
read_back (range.Indexed false n) rest = refl
read_back (range.Indexed true n) rest = ap (λ (r : Result (ℕ × List ℕ) AppFault). r >>= λ (n : ℕ × List ℕ). Ok (range.Indexed true n.0, n.1)) (number_again true n rest)

pub range_again : (r : Range) (rest : List ℕ) → IsForward r → range_at (qualifier_of r) (range_octets r ++ rest) ≡ Ok (r, rest)
unfolding at_qualifier
range_again range.All rest forward = read_back range.All rest
range_again (range.Span wide a b) rest forward =
    read_back (range.Span wide a b) rest ∙ rw (le-ltb b a forward)
range_again (range.Count wide n) rest forward = read_back (range.Count wide n) rest
range_again (range.Indexed wide n) rest forward = read_back (range.Indexed wide n) rest

pub range_back : (r : Range) (rest : List ℕ) → (IsForward r → ⊥) → range_at (qualifier_of r) (range_octets r ++ rest) ≡ Err RangeBackward
unfolding at_qualifier
range_back range.All rest backward = absurd (backward tt)
range_back (range.Span wide a b) rest backward =
    read_back (range.Span wide a b) rest ∙ rw (lt-ltb b a (omega (arith, backward)))
range_back (range.Count wide n) rest backward = absurd (backward tt)
range_back (range.Indexed wide n) rest backward = absurd (backward tt)

-- too few octets are no range
span_short : (wide : Bool) (octets : List ℕ) → length octets < number_size wide + number_size wide → span_at wide octets ≡ Err HeaderCut
unfolding span_at
span_short false [] few = refl
span_short false (a ∷ []) few = refl
span_short false (a ∷ b ∷ rest) few = absurd (omega arith)
span_short true [] few = refl
span_short true (a ∷ []) few = refl
span_short true (a ∷ b ∷ []) few = refl
span_short true (a ∷ b ∷ c ∷ []) few = refl
span_short true (a ∷ b ∷ c ∷ d ∷ rest) few = absurd (omega arith)

at_short : (q k : ℕ) (octets : List ℕ) (here others : Result (Range × List ℕ) AppFault) (size more : ℕ)
    → (length octets < size → here ≡ Err HeaderCut) → (length octets < more → others ≡ Err HeaderCut)
    → length octets < cond (q == k) size more → cond (q == k) here others ≡ Err HeaderCut
at_short q k octets here others size more at other = go (q == k)
  where
    go : (b : Bool) → length octets < cond b size more → cond b here others ≡ Err HeaderCut
    go true few = at few
    go false few = other few

count_short : (wide : Bool) (octets : List ℕ) → length octets < number_size wide → count_at wide octets ≡ Err HeaderCut
count_short wide octets few = ap (λ (r : Result (ℕ × List ℕ) AppFault). r >>= λ (n : ℕ × List ℕ). Ok (range.Count wide n.0, n.1)) (number_short wide octets few)

indexed_short : (wide : Bool) (octets : List ℕ) → length octets < number_size wide → indexed_at wide octets ≡ Err HeaderCut
indexed_short wide octets few = ap (λ (r : Result (ℕ × List ℕ) AppFault). r >>= λ (n : ℕ × List ℕ). Ok (range.Indexed wide n.0, n.1)) (number_short wide octets few)

below_none : (n m : ℕ) → n < m → m ≡ 0 → ⊥
below_none n m less none = omega arith

-- the ranges that are one number
abbrev count_size : ℕ → ℕ
count_size q = cond (q == qualifier.COUNT) 1 (cond (q == qualifier.WIDE_COUNT) 2 (cond (q == qualifier.INDEXED) 1 (cond (q == qualifier.WIDE_INDEXED) 2 0)))

abbrev counts_at : ℕ → List ℕ → Result (Range × List ℕ) AppFault
counts_at q octets =
    cond (q == qualifier.COUNT) (count_at false octets) (cond (q == qualifier.WIDE_COUNT) (count_at true octets)
    (cond (q == qualifier.INDEXED) (indexed_at false octets) (cond (q == qualifier.WIDE_INDEXED) (indexed_at true octets) (Err QualifierUnknown))))

count_cut : (q : ℕ) (octets : List ℕ) → length octets < count_size q → counts_at q octets ≡ Err HeaderCut
count_cut q octets =
    at_short q qualifier.COUNT octets (count_at false octets) _ 1 _ (count_short false octets)
    (at_short q qualifier.WIDE_COUNT octets (count_at true octets) _ 2 _ (count_short true octets)
    (at_short q qualifier.INDEXED octets (indexed_at false octets) _ 1 _ (indexed_short false octets)
    (at_short q qualifier.WIDE_INDEXED octets (indexed_at true octets) _ 2 _ (indexed_short true octets) (λ few. absurd (omega arith)))))

pub range_short : (q : ℕ) (octets : List ℕ) → length octets < range_size q → range_at q octets ≡ Err HeaderCut
unfolding range_at
range_short q octets =
    at_short q qualifier.SPAN octets (span_at false octets) _ 2 _ (span_short false octets)
    (at_short q qualifier.WIDE_SPAN octets (span_at true octets) _ 4 _ (span_short true octets)
    (skip (q == qualifier.ALL) refl))
  where
    skip : (b : Bool) → (q == qualifier.ALL) ≡ b → length octets < count_size q → cond b (Ok (range.All, octets)) (counts_at q octets) ≡ Err HeaderCut
    skip true is few = absurd (below_none (length octets) _ few (ap count_size (eqb-true q qualifier.ALL is)))
    skip false is few = count_cut q octets few
