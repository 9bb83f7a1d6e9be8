-- One header: read it is what is spelled, and refused for the first fault.
use Rattle.std.proofs.Common.{◌≡◌, refl, sym, ◌∙◌, ap, subst, ℕ, zero, suc, ◌<◌, ◌≤◌, Bool, true, false, IsTrue, cond, List, [], ◌∷◌, ◌++◌, length, take, drop, arith, Option, Some, None, Result, Ok, Err, nat_lt, inl, inr}
use Rattle.std.specs.Option.{IsSomeAnd}
use Rattle.std.proofs.lemmas.Bool.{ltb-true, ltb-false, le-ltb, lt-ltb}
use Rattle.std.proofs.lemmas.List.{length-append, append_assoc, take-append-drop, take_at, drop_at, length-take}
use Rattle.dnp_appfragment.specs.declared.fault.AppFault.{AppFault}
use Rattle.dnp_appfragment.specs.declared.fault.AppFault.TheVariants.{Short, FunctionUnknown, HeaderCut, QualifierUnknown, ObjectUnknown, RangeBackward, ObjectsCut, CommonTime}
use Rattle.dnp_appfragment.specs.declared.header.Range.{Range}
use Rattle.dnp_appfragment.specs.declared.table.Form.{Form}
use Rattle.dnp_appfragment.specs.Table.{takes_of, allows, IsInTable}
use Rattle.dnp_appfragment.specs.Headers.{Head, head_after, qualifier_of, range_octets, IsForward, objects_size, header_octets, IsHeaderAt, IsTimed, Context, common_of, is_relative}
use Rattle.dnp_appfragment.specs.Faults.{IsHeaderFault}
use Rattle.dnp_appfragment.specs.Reading.{◌>>=◌, range_at, taken, is_timed, timed_at, objects_at, header_at}
use Rattle.dnp_appfragment.proofs.Numbers.{AreOctets}
use Rattle.dnp_appfragment.proofs.Timed.{timed_is, timed_again, untimed_is, untimed_again}
use Rattle.dnp_appfragment.proofs.TableLines.{known, in_table_known}
use Rattle.dnp_appfragment.proofs.Ranges.{IsRangeOf, ReadsRange, range_reads, range_again, range_back, range_short}

pub AreOctets-drop : (n : ℕ) (octets : List ℕ) → AreOctets octets → AreOctets (drop n octets)
AreOctets-drop zero octets are = are
AreOctets-drop (suc n) [] are = tt
AreOctets-drop (suc n) (b ∷ octets) are = AreOctets-drop n octets are.1

-- a header whose objects are so many octets, and the octets after them
abbrev cut_off : Option ℕ → ℕ → ℕ → Range → ℕ → List ℕ → Result (Head × List ℕ) AppFault
cut_off common g v r size octets = timed_at (head_after common g v r (take size octets)) (drop size octets)

-- ---- what is read

abbrev pub ReadsHeader : Form → Context → List ℕ → Result (Head × List ℕ) AppFault → Type 0
ReadsHeader f context octets (Ok x) = IsHeaderAt f context x.0 × (octets ≡ header_octets x.0 ++ x.1) × AreOctets x.1
ReadsHeader f context octets (Err e) = IsHeaderFault f context octets e

objects_read : (f : Form) (context : Context) (g v q : ℕ) (body : List ℕ) (r : Range) (rest : List ℕ)
    → IsInTable f g v q → IsRangeOf q body r rest → IsForward r
    → AreOctets rest → ReadsHeader f context (g ∷ v ∷ q ∷ body) (objects_at f context g v r rest)
objects_read f context g v q body r rest object is forward are = go (nat_lt (length rest) (objects_size f g v r)) refl
  where
    size : ℕ
    size = objects_size f g v r

    in_table : IsInTable f g v (qualifier_of r)
    in_table = subst (λ (n : ℕ). IsInTable f g v n) is.qualifier object

    whole : g ∷ v ∷ q ∷ body ≡ g ∷ v ∷ qualifier_of r ∷ (range_octets r ++ rest)
    whole = λ i. g ∷ v ∷ is.qualifier i ∷ is.whole i

    parts : range_octets r ++ rest ≡ (range_octets r ++ take (objects_size f g v r) rest) ++ drop (objects_size f g v r) rest
    parts =
        ap (λ (t : List ℕ). range_octets r ++ t) (sym (take-append-drop (objects_size f g v r) rest))
        ∙ sym (append_assoc (range_octets r) (take (objects_size f g v r) rest) (drop (objects_size f g v r) rest))

    go : (few : Bool) → nat_lt (length rest) (objects_size f g v r) ≡ few
        → ReadsHeader f context (g ∷ v ∷ q ∷ body) (cond few (Err ObjectsCut) (cut_off (common_of context g v) g v r (objects_size f g v r) rest))
    go true few = record {
      group = g;
      variation = v;
      range = r;
      rest = rest;
      whole = whole;
      object = in_table;
      fits = is.fits;
      forward = forward;
      few = ltb-true (length rest) (objects_size f g v r) few;
    }
    go false few = timed (is_timed h) refl
      where
        room : objects_size f g v r ≤ length rest
        room = ltb-false (length rest) (objects_size f g v r) few

        h : Head
        h = head_after (common_of context g v) g v r (take (objects_size f g v r) rest)

        all : length (take (objects_size f g v r) rest) ≡ objects_size f g v r
        all = omega (arith, room, length-take (objects_size f g v r) rest)

        timed : (b : Bool) → is_timed h ≡ b
            → ReadsHeader f context (g ∷ v ∷ q ∷ body) (cond b (Ok (h, drop (objects_size f g v r) rest)) (Err CommonTime))
        timed true passes = (
          record { header = record { object = in_table; fits = is.fits; forward = forward; objects = all }; common = refl; timed = timed_is h passes },
          whole ∙ ap (λ (t : List ℕ). g ∷ v ∷ qualifier_of r ∷ t) parts,
          AreOctets-drop (objects_size f g v r) rest are,
        )
        timed false fails =
            let not = untimed_is context g v r (take (objects_size f g v r) rest) fails in record {
              group = g;
              variation = v;
              range = r;
              objects = take (objects_size f g v r) rest;
              rest = drop (objects_size f g v r) rest;
              whole = whole ∙ ap (λ (t : List ℕ). g ∷ v ∷ qualifier_of r ∷ (range_octets r ++ t)) (sym (take-append-drop (objects_size f g v r) rest));
              object = in_table;
              fits = is.fits;
              forward = forward;
              all = all;
              relative = not.0;
              untimed = not.1;
            }

range_read : (f : Form) (context : Context) (g v q : ℕ) (body : List ℕ) → IsInTable f g v q → (r : Result (Range × List ℕ) AppFault) → ReadsRange q body r
    → ReadsHeader f context (g ∷ v ∷ q ∷ body) (r >>= λ (x : Range × List ℕ). objects_at f context g v x.0 x.1)
range_read f context g v q body object (Ok x) reads = objects_read f context g v q body x.0 x.1 object reads.0 reads.1 reads.2
range_read f context g v q body object (Err HeaderCut) reads =
    inr (record { group = g; variation = v; qualifier = q; rest = body; whole = refl; object = object; few = reads })
range_read f context g v q body object (Err RangeBackward) reads = record {
  group = g;
  variation = v;
  range = reads.range;
  rest = reads.rest;
  whole = λ i. g ∷ v ∷ reads.is.qualifier i ∷ reads.is.whole i;
  object = subst (λ (n : ℕ). IsInTable f g v n) reads.is.qualifier object;
  fits = reads.is.fits;
  backward = reads.backward;
}
range_read f context g v q body object (Err QualifierUnknown) reads = let is : known q ≡ true = in_table_known f g v q object in cc
range_read f context g v q body object (Err Short) reads = absurd reads
range_read f context g v q body object (Err FunctionUnknown) reads = absurd reads
range_read f context g v q body object (Err ObjectUnknown) reads = absurd reads
range_read f context g v q body object (Err ObjectsCut) reads = absurd reads
range_read f context g v q body object (Err CommonTime) reads = absurd reads

object_read : (f : Form) (context : Context) (g v q : ℕ) (body : List ℕ) → AreOctets body → (o : Option (List ℕ)) → takes_of f g v ≡ o
    → ReadsHeader f context (g ∷ v ∷ q ∷ body) (taken o q >>= λ (t : List ℕ). range_at q body >>= λ (x : Range × List ℕ). objects_at f context g v x.0 x.1)
object_read f context g v q body are None is = record { group = g; variation = v; qualifier = q; rest = body; whole = refl; unknown = is }
object_read f context g v q body are (Some t) is = go (allows t q) refl
  where
    go : (b : Bool) → allows t q ≡ b
        → ReadsHeader f context (g ∷ v ∷ q ∷ body)
        (cond b (Ok t) (Err QualifierUnknown) >>= λ (t : List ℕ). range_at q body >>= λ (x : Range × List ℕ). objects_at f context g v x.0 x.1)
    go true allowed =
        let object : IsInTable f g v q = subst (λ (o : Option (List ℕ)). IsSomeAnd o (λ t. IsTrue (allows t q))) (sym is) allowed in
        range_read f context g v q body object (range_at q body) (range_reads q body are)
    go false allowed = record { group = g; variation = v; qualifier = q; rest = body; takes = t; whole = refl; object = is; unknown = allowed }

pub header_reads : (f : Form) (context : Context) (octets : List ℕ) → 0 < length octets → AreOctets octets
    → ReadsHeader f context octets (header_at f context octets)
unfolding header_at
header_reads f context [] some are = absurd (omega arith)
header_reads f context (g ∷ []) some are = inl (record { some = omega arith; few = omega arith })
header_reads f context (g ∷ v ∷ []) some are = inl (record { some = omega arith; few = omega arith })
header_reads f context (g ∷ v ∷ q ∷ body) some are = object_read f context g v q body are.1.1.1 (takes_of f g v) refl

-- ---- and what is spelled is read

taken_from : (o : Option (List ℕ)) (q : ℕ) → IsSomeAnd o (λ t. IsTrue (allows t q)) → (t : List ℕ) × (taken o q ≡ Ok t)
taken_from None q is = absurd is
taken_from (Some t) q is = (t, ap (λ (b : Bool). cond b (Ok t) (Err QualifierUnknown)) is)

-- the object stands in the table: then the range decides
in_table : (f : Form) (context : Context) (g v q : ℕ) (body : List ℕ) → IsInTable f g v q
    → header_at f context (g ∷ v ∷ q ∷ body) ≡ (range_at q body >>= λ (x : Range × List ℕ). objects_at f context g v x.0 x.1)
unfolding header_at
in_table f context g v q body object =
    let found = taken_from (takes_of f g v) q object in
    ap (λ (r : Result (List ℕ) AppFault). r >>= λ (t : List ℕ). range_at q body >>= λ (x : Range × List ℕ). objects_at f context g v x.0 x.1) found.1

-- and the range is one: then the objects do
in_range : (f : Form) (context : Context) (g v : ℕ) (r : Range) (rest : List ℕ) → IsInTable f g v (qualifier_of r) → IsForward r
    → header_at f context (g ∷ v ∷ qualifier_of r ∷ (range_octets r ++ rest)) ≡ objects_at f context g v r rest
in_range f context g v r rest object forward =
    in_table f context g v (qualifier_of r) (range_octets r ++ rest) object
    ∙ ap (λ (x : Result (Range × List ℕ) AppFault). x >>= λ (x : Range × List ℕ). objects_at f context g v x.0 x.1) (range_again r rest forward)

-- and its objects are there: then their times do
in_full : (f : Form) (context : Context) (g v : ℕ) (r : Range) (objects rest : List ℕ) → IsInTable f g v (qualifier_of r) → IsForward r
    → length objects ≡ objects_size f g v r
    → header_at f context (g ∷ v ∷ qualifier_of r ∷ (range_octets r ++ (objects ++ rest))) ≡ timed_at (head_after (common_of context g v) g v r objects) rest
in_full f context g v r objects rest object forward all =
    let size = objects_size f g v r in
    let room : nat_lt (length (objects ++ rest)) size ≡ false =
    le-ltb (length (objects ++ rest)) size (omega (arith, length-append objects rest, all)) in
    let first : take size (objects ++ rest) ≡ objects = take_at objects rest size all in
    let last : drop size (objects ++ rest) ≡ rest = drop_at objects rest size all in
    in_range f context g v r (objects ++ rest) object forward
    ∙ ap (λ (b : Bool). cond b (Err ObjectsCut) (cut_off (common_of context g v) g v r size (objects ++ rest))) room
    ∙ (λ i. timed_at (head_after (common_of context g v) g v r (first i)) (last i))

pub header_again : (f : Form) (context : Context) (h : Head) (rest : List ℕ) → IsHeaderAt f context h
    → header_at f context (header_octets h ++ rest) ≡ Ok (h, rest)
header_again f context h rest is =
    let joined : header_octets h ++ rest ≡ h.group ∷ h.variation ∷ qualifier_of h.range ∷ (range_octets h.range ++ (h.octets ++ rest)) =
    ap (λ (t : List ℕ). h.group ∷ h.variation ∷ qualifier_of h.range ∷ t) (append_assoc (range_octets h.range) h.octets rest) in
    ap (header_at f context) joined
    ∙ in_full f context h.group h.variation h.range h.octets rest is.header.object is.header.forward is.header.objects
    ∙ ap (λ (common : Option ℕ). timed_at (head_after common h.group h.variation h.range h.octets) rest) (sym is.common)
    ∙ ap (λ (b : Bool). cond b (Ok (h, rest)) (Err CommonTime)) (timed_again h is.timed)

fault_at : (f : Form) (context : Context) (octets : List ℕ) (e : AppFault) → IsHeaderFault f context octets e → header_at f context octets ≡ Err e
unfolding header_at
fault_at f context octets HeaderCut (inl stub) = short octets stub.some stub.few
  where
    short : (octets : List ℕ) → 0 < length octets → length octets < 3 → header_at f context octets ≡ Err HeaderCut
    short [] some few = refl
    short (g ∷ []) some few = refl
    short (g ∷ v ∷ []) some few = refl
    short (g ∷ v ∷ q ∷ body) some few = absurd (omega arith)
fault_at f context octets HeaderCut (inr is) =
    ap (header_at f context) is.whole ∙ in_table f context is.group is.variation is.qualifier is.rest is.object
    ∙ ap (λ (x : Result (Range × List ℕ) AppFault). x >>= λ (x : Range × List ℕ). objects_at f context is.group is.variation x.0 x.1)
    (range_short is.qualifier is.rest is.few)
fault_at f context octets ObjectUnknown is =
    ap (header_at f context) is.whole
    ∙ ap (λ (o : Option (List ℕ)). taken o is.qualifier >>= λ (t : List ℕ). range_at is.qualifier is.rest
    >>= λ (x : Range × List ℕ). objects_at f context is.group is.variation x.0 x.1) is.unknown
fault_at f context octets QualifierUnknown is =
    ap (header_at f context) is.whole
    ∙ ap (λ (o : Option (List ℕ)). taken o is.qualifier >>= λ (t : List ℕ). range_at is.qualifier is.rest
    >>= λ (x : Range × List ℕ). objects_at f context is.group is.variation x.0 x.1) is.object
    ∙ ap (λ (b : Bool). cond b (Ok is.takes) (Err QualifierUnknown) >>= λ (t : List ℕ). range_at is.qualifier is.rest
    >>= λ (x : Range × List ℕ). objects_at f context is.group is.variation x.0 x.1) is.unknown
fault_at f context octets RangeBackward is =
    ap (header_at f context) is.whole ∙ in_table f context is.group is.variation (qualifier_of is.range) (range_octets is.range ++ is.rest) is.object
    ∙ ap (λ (x : Result (Range × List ℕ) AppFault). x >>= λ (x : Range × List ℕ). objects_at f context is.group is.variation x.0 x.1)
    (range_back is.range is.rest is.backward)
fault_at f context octets ObjectsCut is =
    ap (header_at f context) is.whole ∙ in_range f context is.group is.variation is.range is.rest is.object is.forward
    ∙ ap (λ (b : Bool). cond b (Err ObjectsCut) (cut_off (common_of context is.group is.variation) is.group is.variation is.range
    (objects_size f is.group is.variation is.range) is.rest))
    (lt-ltb (length is.rest) (objects_size f is.group is.variation is.range) is.few)
fault_at f context octets CommonTime is =
    ap (header_at f context) is.whole
    ∙ in_full f context is.group is.variation is.range is.objects is.rest is.object is.forward is.all
    ∙ ap (λ (b : Bool). cond b (Ok (head_after (common_of context is.group is.variation) is.group is.variation is.range is.objects, is.rest)) (Err CommonTime))
    (untimed_again context is.group is.variation is.range is.objects is.relative is.untimed)
fault_at f context octets Short is = absurd is
fault_at f context octets FunctionUnknown is = absurd is

pub fault_again : (f : Form) (context : Context) (octets : List ℕ) (e : AppFault) → IsHeaderFault f context octets e → header_at f context octets ≡ Err e
fault_again = fault_at

-- octets that are no header at their front are some
pub fault_some : (f : Form) (context : Context) (octets : List ℕ) (e : AppFault) → IsHeaderFault f context octets e → 0 < length octets
fault_some f context octets HeaderCut (inl stub) = stub.some
fault_some f context octets HeaderCut (inr is) = three octets is.group is.variation is.qualifier is.rest is.whole
  where
    three : (octets : List ℕ) (g v q : ℕ) (rest : List ℕ) → octets ≡ g ∷ v ∷ q ∷ rest → 0 < length octets
    three octets g v q rest is = let size = ap length is in omega arith
fault_some f context octets ObjectUnknown is = let size = ap length is.whole in omega arith
fault_some f context octets QualifierUnknown is = let size = ap length is.whole in omega arith
fault_some f context octets RangeBackward is = let size = ap length is.whole in omega arith
fault_some f context octets CommonTime is = let size = ap length is.whole in omega arith
fault_some f context octets ObjectsCut is = let size = ap length is.whole in omega arith
fault_some f context octets Short is = absurd is
fault_some f context octets FunctionUnknown is = absurd is
