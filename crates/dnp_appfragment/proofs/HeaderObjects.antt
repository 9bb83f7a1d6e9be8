-- The objects of a header: what is cut out of its octets is object k, and nothing else is.
use Rattle.std.proofs.Common.{◌≡◌, refl, sym, ◌∙◌, ap, subst, ℕ, ◌+◌, ◌*◌, ◌<◌, ◌≤◌, Bool, true, false, cond, List, ◌++◌, length, take, drop, arith, Option, Some, None, IfSome, Result, Ok, Err, IfOk, nat_lt, inl, inr}
use Rattle.std.specs.Option.{IsSomeAnd}
use Rattle.std.specs.Result.{result_ok}
use Rattle.std.proofs.lemmas.Bool.{ltb-true, ltb-false, le-ltb, lt-ltb}
use Rattle.std.proofs.lemmas.List.{length-append, take-append-drop, take_at, drop_at, length-take}
use Rattle.dnp_objects.specs.declared.row.Row.{Row}
use Rattle.dnp_objects.specs.declared.command.Command.{Command}
use Rattle.dnp_objects.specs.declared.fault.ObjectFault.{ObjectFault}
use Rattle.dnp_objects.specs.declared.table.Shape.{Shape}
use Rattle.dnp_objects.specs.Objects.{objects, content_of, object_size, shape_read, shape_size}
use Rattle.dnp_objects.specs.Rows.{IsReading, Reads}
use Rattle.dnp_objects.specs.Commands.{ReadsCommand}
use Rattle.dnp_appfragment.specs.declared.fault.AppFault.{AppFault}
use Rattle.dnp_appfragment.specs.declared.header.Range.{Range}
use Rattle.dnp_appfragment.specs.declared.header.Range.TheVariants as range
use Rattle.dnp_appfragment.specs.Headers.{head_of, count_of, prefix_size}
use Rattle.dnp_appfragment.specs.Objects.{IsIndex, IsObject, IsBit, IsObjectRow, IsWholeRow, IsCommand, prefix_octets}
use Rattle.dnp_appfragment.specs.Reading.{number_at, index_at, first_octets, object_at}
use Rattle.dnp_appfragment.proofs.Numbers.{AreOctets, ReadsNumber, number_reads, number_again}
use Rattle.dnp_appfragment.proofs.Grammar.{AreOctets-drop}

-- where the index stands, and the rest after it
pub record HasIndex (r : Range) (k : ℕ) (octets : List ℕ) (x : ℕ × List ℕ) : Type 0 where
  pub index_is : IsIndex r k x.0
  pub whole : octets ≡ prefix_octets r x.0 ++ x.1

index_reads : (r : Range) (k : ℕ) (octets : List ℕ) → AreOctets octets → IfSome (index_at r k octets) (HasIndex r k octets)
index_reads range.All k octets are = tt
index_reads (range.Span wide first last) k octets are = record { index_is = refl; whole = refl }
index_reads (range.Count wide n) k octets are = tt
index_reads (range.Indexed wide n) k octets are = go (number_at wide octets) (number_reads wide octets are)
  where
    go : (x : Result (ℕ × List ℕ) AppFault) → ReadsNumber wide octets x → IfSome (result_ok x) (HasIndex (range.Indexed wide n) k octets)
    go (Ok x) reads = record { index_is = reads.0; whole = reads.1 }
    go (Err e) reads = tt

pub object_reads : (g v : ℕ) (r : Range) (octets : List ℕ) (size k : ℕ) → AreOctets octets
    → IfSome (object_at r octets size k) (λ x. IsObject (head_of g v r octets) size k x.0 x.1)
object_reads g v r octets size k are = counted (nat_lt k (count_of r)) refl
  where
    cut : k < count_of r → k * (prefix_size r + size) ≤ length octets → (x : ℕ × List ℕ) → HasIndex r k (drop (k * (prefix_size r + size)) octets) x
        → (few : Bool) → nat_lt (length x.1) size ≡ few
        → IfSome {T = ℕ × List ℕ} (cond few None (Some (x.0, take size x.1))) (λ x. IsObject (head_of g v r octets) size k x.0 x.1)
    cut here room x has true few = tt
    cut here room x has false few =
        let start = k * (prefix_size r + size) in
        let enough : size ≤ length x.1 = ltb-false (length x.1) size few in
        record {
          counted = here;
          index_is = has.index_is;
          before = take start octets;
          after = drop size x.1;
          placed = omega (arith, length-take start octets);
          sized = omega (arith, length-take size x.1);
          joined =
              sym (take-append-drop start octets)
              ∙ ap (λ (t : List ℕ). take start octets ++ t) has.whole
              ∙ ap (λ (t : List ℕ). take start octets ++ (prefix_octets r x.0 ++ t)) (sym (take-append-drop size x.1));
        }

    indexed : k < count_of r → k * (prefix_size r + size) ≤ length octets → (o : Option (ℕ × List ℕ))
        → IfSome o (HasIndex r k (drop (k * (prefix_size r + size)) octets))
        → IfSome (first_octets size o) (λ x. IsObject (head_of g v r octets) size k x.0 x.1)
    indexed here room None has = tt
    indexed here room (Some x) has = cut here room x has (nat_lt (length x.1) size) refl

    placed : k < count_of r → (short : Bool) → nat_lt (length octets) (k * (prefix_size r + size)) ≡ short
        → IfSome (cond short None (first_octets size (index_at r k (drop (k * (prefix_size r + size)) octets)))) (λ x. IsObject (head_of g v r octets) size k x.0 x.1)
    placed here true short = tt
    placed here false short =
        indexed here (ltb-false (length octets) (k * (prefix_size r + size)) short)
        (index_at r k (drop (k * (prefix_size r + size)) octets))
        (index_reads r k (drop (k * (prefix_size r + size)) octets) (AreOctets-drop (k * (prefix_size r + size)) octets are))

    counted : (here : Bool) → nat_lt k (count_of r) ≡ here
        → IfSome (cond here (cond (nat_lt (length octets) (k * (prefix_size r + size))) None (first_octets size (index_at r k (drop (k * (prefix_size r + size)) octets)))) None)
        (λ x. IsObject (head_of g v r octets) size k x.0 x.1)
    counted true here = placed (ltb-true k (count_of r) here) (nat_lt (length octets) (k * (prefix_size r + size))) refl
    counted false here = tt

index_again : (r : Range) (k index : ℕ) (rest : List ℕ) → IsIndex r k index → index_at r k (prefix_octets r index ++ rest) ≡ Some (index, rest)
index_again range.All k index rest is = absurd is
index_again (range.Span wide first last) k index rest is = ap (λ (n : ℕ). Some (n, rest)) (sym is)
index_again (range.Count wide n) k index rest is = absurd is
index_again (range.Indexed wide n) k index rest is = ap (λ (x : Result (ℕ × List ℕ) AppFault). result_ok x) (number_again wide index rest)

pub object_again : (g v : ℕ) (r : Range) (octets : List ℕ) (size k index : ℕ) (part : List ℕ) → IsObject (head_of g v r octets) size k index part
    → object_at r octets size k ≡ Some (index, part)
object_again g v r octets size k index part is =
    let start = k * (prefix_size r + size) in
    let behind = prefix_octets r index ++ (part ++ is.after) in
    let here : nat_lt k (count_of r) ≡ true = lt-ltb k (count_of r) is.counted in
    let room : nat_lt (length octets) start ≡ false =
    le-ltb (length octets) start (omega (arith, is.placed, ap length is.joined, length-append is.before behind)) in
    let rest : drop start octets ≡ behind = ap (λ (t : List ℕ). drop start t) is.joined ∙ drop_at is.before behind start is.placed in
    let enough : nat_lt (length (part ++ is.after)) size ≡ false =
    le-ltb (length (part ++ is.after)) size (omega (arith, is.sized, length-append part is.after)) in
    let first : take size (part ++ is.after) ≡ part = take_at part is.after size is.sized in
    ap (λ (b : Bool). cond b (cond (nat_lt (length octets) start) None (first_octets size (index_at r k (drop start octets)))) None) here
    ∙ ap (λ (b : Bool). cond b None (first_octets size (index_at r k (drop start octets)))) room
    ∙ ap (λ (t : List ℕ). first_octets size (index_at r k t)) rest
    ∙ ap (first_octets size) (index_again r k index (part ++ is.after) is.index_is)
    ∙ ap (λ (b : Bool). cond b None (Some (index, take size (part ++ is.after)))) enough
    ∙ ap (λ (t : List ℕ). Some (index, t)) first

-- what the call that cuts object k out gave is object k
pub cut_is : (g v : ℕ) (r : Range) (octets : List ℕ) (size k index : ℕ) (part : List ℕ) → AreOctets octets
    → object_at r octets size k ≡ Some (index, part) → IsObject (head_of g v r octets) size k index part
cut_is g v r octets size k index part are is =
    subst (λ (o : Option (ℕ × List ℕ)). IfSome o (λ x. IsObject (head_of g v r octets) size k x.0 x.1)) is (object_reads g v r octets size k are)

-- ---- rows and commands

-- the object of a row, or of a command, is the one that was cut out
pub same_cut : (g v : ℕ) (r : Range) (octets : List ℕ) (size k index : ℕ) (part : List ℕ) (size' index' : ℕ) (part' : List ℕ)
    → object_size g v ≡ Some size → object_at r octets size k ≡ Some (index, part)
    → object_size g v ≡ Some size' → IsObject (head_of g v r octets) size' k index' part' → (index' ≡ index) × (part' ≡ part)
same_cut g v r octets size k index part size' index' part' sized is sized' object =
    let one : size' ≡ size = cc in
    let again : object_at r octets size k ≡ Some (index', part') =
    ap (λ (n : ℕ). object_at r octets n k) (sym one) ∙ object_again g v r octets size' k index' part' object in
    let pair : ◌≡◌ {A = ℕ × List ℕ} (index', part') (index, part) = cc in
    (ap (λ (x : ℕ × List ℕ). x.0) pair, ap (λ (x : ℕ × List ℕ). x.1) pair)

-- what the call cut out is the row that it is read as
pub row_cut : (g v : ℕ) (r : Range) (octets : List ℕ) (shape : Shape) (k index : ℕ) (part : List ℕ) (row : Row) → AreOctets octets
    → shape_read g v ≡ Some shape → object_size g v ≡ Some (shape_size shape) → object_at r octets (shape_size shape) k ≡ Some (index, part)
    → IsReading shape index part row → IsObjectRow (head_of g v r octets) k row
row_cut g v r octets shape k index part row are shaped sized is reading = record {
  size = shape_size shape;
  size_is = sized;
  index = index;
  octets = part;
  object = cut_is g v r octets (shape_size shape) k index part are is;
  reads = subst (λ (o : Option Shape). IsSomeAnd o (λ s. IsReading s index part row)) (sym shaped) reading;
}

-- and it is read so
pub cut_reads : (g v : ℕ) (r : Range) (octets : List ℕ) (shape : Shape) (k index : ℕ) (part : List ℕ) (row : Row)
    → shape_read g v ≡ Some shape → object_size g v ≡ Some (shape_size shape) → object_at r octets (shape_size shape) k ≡ Some (index, part)
    → IsObjectRow (head_of g v r octets) k row → IsReading shape index part row
cut_reads g v r octets shape k index part row shaped sized is row_is =
    let same = same_cut g v r octets (shape_size shape) k index part row_is.size row_is.index row_is.octets sized is row_is.size_is row_is.object in
    let reads : Reads g v index part row =
    subst (λ (n : ℕ). Reads g v n part row) same.0 (subst (λ (t : List ℕ). Reads g v row_is.index t row) same.1 row_is.reads) in
    subst (λ (o : Option Shape). IsSomeAnd o (λ s. IsReading s index part row)) shaped reads

pub command_cut : (g v : ℕ) (r : Range) (octets : List ℕ) (size k index : ℕ) (part : List ℕ) → AreOctets octets → object_size g v ≡ Some size
    → object_at r octets size k ≡ Some (index, part) → (x : Result (Command × ℕ) ObjectFault) → IfOk x (ReadsCommand g v index part)
    → IfSome (result_ok x) (IsCommand (head_of g v r octets) k)
command_cut g v r octets size k index part are sized is (Ok answer) reads =
    record { size = size; size_is = sized; index = index; octets = part; object = cut_is g v r octets size k index part are is; reads = reads }
command_cut g v r octets size k index part are sized is (Err e) reads = tt

-- where nothing was cut out there is no object k
pub no_cut : (g v : ℕ) (r : Range) (octets : List ℕ) (size k : ℕ) (size' index' : ℕ) (part' : List ℕ)
    → object_size g v ≡ Some size → object_at r octets size k ≡ None
    → object_size g v ≡ Some size' → IsObject (head_of g v r octets) size' k index' part' → ⊥
no_cut g v r octets size k size' index' part' sized is sized' object =
    let one : size' ≡ size = cc in
    let again : object_at r octets size k ≡ Some (index', part') =
    ap (λ (n : ℕ). object_at r octets n k) (sym one) ∙ object_again g v r octets size' k index' part' object in
    cc

-- packed bits have no size
pub packed_unsized : object_size 1 1 ≡ None
unfolding content_of objects
packed_unsized = refl

-- a row of packed bits is a bit, and any other is an object's
pub bit_only : (g v : ℕ) (r : Range) (octets : List ℕ) (k : ℕ) (row : Row) → g ≡ 1 → v ≡ 1 → IsWholeRow (head_of g v r octets) k row
    → IsBit (head_of 1 1 r octets) k row
bit_only g v r octets k row group variation (inl bit) = record {
  group = refl;
  variation = refl;
  counted = bit.counted;
  span = bit.span;
  index = bit.index;
  index_is = bit.index_is;
  there = bit.there;
  row_is = bit.row_is;
}
bit_only g v r octets k row group variation (inr is) =
    let unsized : object_size g v ≡ None = (λ i. object_size (group i) (variation i)) ∙ packed_unsized in
    absurd (sized_unsized (object_size g v) is.size is.size_is unsized)
  where
    sized_unsized : (o : Option ℕ) (size : ℕ) → o ≡ Some size → o ≡ None → ⊥
    sized_unsized o size some none = cc

pub sized_only : (g v : ℕ) (r : Range) (octets : List ℕ) (k : ℕ) (row : Row) → (g ≡ 1 → v ≡ 1 → ⊥) → IsWholeRow (head_of g v r octets) k row
    → IsObjectRow (head_of g v r octets) k row
sized_only g v r octets k row other (inl bit) = absurd (other bit.group bit.variation)
sized_only g v r octets k row other (inr is) = is
