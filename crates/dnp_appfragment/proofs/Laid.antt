-- The headers stand in the fragment one after the other, the run's last: what each call leaves.
use Rattle.std.proofs.Common.{◌≡◌, Bool, true, false, cond, refl, sym, ◌∙◌, ap, subst, ℕ, zero, suc, ◌+◌, ◌≤◌, ◌==◌, ◌&&◌, List, [], ◌∷◌, ◌++◌, length, take, drop, arith, Option, Some, None, IsSome}
use Rattle.std.specs.Prelude.{option_to_list}
use Rattle.std.specs.Option.{option_map}
use Rattle.std.proofs.lemmas.List.{append-nil, append_assoc, length-append}
use Rattle.dnp_objects.specs.declared.limits.TheConstants.{MAX_FRAGMENT}
use Rattle.dnp_objects.specs.Objects.{object_size}
use Rattle.dnp_appfragment.specs.declared.function.Function.{Function}
use Rattle.dnp_appfragment.specs.declared.header.Range.{Range}
use Rattle.dnp_appfragment.specs.declared.header.Range.TheVariants as range
use Rattle.dnp_appfragment.specs.declared.run.Run.{Run}
use Rattle.dnp_appfragment.specs.Table.{form_of, is_response}
use Rattle.dnp_appfragment.specs.Headers.{Head, number, qualifier_of, range_octets, header_octets, spelled, IsHeaderAt}
use Rattle.dnp_appfragment.specs.Joining.{joined_range}
use Rattle.dnp_appfragment.specs.Left.{headers_of}
use Rattle.dnp_appfragment.specs.steps.Overwriting.{written_over}
use Rattle.dnp_appfragment.specs.Built.{Built, front_size, heads, size, broken, with_header, with_object, context_of}
use Rattle.dnp_appfragment.specs.steps.Building.{run_head, built, IsBuilt, ended_in, objects_in, built_in, run_octets, IsLaid, range_end, joined_run, longer}
use Rattle.dnp_appfragment.proofs.Building.{spelled-append, spelled-one, empty, run_ended, header_put}
use Rattle.dnp_appfragment.proofs.Joins.{some_is, joined_all, object_begins}

-- ---- lists

take_front : (xs ys : List ℕ) → take (length xs) (xs ++ ys) ≡ xs
take_front [] [] = refl
take_front [] (y ∷ ys) = refl
take_front (x ∷ xs) ys = ap (λ (l : List ℕ). x ∷ l) (take_front xs ys)

drop_front : (xs ys : List ℕ) → drop (length xs) (xs ++ ys) ≡ ys
drop_front [] [] = refl
drop_front [] (y ∷ ys) = refl
drop_front (x ∷ xs) ys = drop_front xs ys

pub take_at : (n : ℕ) (l xs ys : List ℕ) → n ≡ length xs → l ≡ xs ++ ys → take n l ≡ xs
take_at n l xs ys at is = (λ i. take (at i) (is i)) ∙ take_front xs ys

pub drop_at : (n : ℕ) (l xs ys : List ℕ) → n ≡ length xs → l ≡ xs ++ ys → drop n l ≡ ys
drop_at n l xs ys at is = (λ i. drop (at i) (is i)) ∙ drop_front xs ys

cut : (n : ℕ) (xs : List ℕ) → xs ≡ take n xs ++ drop n xs
cut zero [] = refl
cut zero (x ∷ xs) = refl
cut (suc n) [] = refl
cut (suc n) (x ∷ xs) = ap (λ (l : List ℕ). x ∷ l) (cut n xs)

size_taken : (n : ℕ) (xs : List ℕ) → n ≤ length xs → length (take n xs) ≡ n
size_taken zero [] le = refl
size_taken zero (x ∷ xs) le = refl
size_taken (suc n) [] le = absurd (omega arith)
size_taken (suc n) (x ∷ xs) le = let less : n ≤ length xs = omega arith in let same = size_taken n xs less in omega arith

-- ---- what stands where

-- the front, the ended headers and the run's
record AreParts (f : Function) (octets : List ℕ) (ended : ℕ) (run : Option Run) : Type 0 where
  front : List ℕ
  front_is : length front ≡ front_size f
  ended_is : ended ≡ length (front ++ ended_in f octets ended)
  whole : octets ≡ (front ++ ended_in f octets ended) ++ run_octets run (objects_in octets ended run)

parts_of : (f : Function) (octets : List ℕ) (ended : ℕ) (run : Option Run) → IsLaid f octets ended run → AreParts f octets ended run
parts_of f octets ended run is =
    let first : take ended octets ≡ take (front_size f) (take ended octets) ++ drop (front_size f) (take ended octets) = cut (front_size f) (take ended octets) in
    let sized : length (take ended octets) ≡ ended = size_taken ended octets is.behind in
    let low : front_size f ≤ length (take ended octets) = subst (λ (n : ℕ). front_size f ≤ n) (sym sized) is.front in
    record {
      front = take (front_size f) (take ended octets);
      front_is = size_taken (front_size f) (take ended octets) low;
      ended_is = sym sized ∙ ap length first;
      whole = cut ended octets ∙ (λ i. first i ++ is.last i);
    }

-- what stands so is laid so, and seen as these parts
pub laid : (f : Function) (octets : List ℕ) (ended : ℕ) (run : Option Run) (front before objects : List ℕ) → length front ≡ front_size f
    → ended ≡ length (front ++ before) → octets ≡ (front ++ before) ++ run_octets run objects → IsBuilt f before run objects
    → IsLaid f octets ended run × (built_in f octets ended run ≡ built f before run objects)
laid f octets ended None front before objects sized at whole is =
    let first : take ended octets ≡ front ++ before = take_at ended octets (front ++ before) [] at whole in
    let ended_is : ended_in f octets ended ≡ before = drop_at (front_size f) (take ended octets) front before (sym sized) first in
    let all : length octets ≡ length (front ++ before) = ap length (whole ∙ append-nil (front ++ before)) in
    let both : length (front ++ before) ≡ length front + length before = length-append front before in
    let own : IsBuilt f before None [] = record { divides = is.divides; run_is = is.run_is; room = is.room } in (
      record {
        front = omega arith;
        behind = omega arith;
        last = drop_at ended octets (front ++ before) [] at whole;
        parts = subst (λ (l : List ℕ). IsBuilt f l None []) (sym ended_is) own;
      },
      ap (λ (l : List ℕ). built f l None []) ended_is,
    )
laid f octets ended (Some run) front before objects sized at whole is =
    let top : List ℕ = run.group ∷ run.variation ∷ qualifier_of run.range ∷ range_octets run.range in
    let first : take ended octets ≡ front ++ before = take_at ended octets (front ++ before) (top ++ objects) at whole in
    let ended_is : ended_in f octets ended ≡ before = drop_at (front_size f) (take ended octets) front before (sym sized) first in
    let all : length octets ≡ length (front ++ before) + length (top ++ objects) = ap length whole ∙ length-append (front ++ before) (top ++ objects) in
    let both : length (front ++ before) ≡ length front + length before = length-append front before in
    let tops : length ((front ++ before) ++ top) ≡ length (front ++ before) + length top = length-append (front ++ before) top in
    let place : ended + (3 + length (range_octets run.range)) ≡ length ((front ++ before) ++ top) = omega arith in
    let objects_are : objects_in octets ended (Some run) ≡ objects =
    drop_at (ended + (3 + length (range_octets run.range))) octets ((front ++ before) ++ top) objects place
    (whole ∙ sym (append_assoc (front ++ before) top objects)) in (
      record {
        front = omega arith;
        behind = omega arith;
        last = drop_at ended octets (front ++ before) (top ++ objects) at whole ∙ ap (λ (l : List ℕ). top ++ l) (sym objects_are);
        parts = subst (λ (p : List ℕ × List ℕ). IsBuilt f p.0 (Some run) p.1) (λ i. (sym ended_is i, sym objects_are i)) is;
      },
      (λ i. built f (ended_is i) (Some run) (objects_are i)),
    )

-- ---- the headers, spelled

spelled_run : (run : Option Run) (objects : List ℕ) → spelled (option_to_list (option_map (run_head objects) run)) ≡ run_octets run objects
spelled_run None objects = refl
spelled_run (Some run) objects = spelled-one (run_head objects run)

spelled_parts : (f : Function) (before : List ℕ) (run : Option Run) (objects : List ℕ) → IsBuilt f before run objects
    → spelled (heads (built f before run objects)) ≡ before ++ run_octets run objects
spelled_parts f before run objects is =
    spelled-append (headers_of (form_of f) before) (option_to_list (option_map (run_head objects) run))
    ∙ (λ i. sym is.divides.whole i ++ spelled_run run objects i)

-- what follows the front are the headers
pub body_is : (f : Function) (octets : List ℕ) (ended : ℕ) (run : Option Run) → IsLaid f octets ended run
    → drop (front_size f) octets ≡ spelled (heads (built_in f octets ended run))
body_is f octets ended run is =
    let parts = parts_of f octets ended run is in
    let objects = objects_in octets ended run in
    let whole : octets ≡ parts.front ++ (ended_in f octets ended ++ run_octets run objects) =
    parts.whole ∙ append_assoc parts.front (ended_in f octets ended) (run_octets run objects) in
    drop_at (front_size f) octets parts.front (ended_in f octets ended ++ run_octets run objects) (sym parts.front_is) whole
    ∙ sym (spelled_parts f (ended_in f octets ended) run objects is.parts)

pub size_is : (f : Function) (octets : List ℕ) (ended : ℕ) (run : Option Run) → IsLaid f octets ended run
    → size (built_in f octets ended run) ≡ length octets
size_is f octets ended run is =
    let low : front_size f ≤ length octets = omega (arith, is.front, is.behind) in
    let first : length (take (front_size f) octets) ≡ front_size f = size_taken (front_size f) octets low in
    let both : length octets ≡ length (take (front_size f) octets) + length (drop (front_size f) octets) =
    ap length (cut (front_size f) octets) ∙ length-append (take (front_size f) octets) (drop (front_size f) octets) in
    let body : length (drop (front_size f) octets) ≡ length (spelled (heads (built_in f octets ended run))) = ap length (body_is f octets ended run is) in
    omega arith

-- ---- nothing yet

front_number : (f : Function) (b : Bool) → is_response f ≡ b → cond b 4 2 ≡ front_size f
front_number f b is = ap (λ (x : Bool). cond x 4 2) (sym is)

pub fresh : (f : Function) (b : Bool) (octets objects : List ℕ) (ended : ℕ) (run : Option Run) → is_response f ≡ b → length octets ≡ cond b 4 2
    → ended ≡ length octets → option_map (run_head objects) run ≡ None
    → IsLaid f octets ended run × (built_in f octets ended run ≡ record { function = f; ended = []; run = None })
fresh f b octets objects ended (Some run) is sized at none = cc
fresh f b octets objects ended None is sized at none =
    let nothing = empty f [] [] refl in
    let all : octets ++ [] ≡ octets = append-nil octets in
    let both = laid f octets ended None octets [] [] (sized ∙ front_number f b is) (at ∙ ap length (sym all)) (sym all ∙ sym (append-nil (octets ++ []))) nothing.0 in
    (both.0, both.1 ∙ nothing.1)

-- ---- the run ended

ended_all : (f : Function) (before : List ℕ) (run : Option Run) (objects : List ℕ) → IsBuilt f before run objects
    → IsBuilt f (before ++ run_octets run objects) None objects × (built f (before ++ run_octets run objects) None objects ≡ broken (built f before run objects))
ended_all f before None objects is =
    let same : before ++ [] ≡ before = append-nil before in
    let hs = headers_of (form_of f) before in (
      subst (λ (l : List ℕ). IsBuilt f l None objects) (sym same) is,
      (λ i. built f (same i) None objects) ∙ (λ i. record { function = f; ended = sym (append-nil hs) i; run = None }),
    )
ended_all f before (Some run) objects is =
    run_ended f before (before ++ header_octets (run_head objects run)) (Some run) run objects objects (run_head objects run) is refl refl refl refl

pub run_broken : (f : Function) (octets : List ℕ) (ended end : ℕ) (run : Option Run) → IsLaid f octets ended run → end ≡ length octets
    → IsLaid f octets end None × (built_in f octets end None ≡ broken (built_in f octets ended run))
run_broken f octets ended end run is at =
    let parts = parts_of f octets ended run is in
    let objects = objects_in octets ended run in
    let before : List ℕ = ended_in f octets ended ++ run_octets run objects in
    let all = ended_all f (ended_in f octets ended) run objects is.parts in
    let whole : octets ≡ parts.front ++ before = parts.whole ∙ append_assoc parts.front (ended_in f octets ended) (run_octets run objects) in
    let both = laid f octets end None parts.front before objects parts.front_is (at ∙ ap length whole) (whole ∙ sym (append-nil (parts.front ++ before))) all.0 in
    (both.0, both.1 ∙ all.1)

-- ---- a header put

pub header_laid : (old : Built) (f : Function) (octets now : List ℕ) (ended end : ℕ) (run : Option Run) (h : Head)
    → built_in f octets ended run ≡ broken old → IsLaid f octets ended run → IsHeaderAt (form_of old.function) (context_of old) h
    → now ≡ octets ++ header_octets h → end ≡ ended + length (header_octets h) → size old + length (header_octets h) ≤ MAX_FRAGMENT
    → IsLaid f now end run × (built_in f now end run ≡ with_header old h)
header_laid old f octets now ended end (Some run) h inside is fits whole at room = let none = ap (λ (b : Built). b.run) inside in cc
header_laid old f octets now ended end None h inside is fits whole at room =
    let parts = parts_of f octets ended None is in
    let before : List ℕ = ended_in f octets ended in
    let more : List ℕ = before ++ header_octets h in
    let put = header_put old f before more None [] h inside is.parts fits refl room in
    let all : now ≡ parts.front ++ more =
    whole ∙ (λ i. (parts.whole ∙ append-nil (parts.front ++ before)) i ++ header_octets h) ∙ append_assoc parts.front before (header_octets h) in
    let place : end ≡ length (parts.front ++ more) =
    at ∙ ap (λ (n : ℕ). n + length (header_octets h)) parts.ended_is ∙ sym (length-append (parts.front ++ before) (header_octets h))
    ∙ ap length (append_assoc parts.front before (header_octets h)) in
    let both = laid f now end None parts.front more [] parts.front_is place (all ∙ sym (append-nil (parts.front ++ more))) put.0 in
    (both.0, both.1 ∙ put.1)

-- ---- an object begins a run

-- an object's header, with the object after it
pub header_behind : (octets now : List ℕ) (begun : Run) (object : Head) → run_head object.octets begun ≡ object
    → now ≡ (octets ++ header_octets (run_head [] begun)) ++ object.octets → now ≡ octets ++ header_octets object
header_behind octets now begun object same whole =
    let top : List ℕ = begun.group ∷ begun.variation ∷ qualifier_of begun.range ∷ [] in
    whole ∙ append_assoc octets (header_octets (run_head [] begun)) object.octets
    ∙ ap (λ (l : List ℕ). octets ++ (top ++ l)) (ap (λ (l : List ℕ). l ++ object.octets) (append-nil (range_octets begun.range)))
    ∙ ap (λ (h : Head). octets ++ header_octets h) same

pub size-header : (begun : Run) (object : Head) → run_head object.octets begun ≡ object
    → length (header_octets object) ≡ 3 + length (range_octets begun.range) + length object.octets
size-header begun object same =
    let sizes : length (range_octets begun.range ++ object.octets) ≡ length (range_octets begun.range) + length object.octets =
    length-append (range_octets begun.range) object.octets in
    let whole : length (header_octets object) ≡ length (header_octets (run_head object.octets begun)) = ap (λ (h : Head). length (header_octets h)) (sym same) in
    omega arith

pub object_laid : (old : Built) (f : Function) (octets now : List ℕ) (ended : ℕ) (run : Option Run) (begun : Run) (object : Head)
    → built_in f octets ended run ≡ broken old → IsLaid f octets ended run → run_head object.octets begun ≡ object
    → IsHeaderAt (form_of old.function) (context_of old) object → now ≡ octets ++ header_octets object → size old + length (header_octets object) ≤ MAX_FRAGMENT
    → IsLaid f now ended (Some begun) × (built_in f now ended (Some begun) ≡ record { function = old.function; ended = heads old; run = Some object })
object_laid old f octets now ended (Some run) begun object inside is same fits whole room = let none = ap (λ (b : Built). b.run) inside in cc
object_laid old f octets now ended None begun object inside is same fits whole room =
    let parts = parts_of f octets ended None is in
    let before : List ℕ = ended_in f octets ended in
    let put = object_begins old f before object.octets None [] begun object inside is.parts same fits room refl in
    let all : now ≡ (parts.front ++ before) ++ header_octets (run_head object.octets begun) =
    whole ∙ (λ i. (parts.whole ∙ append-nil (parts.front ++ before)) i ++ header_octets (sym same i)) in
    let both = laid f now ended (Some begun) parts.front before object.octets parts.front_is parts.ended_is all put.0 in
    (both.0, both.1 ∙ put.1)

-- ---- an object joins the run

-- of ranges that join, the number that grows is all that changes
record Grows (a r : Range) : Type 0 where
  qualifier : qualifier_of r ≡ qualifier_of a
  written : (before rest : List ℕ) (at : ℕ) → at ≡ length before
      → written_over (before ++ (range_octets a ++ rest)) (at + (range_end r).0) (number true (range_end r).1) ≡ before ++ (range_octets r ++ rest)

overwritten : (before old news rest : List ℕ) (at : ℕ) → at ≡ length before → length news ≡ length old
    → written_over (before ++ (old ++ rest)) at news ≡ before ++ (news ++ rest)
overwritten before old news rest at is sized =
    let first : take at (before ++ (old ++ rest)) ≡ before = take_at at (before ++ (old ++ rest)) before (old ++ rest) is refl in
    let both : length (before ++ old) ≡ length before + length old = length-append before old in
    let place : at + length news ≡ length (before ++ old) = omega arith in
    let last : drop (at + length news) (before ++ (old ++ rest)) ≡ rest =
    drop_at (at + length news) (before ++ (old ++ rest)) (before ++ old) rest place (sym (append_assoc before old rest)) in
    (λ i. first i ++ (news ++ last i))

grows : (a b r : Range) → joined_range a b ≡ Some r → Grows a r
grows (range.Indexed true n) (range.Indexed true more) r is =
    let both = some_is _ (range.Indexed true (n + more)) r is in
    subst (λ (x : Range). Grows (range.Indexed true n) x) both.1
    (record {
      qualifier = refl;
      written = λ before rest at place. overwritten before (number true n) (number true (n + more)) rest (at + 0) (omega arith) refl;
    })
grows (range.Span true first last) (range.Span true next end) r is =
    let both = some_is (last + 1 == next) (range.Span true first end) r is in
    subst (λ (x : Range). Grows (range.Span true first last) x) both.1
    (record {
      qualifier = refl;
      written = λ before rest at place.
          let sizes : length (before ++ number true first) ≡ length before + 2 = length-append before (number true first) in
          ap (λ (l : List ℕ). written_over l (at + 2) (number true end)) (sym (append_assoc before (number true first) (number true last ++ rest)))
          ∙ overwritten (before ++ number true first) (number true last) (number true end) rest (at + 2) (omega arith) refl
          ∙ append_assoc before (number true first) (number true end ++ rest);
    })
grows range.All b r is = cc
grows (range.Count wide n) b r is = cc
grows (range.Indexed false n) b r is = cc
grows (range.Indexed true n) range.All r is = cc
grows (range.Indexed true n) (range.Count wide m) r is = cc
grows (range.Indexed true n) (range.Span wide first last) r is = cc
grows (range.Indexed true n) (range.Indexed false m) r is = cc
grows (range.Span false first last) b r is = cc
grows (range.Span true first last) range.All r is = cc
grows (range.Span true first last) (range.Count wide m) r is = cc
grows (range.Span true first last) (range.Indexed wide m) r is = cc
grows (range.Span true first last) (range.Span false next end) r is = cc

abbrev with_range : Run → Range → Run
with_range run r = record { group = run.group; variation = run.variation; range = r; common = run.common }

longer_is : (run long : Run) (x : Bool) (o : Option Range) → cond x (option_map (with_range run) o) None ≡ Some long
    → (r : Range) × (o ≡ Some r) × (with_range run r ≡ long)
longer_is run long true (Some r) is = (r, refl, cc)
longer_is run long true None is = cc
longer_is run long false o is = cc

-- the octets of the run's header, with the object after them and the number written over
run_grown : (run long : Run) (object : Head) (top objects : List ℕ) (at : ℕ) → joined_run object run ≡ Some long → at ≡ length top
    → written_over ((top ++ header_octets (run_head objects run)) ++ object.octets) (at + 3 + (range_end long.range).0) (number true (range_end long.range).1)
    ≡ top ++ header_octets (run_head (objects ++ object.octets) long)
run_grown run long object top objects at is place =
    let found = longer_is run long ((run.group == object.group) && (run.variation == object.variation)) (joined_range run.range object.range) is in
    subst (λ (l : Run). written_over ((top ++ header_octets (run_head objects run)) ++ object.octets) (at + 3 + (range_end l.range).0) (number true (range_end l.range).1)
    ≡ top ++ header_octets (run_head (objects ++ object.octets) l)) found.2 (go found.0 (grows run.range object.range found.0 found.1))
  where
    go : (r : Range) → Grows run.range r
        → written_over ((top ++ header_octets (run_head objects run)) ++ object.octets) (at + 3 + (range_end r).0) (number true (range_end r).1)
        ≡ top ++ header_octets (run_head (objects ++ object.octets) (with_range run r))
    go r grown =
        let own : List ℕ = run.group ∷ run.variation ∷ qualifier_of run.range ∷ [] in
        let rest : List ℕ = objects ++ object.octets in
        let before : List ℕ = top ++ own in
        let sizes : length (top ++ own) ≡ length top + 3 = length-append top own in
        let apart : (top ++ (own ++ (range_octets run.range ++ objects))) ++ object.octets ≡ before ++ (range_octets run.range ++ rest) =
        append_assoc top (own ++ (range_octets run.range ++ objects)) object.octets
        ∙ ap (λ (l : List ℕ). top ++ (own ++ l)) (append_assoc (range_octets run.range) objects object.octets)
        ∙ sym (append_assoc top own (range_octets run.range ++ rest)) in
        ap (λ (l : List ℕ). written_over l (at + 3 + (range_end r).0) (number true (range_end r).1)) apart
        ∙ grown.written before rest (at + 3) (omega arith)
        ∙ append_assoc top own (range_octets r ++ rest)
        ∙ ap (λ (q : ℕ). top ++ (run.group ∷ run.variation ∷ q ∷ (range_octets r ++ rest))) (sym grown.qualifier)

pub joined_laid : (old : Built) (f : Function) (octets longest now : List ℕ) (ended place : ℕ) (run : Option Run) (long : Run) (object : Head)
    → built_in f octets ended run ≡ old → IsLaid f octets ended run → IsHeaderAt (form_of old.function) (context_of old) object
    → IsSome (object_size object.group object.variation) → longer run object ≡ Some long → longest ≡ octets ++ object.octets
    → place ≡ ended + 3 + (range_end long.range).0 → now ≡ written_over longest place (number true (range_end long.range).1)
    → size old + length object.octets ≤ MAX_FRAGMENT
    → IsLaid f now ended (Some long) × (built_in f now ended (Some long) ≡ with_object old object)
joined_laid old f octets longest now ended place None long object seen is fits some join behind at whole room = cc
joined_laid old f octets longest now ended place (Some run) long object seen is fits some join behind at whole room =
    let parts = parts_of f octets ended (Some run) is in
    let before : List ℕ = ended_in f octets ended in
    let objects : List ℕ = objects_in octets ended (Some run) in
    let put = joined_all old f before (objects ++ object.octets) (Some run) objects object long seen is.parts fits some join room refl in
    let all : now ≡ (parts.front ++ before) ++ header_octets (run_head (objects ++ object.octets) long) =
    whole ∙ (λ i. written_over ((behind ∙ ap (λ (l : List ℕ). l ++ object.octets) parts.whole) i) (at i) (number true (range_end long.range).1))
    ∙ run_grown run long object (parts.front ++ before) objects ended join parts.ended_is in
    let both = laid f now ended (Some long) parts.front before (objects ++ object.octets) parts.front_is parts.ended_is all put.0 in
    (both.0, both.1 ∙ put.1)

-- ---- the front written

pub front_laid : (f : Function) (octets now news : List ℕ) (ended : ℕ) (run : Option Run) → IsLaid f octets ended run
    → length news ≡ front_size f → now ≡ news ++ drop (front_size f) octets
    → IsLaid f now ended run × (built_in f now ended run ≡ built_in f octets ended run)
front_laid f octets now news ended run is sized whole =
    let parts = parts_of f octets ended run is in
    let objects = objects_in octets ended run in
    let before : List ℕ = ended_in f octets ended in
    let apart : octets ≡ parts.front ++ (before ++ run_octets run objects) = parts.whole ∙ append_assoc parts.front before (run_octets run objects) in
    let body : drop (front_size f) octets ≡ before ++ run_octets run objects =
    drop_at (front_size f) octets parts.front (before ++ run_octets run objects) (sym parts.front_is) apart in
    let all : now ≡ (news ++ before) ++ run_octets run objects =
    whole ∙ ap (λ (l : List ℕ). news ++ l) body ∙ sym (append_assoc news before (run_octets run objects)) in
    let first : length (news ++ before) ≡ length news + length before = length-append news before in
    let other : length (parts.front ++ before) ≡ length parts.front + length before = length-append parts.front before in
    let place : ended ≡ length (news ++ before) = omega (arith, parts.ended_is, parts.front_is, first, other, sized) in
    laid f now ended run news before objects sized place all is.parts
