-- Rows of a lane that go on as those that stand last, put by one call of the builder: what comes of it is what comes of
-- them one by one.
use Rattle.std.proofs.Common.{◌≡◌, ◌≤◌, ◌<◌, ◌+◌, ◌-◌, ℕ, zero, suc, Bool, true, false, cond, nat_le, refl, sym, ◌∙◌, ap, subst, List, [], ◌∷◌, ◌++◌, length, take, map, arith, Option, Some, None}
use Rattle.std.specs.Prelude.{IfSome}
use Rattle.std.specs.List.{All, fold}
use Rattle.std.proofs.lemmas.Bool.{leb-true}
use Rattle.std.proofs.lemmas.List.Elements.{All-head, All-tail}
use Rattle.std.proofs.lemmas.List.Sums.{fold-append}
use Rattle.dnp_objects.specs.Relative.{FitsRelative}
use Rattle.dnp_objects.specs.declared.limits.TheConstants.{MAX_FRAGMENT}
use Rattle.dnp_objects.specs.declared.row.Row.{Row}
use Rattle.dnp_appfragment.specs.Built.{Built, size, context_of, with_object, with_objects, objects_put}
use Rattle.dnp_appfragment.specs.Headers.{Head, is_common}
use Rattle.dnp_appfragment.specs.Written.{event, relative}
use Rattle.dnp_eventbuf.specs.declared.numbered.Numbered.{Numbered}
use Rattle.dnp_outstation.specs.declared.offer.grouping.Waiting.{Waiting}
use Rattle.dnp_outstation.specs.declared.offer.place.ReadPlace.{ReadPlace}
use Rattle.dnp_outstation.specs.declared.offer.writer.Run.TheVariants.{OfLane}
use Rattle.dnp_outstation.specs.declared.offer.writer.Writer.{Writer}
use Rattle.dnp_outstation.specs.Forms.{told_by}
use Rattle.dnp_outstation.specs.Items.{Item, event_of, given_after, place_after}
use Rattle.dnp_outstation.specs.Layout.{Laid}
use Rattle.dnp_outstation.specs.steps.Filling.{put_laid, continues, begun, fits, ended, fill_laid, reached}
use Rattle.dnp_outstation.specs.steps.Grouping.{mark, laid_from, open_in, waiting_items}
use Rattle.dnp_outstation.specs.steps.Putting.{PutsFirst, StopsIn, GoOn, passed_rows, least_octets, least_of}
use Rattle.dnp_outstation.proofs.GroupTimes.{timed_binary}
use Rattle.dnp_outstation.proofs.OfferRoom.{own_grows, group_grows}
use Rattle.dnp_outstation.proofs.Runs.{own_continues, told_continues}

-- ---- what the builder puts

abbrev pub said_by : Option ℕ → Row → Head
said_by None row = event row
said_by (Some common) row = relative common row

abbrev pub rows_in : List Numbered → List Row
rows_in xs = map (λ (x : Numbered). x.row) xs

abbrev pub said : Option ℕ → List Numbered → List Head
said told xs = map (said_by told) (rows_in xs)

-- by the law that a common time stays whatever object is put
abbrev pub CommonStays : Type 0
CommonStays = (b : Built) (object : Head) → is_common object ≡ false → context_of (with_object b object) ≡ context_of b

-- ---- what stands last

pub record Stands (w : Writer) (header lane : ℕ) (told : Option ℕ) : Type 0 where
  pub run : w.run ≡ OfLane lane told
  pub continues : continues w (OfLane lane told) ≡ true
  pub under : w.place.header ≡ header
  pub there : IfSome told (λ common. context_of w.builder ≡ Some common)

-- a row more
abbrev stepped : Writer → ℕ → ℕ → Option ℕ → Numbered → Writer
stepped w header lane told x = record w {
  builder = with_object w.builder (said_by told x.row);
  place = place_after w.place (event_of header lane x);
  upto = given_after w.upto (event_of header lane x);
}

step_is : (w : Writer) (header lane : ℕ) (told : Option ℕ) (x : Numbered) → Stands w header lane told
    → put_laid w (told_by told (event_of header lane x)) ≡ stepped w header lane told x
step_is w header lane None x stands =
    (λ i. record w {
      builder = with_object (cond (stands.continues i) w.builder (begun w.builder None)) (event x.row);
      run = sym stands.run i;
      place = place_after w.place (event_of header lane x);
      upto = given_after w.upto (event_of header lane x);
    })
step_is w header lane (Some t) x stands =
    (λ i. record w {
      builder = with_object (cond (stands.continues i) w.builder (begun w.builder (Some t))) (relative t x.row);
      run = sym stands.run i;
      place = place_after w.place (event_of header lane x);
      upto = given_after w.upto (event_of header lane x);
    })

stands_on : CommonStays → (w : Writer) (header lane : ℕ) (told : Option ℕ) (x : Numbered) → Stands w header lane told
    → Stands (stepped w header lane told x) header lane told
stands_on law w header lane None x stands = record {
  run = stands.run;
  continues = own_continues (stepped w header lane None x) lane stands.run;
  under = refl;
  there = tt;
}
stands_on law w header lane (Some t) x stands =
    let there : context_of (with_object w.builder (relative t x.row)) ≡ Some t = law w.builder (relative t x.row) refl ∙ stands.there in
    record {
      run = stands.run;
      continues = told_continues w (stepped w header lane (Some t) x) lane t stands.continues stands.there stands.run there;
      under = refl;
      there = there;
    }

-- ---- all of them fit

test_is : (b : Built) (object : Head) (objects : List Head) (t : Bool) → nat_le (size (with_object b object)) MAX_FRAGMENT ≡ t
    → objects_put b (object ∷ objects) ≡ cond t (objects_put (with_object b object) objects + 1) 0
test_is b object objects t is = ap (λ (x : Bool). cond x (objects_put (with_object b object) objects + 1) 0) is

objects_is : (b : Built) (object : Head) (objects : List Head) (t : Bool) → nat_le (size (with_object b object)) MAX_FRAGMENT ≡ t
    → with_objects b (object ∷ objects) ≡ cond t (with_objects (with_object b object) objects) b
objects_is b object objects t is = ap (λ (x : Bool). cond x (with_objects (with_object b object) objects) b) is

-- a writer with these built, and these rows under the last header
abbrev pub listed : Writer → Built → ℕ → ℕ → List Numbered → Writer
listed w b header lane rows = passed_rows (record w { builder = b }) header lane rows

fill_step : (w : Writer) (header lane : ℕ) (told : Option ℕ) (x : Numbered) (xs : List Laid) (t : Bool) → Stands w header lane told
    → nat_le (size (with_object w.builder (said_by told x.row))) MAX_FRAGMENT ≡ t
    → fill_laid w (told_by told (event_of header lane x) ∷ xs) ≡ cond t (fill_laid (stepped w header lane told x) xs) (ended false w)
fill_step w header lane told x xs t stands is =
    ap (λ (v : Writer). cond (fits v) (fill_laid v xs) (ended false w)) (step_is w header lane told x stands)
    ∙ ap (λ (b : Bool). cond b (fill_laid (stepped w header lane told x) xs) (ended false w)) is

all_filled : CommonStays → (w : Writer) (header lane : ℕ) (told : Option ℕ) (own : List Numbered) (more : List Laid) → Stands w header lane told
    → objects_put w.builder (said told own) ≡ length own
    → fill_laid w (map (told_by told) (map (event_of header lane) own) ++ more)
    ≡ fill_laid (listed w (with_objects w.builder (said told own)) header lane own) more
all_filled law w header lane told [] more stands all = refl
all_filled law w header lane told (x ∷ xs) more stands all =
    by (λ rest. all_filled law (stepped w header lane told x) header lane told xs more (stands_on law w header lane told x stands) rest)
    (nat_le (size (with_object w.builder (said_by told x.row))) MAX_FRAGMENT) refl
  where
    e : Numbered → Item
    e = event_of header lane

    by : (objects_put (with_object w.builder (said_by told x.row)) (said told xs) ≡ length xs
        → fill_laid (stepped w header lane told x) (map (told_by told) (map e xs) ++ more)
        ≡ fill_laid (listed w (with_objects (with_object w.builder (said_by told x.row)) (said told xs)) header lane (x ∷ xs)) more)
        → (t : Bool) → nat_le (size (with_object w.builder (said_by told x.row))) MAX_FRAGMENT ≡ t
        → fill_laid w (map (told_by told) (map e (x ∷ xs)) ++ more)
        ≡ fill_laid (listed w (with_objects w.builder (said told (x ∷ xs))) header lane (x ∷ xs)) more
    by others true is =
        let rest : objects_put (with_object w.builder (said_by told x.row)) (said told xs) ≡ length xs =
        omega (arith, all, test_is w.builder (said_by told x.row) (said told xs) true is) in
        fill_step w header lane told x (map (told_by told) (map e xs) ++ more) true stands is
        ∙ others rest
        ∙ ap (λ (b : Built). fill_laid (listed w b header lane (x ∷ xs)) more) (sym (objects_is w.builder (said_by told x.row) (said told xs) true is))
    by others false is = absurd (omega (arith, all, test_is w.builder (said_by told x.row) (said told xs) false is))

-- one doesn't
some_filled : CommonStays → (w : Writer) (header lane : ℕ) (told : Option ℕ) (own : List Numbered) (more : List Laid) (n : ℕ) → Stands w header lane told
    → n ≡ objects_put w.builder (said told own) → n < length own
    → fill_laid w (map (told_by told) (map (event_of header lane) own) ++ more)
    ≡ ended false (listed w (with_objects w.builder (said told own)) header lane (take n own))
some_filled law w header lane told [] more n stands is few = absurd (omega arith)
some_filled law w header lane told (x ∷ xs) more n stands put few =
    by (λ m rest less. some_filled law (stepped w header lane told x) header lane told xs more m (stands_on law w header lane told x stands) rest less)
    n (nat_le (size (with_object w.builder (said_by told x.row))) MAX_FRAGMENT) refl put few
  where
    e : Numbered → Item
    e = event_of header lane

    by : ((m : ℕ) → m ≡ objects_put (with_object w.builder (said_by told x.row)) (said told xs) → m < length xs
        → fill_laid (stepped w header lane told x) (map (told_by told) (map e xs) ++ more)
        ≡ ended false (listed w (with_objects (with_object w.builder (said_by told x.row)) (said told xs)) header lane (x ∷ take m xs)))
        → (n : ℕ) (t : Bool) → nat_le (size (with_object w.builder (said_by told x.row))) MAX_FRAGMENT ≡ t
        → n ≡ objects_put w.builder (said told (x ∷ xs)) → n < length (x ∷ xs)
        → fill_laid w (map (told_by told) (map e (x ∷ xs)) ++ more)
        ≡ ended false (listed w (with_objects w.builder (said told (x ∷ xs))) header lane (take n (x ∷ xs)))
    by others zero true is put few = absurd (omega (arith, put, test_is w.builder (said_by told x.row) (said told xs) true is))
    by others (suc n) true is put few =
        let rest : n ≡ objects_put (with_object w.builder (said_by told x.row)) (said told xs) =
        omega (arith, put, test_is w.builder (said_by told x.row) (said told xs) true is) in
        fill_step w header lane told x (map (told_by told) (map e xs) ++ more) true stands is
        ∙ others n rest (omega arith)
        ∙ ap (λ (b : Built). ended false (listed w b header lane (x ∷ take n xs))) (sym (objects_is w.builder (said_by told x.row) (said told xs) true is))
    by others zero false is put few =
        fill_step w header lane told x (map (told_by told) (map e xs) ++ more) false stands is
        ∙ ap (λ (b : Built). ended false (listed w b header lane [])) (sym (objects_is w.builder (said_by told x.row) (said told xs) false is))
    by others (suc n) false is put few = absurd (omega (arith, put, test_is w.builder (said_by told x.row) (said told xs) false is))

-- ---- the last ids, and how much longer the fragment is

given_is : (p : ReadPlace) (items : List Item) → (fold place_after p items).given ≡ fold given_after p.given items
given_is p [] = refl
given_is p (x ∷ xs) = given_is (place_after p x) xs

pub map-append : {A B : Type 0} (f : A → B) (xs ys : List A) → map f (xs ++ ys) ≡ map f xs ++ map f ys
map-append f [] ys = refl
map-append f (x ∷ xs) ys = ap (λ (l : List _). f x ∷ l) (map-append f xs ys)

least_both : (xs ys : List Numbered) → least_of (xs ++ ys) ≡ least_of xs + least_of ys
least_both [] ys = omega arith
least_both (x ∷ xs) ys = let rest = least_both xs ys in omega arith

-- each can be told so
abbrev pub CanTell : Option ℕ → List Numbered → Type 0
CanTell told own = All (λ (x : Numbered). IfSome told (λ common. FitsRelative common x.row)) own

said_grows : (b : Built) (told : Option ℕ) (x : Numbered) → IfSome told (λ common. FitsRelative common x.row)
    → size b + least_octets x.row.kind ≤ size (with_object b (said_by told x.row))
said_grows b None x tells = own_grows b x.row
said_grows b (Some t) x tells =
    let more = group_grows b t x.row in
    let three : least_octets x.row.kind ≡ 3 = ap least_octets (timed_binary t x.row tells).kind_is in
    omega arith

all_grow : (b : Built) (told : Option ℕ) (own : List Numbered) → CanTell told own → size b ≤ MAX_FRAGMENT
    → objects_put b (said told own) ≡ length own
    → (size b + least_of own ≤ size (with_objects b (said told own))) × (size (with_objects b (said told own)) ≤ MAX_FRAGMENT)
all_grow b told [] tells short all = (omega arith, short)
all_grow b told (x ∷ xs) tells short all =
    by (λ fits rest. all_grow (with_object b (said_by told x.row)) told xs
    (All-tail (λ (y : Numbered). IfSome told (λ common. FitsRelative common y.row)) x xs tells) fits rest)
    (nat_le (size (with_object b (said_by told x.row))) MAX_FRAGMENT) refl
  where
    b' : Built
    b' = with_object b (said_by told x.row)

    by : (size b' ≤ MAX_FRAGMENT → objects_put b' (said told xs) ≡ length xs
        → (size b' + least_of xs ≤ size (with_objects b' (said told xs))) × (size (with_objects b' (said told xs)) ≤ MAX_FRAGMENT))
        → (t : Bool) → nat_le (size (with_object b (said_by told x.row))) MAX_FRAGMENT ≡ t
        → (size b + least_of (x ∷ xs) ≤ size (with_objects b (said told (x ∷ xs)))) × (size (with_objects b (said told (x ∷ xs))) ≤ MAX_FRAGMENT)
    by rest true is =
        let all_put : objects_put b' (said told xs) ≡ length xs = omega (arith, all, test_is b (said_by told x.row) (said told xs) true is) in
        let others = rest (leb-true (size b') MAX_FRAGMENT is) all_put in
        let first = said_grows b told x (All-head (λ (y : Numbered). IfSome told (λ common. FitsRelative common y.row)) x xs tells) in
        let same : size (with_objects b (said told (x ∷ xs))) ≡ size (with_objects (with_object b (said_by told x.row)) (said told xs)) =
        ap size (objects_is b (said_by told x.row) (said told xs) true is) in
        (omega (arith, first, others.0, same), omega (arith, others.1, same))
    by rest false is = absurd (omega (arith, all, test_is b (said_by told x.row) (said told xs) false is))

-- ---- what comes of them all

pub list_first : CommonStays → (w w' : Writer) (header : ℕ) (is_open : Bool) (lane : ℕ) (told : Option ℕ) (own left : List Numbered)
    → Stands w header lane told → waiting_items w.waiting ≡ [] → CanTell told own → GoOn w.waiting header is_open lane told own left
    → objects_put w.builder (said told own) ≡ length own → w' ≡ listed w (with_objects w.builder (said told own)) header lane own
    → PutsFirst w header is_open lane (own ++ left) left w'
list_first law w w' header is_open lane told own left stands none tells goes all is =
    subst (λ (v : Writer). PutsFirst w header is_open lane (own ++ left) left v) (sym is) whole
  where
    e : Numbered → Item
    e = event_of header lane

    v : Writer
    v = listed w (with_objects w.builder (said told own)) header lane own

    ids : (u : Writer) → u.waiting ≡ w.waiting → reached u ≡ u.place.given
    ids u same = ap (λ (x : Waiting). fold given_after u.place.given (waiting_items x)) same
        ∙ ap (λ (xs : List Item). fold given_after u.place.given xs) none

    whole : PutsFirst w header is_open lane (own ++ left) left v
    whole = record {
      given =
          ap (λ (given : List ℕ). fold given_after given (map e left)) (ids v refl ∙ given_is w.place (map e own))
          ∙ sym (fold-append given_after w.place.given (map e own) (map e left))
          ∙ ap (λ (xs : List Item). fold given_after w.place.given xs) (sym (map-append e own left))
          ∙ ap (λ (given : List ℕ). fold given_after given (map e (own ++ left))) (sym (ids w refl));
      written = λ more.
          sym (ap (fill_laid w) (goes more)
          ∙ all_filled law w header lane told own (laid_from (open_in w.waiting) (mark is_open (map e left) ++ more)) stands all);
      room = λ short. let grown = all_grow w.builder told own tells short all in (omega (arith, grown.0, least_both own left), grown.1);
    }

pub list_stops : CommonStays → (w w' : Writer) (header : ℕ) (is_open : Bool) (lane : ℕ) (told : Option ℕ) (own left : List Numbered) (n : ℕ)
    → Stands w header lane told → GoOn w.waiting header is_open lane told own left
    → n ≡ objects_put w.builder (said told own) → n < length own → w' ≡ listed w (with_objects w.builder (said told own)) header lane (take n own)
    → StopsIn w header is_open lane (own ++ left) w'
list_stops law w w' header is_open lane told own left n stands goes put few is more =
    ap (fill_laid w) (goes more)
    ∙ some_filled law w header lane told own (laid_from (open_in w.waiting) (mark is_open (map (event_of header lane) left) ++ more)) n stands put few
    ∙ ap (λ (v : Writer). ended false v) (sym is)
