-- What a writer holds after some items: their headers.
use Rattle.std.proofs.Common.{◌≡◌, ◌⊎◌, inl, inr, Bool, true, false, if◌then◌else◌, refl, sym, ◌∙◌, ap, subst, ℕ, ◌+◌, ◌*◌, ◌≤◌, nat_le, ◌||◌, List, [], ◌∷◌, ◌++◌, map, length, arith, Option, Some, None, IfSome, append_assoc, append-nil, eq-eqb}
use Rattle.std.specs.Prelude.{option_to_list, fold, nat_eq, ◌&&◌, ◌==◌}
use Rattle.std.specs.List.{flat_map}
use Rattle.std.specs.Option.{option_and_then, option_eq}
use Rattle.std.proofs.lemmas.Bool.{and_from, leb-true}
use Rattle.std.proofs.lemmas.List.{length-append, length-map, map_push}
use Rattle.std.proofs.lemmas.List.Concat.{flat_map-append}
use Rattle.std.proofs.lemmas.List.Sums.{fold_push}
use Rattle.dnp_appfragment.specs.declared.function.Function.{Function}
use Rattle.dnp_appfragment.specs.declared.function.Function.TheVariants as function
use Rattle.dnp_appfragment.specs.declared.header.Range.TheVariants as range
use Rattle.dnp_appfragment.specs.Built.{Built, front_size, heads, context_of, size, with_run, with_object}
use Rattle.dnp_appfragment.specs.Headers.{Head, number, header_octets, range_octets, spelled, is_common, last_time, begin, context_past}
use Rattle.dnp_appfragment.specs.Items.{Item as Object, item_octets}
use Rattle.dnp_appfragment.specs.Joining.{joined}
use Rattle.dnp_appfragment.specs.Written.{common_head}
use Rattle.dnp_objects.specs.declared.limits.TheConstants.{MAX_FRAGMENT}
use Rattle.dnp_outstation.specs.declared.offer.place.ReadPlace.{ReadPlace}
use Rattle.dnp_outstation.specs.declared.offer.writer.Run.{Run}
use Rattle.dnp_outstation.specs.declared.offer.writer.Run.TheVariants.{NoRun}
use Rattle.dnp_outstation.specs.declared.offer.writer.Writer.{Writer}
use Rattle.dnp_outstation.specs.Items.{Thing, no_ids, given_after, place_after}
use Rattle.dnp_outstation.specs.Items.Thing.{Event, Present}
use Rattle.dnp_outstation.specs.Layout.{Laid, item_of, object_of, goes_on, Stretch, alone, header_of, front_of, heads_of, headers_of, fits_fragment}
use Rattle.dnp_outstation.specs.steps.Filling.{is_same_run, common_of, continues_by, continues, no_headers, empty_from, begun, built_for, put_laid, fits}
use Rattle.dnp_outstation.proofs.CommonTimes.{IsTimed, continues_same, another_run, past_one, begun_timed, same_time, told_run}
use Rattle.dnp_outstation.proofs.Joined.{run_at, written_of, IsBehind, behind_on, behind_next, chain_behind, same_run, IsTold, no_front, IsFew, joins, no_join, object_behind}
use Rattle.dnp_outstation.proofs.Stretches.{laid_as, IsChain, last_item, chain_push, last_push, one_stretch, stretch_ends}

-- the writer's last header is that of the last items, and those before it are ended
pub record Stands (b : Built) (run : Run) (items : List Laid) : Type 0 where
  pub first : Laid
  pub more : List Laid
  pub before : List Head
  pub chain : IsChain first more
  pub told : IsTold (last_item first more)
  pub function_is : b.function ≡ function.Response
  pub ended_is : b.ended ≡ before ++ front_of first
  pub run_is : b.run ≡ Some (header_of (record { first = first; more = more }))
  pub run_at_is : run ≡ run_at (last_item first more)
  pub timed : IsTimed b.ended (common_of run)
  pub headers : (others : List Laid) → headers_of (items ++ others) ≡ before ++ headers_of (first ∷ (more ++ others))

pub record IsEmpty (b : Built) (run : Run) (items : List Laid) : Type 0 where
  pub items_are : items ≡ []
  pub builder_is : b ≡ no_headers
  pub run_is : run ≡ NoRun

-- a writer that began at a place and has taken these items
pub record Holds (place : ReadPlace) (w : Writer) (items : List Laid) : Type 0 where
  pub place_is : w.place ≡ fold place_after place (map item_of items)
  pub upto_is : w.upto ≡ fold given_after no_ids (map item_of items)
  pub stands : IsEmpty w.builder w.run items ⊎ Stands w.builder w.run items

-- ---- its headers

last_heads : (b : Built) (run : Run) (items : List Laid) (s : Stands b run items)
    → heads b ≡ s.before ++ heads_of (record { first = s.first; more = s.more })
last_heads b run items s =
    let h : Head = header_of (record { first = s.first; more = s.more }) in
    ap (λ (o : Option Head). b.ended ++ option_to_list o) s.run_is
    ∙ ap (λ (hs : List Head). hs ++ h ∷ []) s.ended_is
    ∙ append_assoc s.before (front_of s.first) (h ∷ [])

all_heads : (b : Built) (run : Run) (items : List Laid) → Stands b run items → heads b ≡ headers_of items
all_heads b run items s =
    last_heads b run items s
    ∙ ap (λ (hs : List Head). s.before ++ hs) (sym (append-nil (heads_of (record { first = s.first; more = s.more }))))
    ∙ ap (λ (found : List Stretch). s.before ++ flat_map heads_of found) (sym (one_stretch s.first s.more s.chain))
    ∙ ap (λ (more : List Laid). s.before ++ headers_of (s.first ∷ more)) (sym (append-nil s.more))
    ∙ sym (s.headers [])
    ∙ ap headers_of (append-nil items)

pub heads_are : (place : ReadPlace) (w : Writer) (items : List Laid) → Holds place w items → heads w.builder ≡ headers_of items
heads_are place w items holds = go holds.stands
  where
    go : IsEmpty w.builder w.run items ⊎ Stands w.builder w.run items → heads w.builder ≡ headers_of items
    go (inl empty) = ap heads empty.builder_is ∙ ap headers_of (sym empty.items_are)
    go (inr s) = all_heads w.builder w.run items s

function_is : (place : ReadPlace) (w : Writer) (items : List Laid) → Holds place w items → w.builder.function ≡ function.Response
function_is place w items holds = go holds.stands
  where
    go : IsEmpty w.builder w.run items ⊎ Stands w.builder w.run items → w.builder.function ≡ function.Response
    go (inl empty) = ap (λ (b : Built). b.function) empty.builder_is
    go (inr s) = s.function_is

-- ---- an item is put

pub put_is : (w : Writer) (x : Laid)
    → put_laid w x
    ≡ record {
      builder = with_object (built_for w (run_at x)) (written_of x);
      run = run_at x;
      place = place_after w.place x.item;
      upto = given_after w.upto x.item;
      waiting = w.waiting;
    }
put_is w x = go x.item.thing
  where
    go : (thing : Thing) → (let y : Laid = laid_as x.item.header thing x.object x.common in
        put_laid w y ≡ record {
          builder = with_object (built_for w (run_at y)) (written_of y);
          run = run_at y;
          place = place_after w.place y.item;
          upto = given_after w.upto y.item;
          waiting = w.waiting;
        })
    go (Event lane row) = refl
    go (Present static) = refl

pub alone_is : (x : Laid) → written_of x ≡ header_of (alone x)
alone_is x = go x.item.thing
  where
    go : (thing : Thing) → (let y : Laid = laid_as x.item.header thing x.object x.common in written_of y ≡ header_of (alone y))
    go (Event lane row) =
        let h = written_of (laid_as x.item.header (Event lane row) x.object x.common) in
        ap (λ (o : List ℕ). record h { range = h.range; octets = o }) (sym (append-nil h.octets))
    go (Present static) =
        let h = written_of (laid_as x.item.header (Present static) x.object x.common) in
        let e : static.row.index ≡ static.row.index + 0 = omega arith in
        ap (λ (o : List ℕ). record h { range = h.range; octets = o }) (sym (append-nil h.octets))
        ∙ ap (λ (last : ℕ). record h { range = range.Span true static.row.index last; octets = h.octets ++ [] }) e

-- the headers of an item more
abbrev with_new : Built → Laid → Built
with_new b x = record { function = b.function; ended = heads b ++ front_of x; run = Some (written_of x) }

-- a header that joins nothing is put after the others
put_new : (b : Built) (x : Laid) (run : Head) → b.run ≡ Some run → joined run (written_of x) ≡ None → front_of x ≡ []
    → with_object b (written_of x) ≡ with_new b x
unfolding with_object
put_new b x run run_is none plain =
    let object : Head = written_of x in
    let ended_with : List Head → Built = λ hs. record { function = b.function; ended = hs; run = Some object } in
    ap (λ (r : Option Head). with_run b (option_and_then (λ run. joined run object) r) object) run_is
    ∙ ap (λ (r : Option Head). with_run b r object) none
    ∙ ap ended_with (sym (append-nil (heads b)) ∙ ap (λ (hs : List Head). heads b ++ hs) (sym plain))

-- and so are those of an item that begins
put_begun : (b : Built) (x : Laid) → with_object (begun b (common_of (run_at x))) (written_of x) ≡ with_new b x
unfolding with_object
put_begun b x = go x.item.thing x.common
  where
    go : (thing : Thing) (common : Option ℕ) → (let y : Laid = laid_as x.item.header thing x.object common in
        with_object (begun b (common_of (run_at y))) (written_of y) ≡ with_new b y)
    go (Event lane row) None = refl
    go (Event lane row) (Some t) =
        let y : Laid = laid_as x.item.header (Event lane row) x.object (Some t) in
        ap (λ (hs : List Head). let built : Built = record { function = b.function; ended = hs; run = Some (written_of y) } in built)
        (append-nil (heads b ++ common_head t ∷ []))
    go (Present static) common = refl

-- a header that joins the run makes it longer
put_joined : (b : Built) (object run longer : Head) → b.run ≡ Some run → joined run object ≡ Some longer
    → with_object b object ≡ record { function = b.function; ended = b.ended; run = Some longer }
unfolding with_object
put_joined b object run longer run_is joins =
    ap (λ (r : Option Head). with_run b (option_and_then (λ x. joined x object) r) object) run_is
    ∙ ap (λ (r : Option Head). with_run b r object) joins

built_same : (w : Writer) (run : Run) → continues w run ≡ true → built_for w run ≡ w.builder
built_same w run same = ap (λ (t : Bool). if t then w.builder else begun w.builder (common_of run)) same

built_other : (w : Writer) (run : Run) → continues w run ≡ false → built_for w run ≡ begun w.builder (common_of run)
built_other w run other = ap (λ (t : Bool). if t then w.builder else begun w.builder (common_of run)) other

-- ---- common times

-- so the item that goes on continues
on_continues : (w : Writer) (items : List Laid) (s : Stands w.builder w.run items) (y : Laid) → goes_on (last_item s.first s.more) y ≡ true
    → continues w (run_at y) ≡ true
on_continues w items s y on =
    go (common_of (run_at y)) (subst (IsTimed w.builder.ended) times s.timed)
    (subst (λ (c : Option ℕ). IfSome c (λ _. last.object.group ≡ 2)) (same_time last y on) (told_run last s.told))
  where
    last : Laid
    last = last_item s.first s.more

    h : Head
    h = header_of (record { first = s.first; more = s.more })

    times : common_of w.run ≡ common_of (run_at y)
    times = ap common_of s.run_at_is ∙ same_time last y on

    same : is_same_run w.run (run_at y) ≡ true
    same = ap (λ (run : Run). is_same_run run (run_at y)) s.run_at_is ∙ same_run last y on

    go : (common : Option ℕ) → IsTimed w.builder.ended common → IfSome common (λ _. last.object.group ≡ 2) → continues_by w (run_at y) common ≡ true
    go None timed two = same
    go (Some t) timed two =
        let group : h.group ≡ 2 = object_behind s.first last (length s.more) (chain_behind s.first s.more s.chain) ∙ two in
        let other : is_common h ≡ false = ap (λ (g : ℕ). (g == 51) && ((h.variation == 1) || (h.variation == 2))) group in
        let there : context_of w.builder ≡ Some (last_time (common_head t)) =
        ap (λ (o : Option Head). context_past begin (w.builder.ended ++ option_to_list o)) s.run_is
        ∙ past_one w.builder.ended h other
        ∙ timed in
        and_from _ _ same
        (ap (λ (o : Option ℕ). option_eq nat_eq o (Some (last_time (common_head t)))) there
        ∙ eq-eqb (last_time (common_head t)) (last_time (common_head t)) refl)

-- ---- the writer after one item more

was_empty : (w : Writer) (items : List Laid) (y : Laid) → IsEmpty w.builder w.run items → IsTold y
    → Stands (with_object (built_for w (run_at y)) (written_of y)) (run_at y) (items ++ y ∷ [])
was_empty w items y empty told =
    subst (λ (xs : List Laid). Stands (with_object (built_for w (run_at y)) (written_of y)) (run_at y) (xs ++ y ∷ [])) (sym empty.items_are)
    (subst (λ (b : Built). Stands b (run_at y) (y ∷ [])) (sym is) (record {
      first = y;
      more = [];
      before = [];
      chain = tt;
      told = told;
      function_is = refl;
      ended_is = refl;
      run_is = ap Some (alone_is y);
      run_at_is = refl;
      timed = begun_timed [] y;
      headers = λ others. refl;
    }))
  where
    other : continues w (run_at y) ≡ false
    other = another_run w (run_at y) (ap (λ (run : Run). is_same_run run (run_at y)) empty.run_is)

    is : with_object (built_for w (run_at y)) (written_of y) ≡ record { function = function.Response; ended = front_of y; run = Some (written_of y) }
    is =
        ap (λ (b : Built). with_object b (written_of y)) (built_other w (run_at y) other)
        ∙ put_begun w.builder y
        ∙ ap (λ (b : Built). with_new b y) empty.builder_is

went_on : (w : Writer) (items : List Laid) (y : Laid) (s : Stands w.builder w.run items) → IsFew s.first s.more
    → goes_on (last_item s.first s.more) y ≡ true → IsTold y
    → Stands (with_object (built_for w (run_at y)) (written_of y)) (run_at y) (items ++ y ∷ [])
went_on w items y s few on told =
    subst (λ (b : Built). Stands b (run_at y) (items ++ y ∷ [])) (sym is) (record {
      first = s.first;
      more = s.more ++ y ∷ [];
      before = s.before;
      chain = chain_push s.first s.more y s.chain on;
      told = subst IsTold (sym (last_push s.first s.more y)) told;
      function_is = s.function_is;
      ended_is = s.ended_is;
      run_is = refl;
      run_at_is = ap run_at (sym (last_push s.first s.more y));
      timed = subst (IsTimed w.builder.ended) (ap common_of s.run_at_is ∙ same_time (last_item s.first s.more) y on) s.timed;
      headers = λ others.
          ap headers_of (append_assoc items (y ∷ []) others)
          ∙ s.headers (y ∷ others)
          ∙ ap (λ (xs : List Laid). s.before ++ headers_of (s.first ∷ xs)) (sym (append_assoc s.more (y ∷ []) others));
    })
  where
    same : continues w (run_at y) ≡ true
    same = on_continues w items s y on

    behind : IsBehind s.first (length s.more + 1) y
    behind = behind_on s.first (last_item s.first s.more) y (length s.more) 1 (chain_behind s.first s.more s.chain)
        (behind_next (last_item s.first s.more) y on)

    is : with_object (built_for w (run_at y)) (written_of y)
        ≡ record { function = w.builder.function; ended = w.builder.ended; run = Some (header_of (record { first = s.first; more = s.more ++ y ∷ [] })) }
    is =
        ap (λ (b : Built). with_object b (written_of y)) (built_same w (run_at y) same)
        ∙ put_joined w.builder (written_of y) (header_of (record { first = s.first; more = s.more }))
        (header_of (record { first = s.first; more = s.more ++ y ∷ [] })) s.run_is
        (joins s.first s.more y behind few)

began_anew : (w : Writer) (items : List Laid) (y : Laid) (s : Stands w.builder w.run items) → goes_on (last_item s.first s.more) y ≡ false → IsTold y
    → Stands (with_object (built_for w (run_at y)) (written_of y)) (run_at y) (items ++ y ∷ [])
began_anew w items y s off told =
    subst (λ (b : Built). Stands b (run_at y) (items ++ y ∷ [])) (sym (is (continues w (run_at y)) refl)) (record {
      first = y;
      more = [];
      before = heads w.builder;
      chain = tt;
      told = told;
      function_is = s.function_is;
      ended_is = refl;
      run_is = ap Some (alone_is y);
      run_at_is = refl;
      timed = begun_timed (heads w.builder) y;
      headers = λ others.
          ap headers_of (append_assoc items (y ∷ []) others)
          ∙ s.headers (y ∷ others)
          ∙ ap (λ (found : List Stretch). s.before ++ flat_map heads_of found) (stretch_ends s.first s.more y others s.chain off)
          ∙ sym (append_assoc s.before (heads_of last) (headers_of (y ∷ others)))
          ∙ ap (λ (hs : List Head). hs ++ headers_of (y ∷ others)) (sym (last_heads w.builder w.run items s));
    })
  where
    last : Stretch
    last = record { first = s.first; more = s.more }

    one_run : continues w (run_at y) ≡ true → is_same_run (run_at (last_item s.first s.more)) (run_at y) ≡ true
    one_run same = ap (λ (r : Run). is_same_run r (run_at y)) (sym s.run_at_is) ∙ continues_same w (run_at y) same

    is : (t : Bool) → continues w (run_at y) ≡ t → with_object (built_for w (run_at y)) (written_of y) ≡ with_new w.builder y
    is true same =
        ap (λ (b : Built). with_object b (written_of y)) (built_same w (run_at y) same)
        ∙ put_new w.builder y (header_of last) s.run_is
        (no_join s.first s.more (last_item s.first s.more) y (chain_behind s.first s.more s.chain) (one_run same) off)
        (no_front (last_item s.first s.more) y s.told told (one_run same) off)
    is false other =
        ap (λ (b : Built). with_object b (written_of y)) (built_other w (run_at y) other)
        ∙ put_begun w.builder y

-- ---- no count is too large in a fragment that fits

indexed_octets : (n : ℕ) (objects : List Object) → 2 * length objects ≤ length (flat_map (item_octets (range.Indexed true n)) objects)
indexed_octets n [] = omega arith
indexed_octets n (o ∷ objects) =
    let behind = indexed_octets n objects in
    let first : List ℕ = item_octets (range.Indexed true n) o in
    let two : length first ≡ length o.octets + 2 = omega (arith, length-append (number true o.index) o.octets) in
    let both : length (first ++ flat_map (item_octets (range.Indexed true n)) objects)
    ≡ length first + length (flat_map (item_octets (range.Indexed true n)) objects) =
    length-append first (flat_map (item_octets (range.Indexed true n)) objects) in
    omega arith

within_size : (b : Built) (h : Head) → b.run ≡ Some h → length h.octets ≤ size b
within_size b h run_is =
    let heads_is : heads b ≡ b.ended ++ h ∷ [] = ap (λ (o : Option Head). b.ended ++ option_to_list o) run_is in
    let spelled_is : spelled (heads b) ≡ spelled b.ended ++ (header_octets h ++ []) = ap spelled heads_is ∙ flat_map-append header_octets b.ended (h ∷ []) in
    let parts : length (spelled (heads b)) ≡ length (spelled b.ended) + length (header_octets h ++ []) =
    ap length spelled_is ∙ length-append (spelled b.ended) (header_octets h ++ []) in
    let plain : length (header_octets h ++ []) ≡ length (header_octets h) = ap length (append-nil (header_octets h)) in
    let inner : length (range_octets h.range ++ h.octets) ≡ length (range_octets h.range) + length h.octets = length-append (range_octets h.range) h.octets in
    omega arith

pub few : (b : Built) (first : Laid) (more : List Laid) → b.run ≡ Some (header_of (record { first = first; more = more }))
    → size b ≤ MAX_FRAGMENT → IsFew first more
few b first more run_is small = go first.item.thing run_is
  where
    go : (thing : Thing)
        → (let x : Laid = laid_as first.item.header thing first.object first.common in
        b.run ≡ Some (header_of (record { first = x; more = more })) → IsFew x more)
    go (Event lane row) is =
        let x : Laid = laid_as first.item.header (Event lane row) first.object first.common in
        let objects = map object_of (x ∷ more) in
        let within = within_size b (header_of (record { first = x; more = more })) is in
        let many = indexed_octets (length more + 1) objects in
        let count : length objects ≡ length (x ∷ more) = length-map (x ∷ more) object_of in
        omega arith
    go (Present static) is = tt

-- ---- one item more

pub put_holds : (place : ReadPlace) (w : Writer) (items : List Laid) (y : Laid) → Holds place w items → fits w ≡ true → IsTold y
    → Holds place (put_laid w y) (items ++ y ∷ [])
put_holds place w items y holds fit told = subst (λ (v : Writer). Holds place v (items ++ y ∷ [])) (sym (put_is w y)) (record {
  place_is = ap (λ (p : ReadPlace). place_after p y.item) holds.place_is
      ∙ sym (fold_push place_after place (map item_of items) y.item)
      ∙ ap (fold place_after place) (sym (map_push item_of items y));
  upto_is = ap (λ (ids : List ℕ). given_after ids y.item) holds.upto_is
      ∙ sym (fold_push given_after no_ids (map item_of items) y.item)
      ∙ ap (fold given_after no_ids) (sym (map_push item_of items y));
  stands = inr (after holds.stands);
})
  where
    small : size w.builder ≤ MAX_FRAGMENT
    small = leb-true (size w.builder) MAX_FRAGMENT fit

    by : (s : Stands w.builder w.run items) (t : Bool) → goes_on (last_item s.first s.more) y ≡ t
        → Stands (with_object (built_for w (run_at y)) (written_of y)) (run_at y) (items ++ y ∷ [])
    by s true on = went_on w items y s (few w.builder s.first s.more s.run_is small) on told
    by s false off = began_anew w items y s off told

    after : IsEmpty w.builder w.run items ⊎ Stands w.builder w.run items
        → Stands (with_object (built_for w (run_at y)) (written_of y)) (run_at y) (items ++ y ∷ [])
    after (inl empty) = was_empty w items y empty told
    after (inr s) = by s (goes_on (last_item s.first s.more) y) refl

pub empty_holds : (place : ReadPlace) → Holds place (empty_from place) []
empty_holds place = record { place_is = refl; upto_is = refl; stands = inl (record { items_are = refl; builder_is = refl; run_is = refl }) }

pub fits_is : (place : ReadPlace) (w : Writer) (items : List Laid) → Holds place w items → fits w ≡ fits_fragment items
fits_is place w items holds =
    let front : size w.builder ≡ 4 + length (spelled (heads w.builder)) =
    ap (λ (f : Function). front_size f + length (spelled (heads w.builder))) (function_is place w items holds) in
    ap (λ (n : ℕ). nat_le n MAX_FRAGMENT) front ∙ ap (λ (hs : List Head). nat_le (4 + length (spelled hs)) MAX_FRAGMENT) (heads_are place w items holds)
