-- The headers of items say the event rows among them, in order: those of each stretch say its own.
use Rattle.std.proofs.Common.{◌≡◌, Bool, true, false, if◌then◌else◌, refl, sym, ◌∙◌, ap, subst, ℕ, zero, List, [], ◌∷◌, ◌++◌, map, length, arith, Option, Some, None, IfSome, inl, inr, append_assoc, append-nil, ◌==◌, ◌||◌, eqb-true}
use Rattle.std.specs.List.{AllByRecursion, flat_map}
use Rattle.std.proofs.lemmas.Bool.{and_parts}
use Rattle.std.proofs.lemmas.List.{map-append}
use Rattle.std.proofs.lemmas.List.Concat.{flat_map-append}
use Rattle.std.proofs.lemmas.List.Elements.{filter_map-append}
use Rattle.dnp_objects.specs.declared.row.Row.{Row}
use Rattle.dnp_appfragment.specs.declared.table.Form.TheVariants as form
use Rattle.dnp_appfragment.specs.EventRows.{header_rows, is_event_group, event_rows, events_in as rows_said}
use Rattle.dnp_appfragment.specs.Headers.{Head, Context, AreHeaders, begin, context_after, IsHeaderAt}
use Rattle.dnp_appfragment.specs.Items.{Item as Object, Holds, HoldsShare, HoldAll}
use Rattle.dnp_appfragment.specs.Written.{common_head}
use Rattle.dnp_outstation.specs.Forms.{CanGo}
use Rattle.dnp_outstation.specs.Items.{Thing, Item}
use Rattle.dnp_outstation.specs.Items.Thing.{Event, Present}
use Rattle.dnp_outstation.specs.Layout.{Laid, item_of, object_of, goes_on, Stretch, alone, in_front, stretches, header_of, front_of, heads_of, headers_of, fits_fragment}
use Rattle.dnp_outstation.specs.Said.{event_in, events_in}
use Rattle.dnp_outstation.specs.steps.Filling.{common_of}
use Rattle.dnp_outstation.proofs.CommonTimes.{same_time}
use Rattle.dnp_outstation.proofs.Grows.{fits_begins, fits_behind}
use Rattle.dnp_outstation.proofs.Joined.{run_at}
use Rattle.dnp_outstation.proofs.SaidRows.{EventsAreSaid, SharesTime, IsTimely, header_says, none_of}
use Rattle.dnp_outstation.proofs.Stretches.{laid_as, IsChain, one_stretch}
use Rattle.dnp_outstation.proofs.Written.{PutLaws, AreWritten, items_written}

-- ---- the items of stretches

abbrev laid_in : Stretch → List Laid
laid_in s = s.first ∷ s.more

abbrev IsChained : Stretch → Type 0
IsChained s = IsChain s.first s.more

in_front_items : (x : Laid) (found : List Stretch) → flat_map laid_in (in_front x found) ≡ x ∷ flat_map laid_in found
in_front_items x [] = refl
in_front_items x (next ∷ others) = by (goes_on x next.first)
  where
    by : (b : Bool) → flat_map laid_in (if b then (record { first = x; more = next.first ∷ next.more }) ∷ others else alone x ∷ next ∷ others)
        ≡ x ∷ flat_map laid_in (next ∷ others)
    by true = refl
    by false = refl

all_items : (xs : List Laid) → flat_map laid_in (stretches xs) ≡ xs
all_items [] = refl
all_items (x ∷ xs) = in_front_items x (stretches xs) ∙ ap (λ (l : List Laid). x ∷ l) (all_items xs)

in_front_chained : (x : Laid) (found : List Stretch) → AllByRecursion IsChained found → AllByRecursion IsChained (in_front x found)
in_front_chained x [] all = (tt, tt)
in_front_chained x (next ∷ others) all = by (goes_on x next.first) refl
  where
    by : (b : Bool) → goes_on x next.first ≡ b
        → AllByRecursion IsChained (if b then (record { first = x; more = next.first ∷ next.more }) ∷ others else alone x ∷ next ∷ others)
    by true on = ((on, all.0), all.1)
    by false off = (tt, all)

all_chained : (xs : List Laid) → AllByRecursion IsChained (stretches xs)
all_chained [] = tt
all_chained (x ∷ xs) = in_front_chained x (stretches xs) (all_chained xs)

-- ---- the times of a stretch

chain_shares : (h : Head) (x : Laid) (more : List Laid) → IsChain x more → SharesTime h x → AllByRecursion (SharesTime h) (x ∷ more)
chain_shares h x [] chain shares = (shares, tt)
chain_shares h x (y ∷ ys) chain shares =
    (shares, chain_shares h y ys chain.1 (subst (λ (c : Option ℕ). IfSome c (λ t. h.common ≡ Some t)) (same_time x y chain.0) shares))

first_shares : (s : Stretch) → SharesTime (header_of s) s.first
first_shares s = go s.first.item.thing s.first.common
  where
    go : (thing : Thing) (common : Option ℕ) → (let x : Laid = laid_as s.first.item.header thing s.first.object common in
        SharesTime (header_of (record { first = x; more = s.more })) x)
    go (Event lane row) None = tt
    go (Event lane row) (Some t) = refl
    go (Present static) common = tt

-- ---- what its headers hold

-- a common time holds no object
times_hold_none : (t : ℕ) (own : List Object) → HoldsShare (common_head t) own → own ≡ []
times_hold_none t own (inr times) = times.1
times_hold_none t [] (inl holds) = refl
times_hold_none t (o ∷ os) (inl holds) = absurd (holds.indexes zero o refl)

-- the last of its headers holds all
record IsLast (s : Stretch) : Type 0 where
  share : HoldsShare (header_of s) (map object_of (laid_in s))
  timely : IsTimely (header_of s)

one_holds : (h : Head) (objects : List Object) → HoldAll (h ∷ []) objects → HoldsShare h objects
one_holds h objects all =
    subst (HoldsShare h) (sym (all.2 ∙ ap (λ (l : List Object). all.0 ++ l) all.4 ∙ append-nil all.0)) all.3

last_is : (s : Stretch) → AreWritten (heads_of s) (laid_in s) → IsLast s
last_is s written = go s.first.item.thing s.first.common written
  where
    go : (thing : Thing) (common : Option ℕ) → (let s' : Stretch = record { first = laid_as s.first.item.header thing s.first.object common; more = s.more } in
        AreWritten (heads_of s') (laid_in s') → IsLast s')
    go (Event lane row) None written = record { share = one_holds _ _ written.hold; timely = written.stand.0.timed }
    go (Event lane row) (Some t) written =
        let all = written.hold in
        let none : all.0 ≡ [] = times_hold_none t all.0 all.3 in
        record {
          share = subst (HoldsShare _) (sym (all.2 ∙ ap (λ (l : List Object). l ++ all.1) none)) (one_holds _ all.1 all.4);
          timely = written.stand.1.0.timed;
        }
    go (Present static) common written = record { share = one_holds _ _ written.hold; timely = written.stand.0.timed }

share_says : EventsAreSaid → (s : Stretch) → AllByRecursion CanGo (laid_in s) → IsChained s → IsLast s
    → event_rows (header_of s) ≡ events_in (map item_of (laid_in s))
share_says said s can chain last = go last.share
  where
    h : Head
    h = header_of s

    go : HoldsShare h (map object_of (laid_in s)) → event_rows h ≡ events_in (map item_of (laid_in s))
    go (inl holds) = header_says said h (laid_in s) can (chain_shares h s.first s.more chain (first_shares s)) last.timely holds
    go (inr times) = absurd (omega (arith, ap length times.1))

front_silent : (s : Stretch) → rows_said (front_of s.first ++ header_of s ∷ []) ≡ event_rows (header_of s)
front_silent s = go s.first.item.thing s.first.common
  where
    go : (thing : Thing) (common : Option ℕ) → (let s' : Stretch = record { first = laid_as s.first.item.header thing s.first.object common; more = s.more } in
        rows_said (front_of s'.first ++ header_of s' ∷ []) ≡ event_rows (header_of s'))
    go (Event lane row) None = append-nil _
    go (Event lane row) (Some t) = append-nil _
    go (Present static) common = append-nil _

stretch_says : PutLaws → EventsAreSaid → (s : Stretch) → AllByRecursion CanGo (laid_in s) → IsChained s → fits_fragment (laid_in s) ≡ true
    → rows_said (heads_of s) ≡ events_in (map item_of (laid_in s))
stretch_says law said s can chain fit =
    let own : headers_of (laid_in s) ≡ heads_of s = ap (flat_map heads_of) (one_stretch s.first s.more chain) ∙ append-nil (heads_of s) in
    front_silent s
    ∙ share_says said s can chain (last_is s (subst (λ (hs : List Head). AreWritten hs (laid_in s)) own (items_written law (laid_in s) can fit)))

-- ---- of all

parts : (P : Laid → Type 0) (xs ys : List Laid) → AllByRecursion P (xs ++ ys) → AllByRecursion P xs × AllByRecursion P ys
parts P [] ys all = (tt, all)
parts P (x ∷ xs) ys all = let rest = parts P xs ys all.1 in ((all.0, rest.0), rest.1)

stretches_say : PutLaws → EventsAreSaid → (found : List Stretch) → AllByRecursion CanGo (flat_map laid_in found) → AllByRecursion IsChained found
    → fits_fragment (flat_map laid_in found) ≡ true → rows_said (flat_map heads_of found) ≡ events_in (map item_of (flat_map laid_in found))
stretches_say law said [] can chained fit = refl
stretches_say law said (s ∷ found) can chained fit =
    let rest : List Laid = flat_map laid_in found in
    let both = parts CanGo (laid_in s) rest can in
    flat_map-append event_rows (heads_of s) (flat_map heads_of found)
    ∙ ap (λ (rows : List Row). rows ++ rows_said (flat_map heads_of found))
    (stretch_says law said s both.0 chained.0 (fits_begins (laid_in s) rest fit))
    ∙ ap (λ (rows : List Row). events_in (map item_of (laid_in s)) ++ rows)
    (stretches_say law said found both.1 chained.1 (fits_behind (laid_in s) rest fit))
    ∙ sym (filter_map-append event_in (map item_of (laid_in s)) (map item_of rest))
    ∙ ap events_in (sym (map-append item_of (laid_in s) rest))

pub items_say : PutLaws → EventsAreSaid → (items : List Laid) → AllByRecursion CanGo items → fits_fragment items ≡ true
    → rows_said (headers_of items) ≡ events_in (map item_of items)
items_say law said items can fit =
    let whole : flat_map laid_in (stretches items) ≡ items = all_items items in
    stretches_say law said (stretches items) (subst (AllByRecursion CanGo) (sym whole) can) (all_chained items) (ap fits_fragment whole ∙ fit)
    ∙ ap (λ (xs : List Laid). events_in (map item_of xs)) whole
