-- The header of items that go on joins with the next one, and with no other.
use Rattle.std.proofs.Common.{◌≡◌, Bool, true, false, if◌then◌else◌, refl, sym, ◌∙◌, ap, subst, ℕ, ◌+◌, ◌^◌, ◌<◌, ◌==◌, ◌&&◌, List, [], ◌∷◌, ◌++◌, map, length, arith, Option, Some, None, eqb-true, eq-eqb}
use Rattle.std.specs.Prelude.{IfSome}
use Rattle.std.specs.List.{flat_map}
use Rattle.std.specs.Option.{option_map}
use Rattle.std.proofs.lemmas.Bool.{and_parts, and_from, lt-ltb}
use Rattle.std.proofs.lemmas.List.{map_push, flat_map_more, length_push}
use Rattle.dnp_appfragment.specs.declared.header.Range.{Range}
use Rattle.dnp_appfragment.specs.declared.header.Range.TheVariants as range
use Rattle.dnp_appfragment.specs.Headers.{Head, head_after, number}
use Rattle.dnp_appfragment.specs.Items.{item_octets}
use Rattle.dnp_appfragment.specs.Joining.{joined, joined_range}
use Rattle.dnp_appfragment.specs.Written as written
use Rattle.dnp_outstation.specs.declared.offer.writer.Run.{Run}
use Rattle.dnp_outstation.specs.declared.offer.writer.Run.TheVariants.{OfLane, OfBlock}
use Rattle.dnp_outstation.specs.Items.{Thing}
use Rattle.dnp_outstation.specs.Items.Thing.{Event, Present}
use Rattle.dnp_outstation.specs.Layout.{Laid, object_of, is_same_object, goes_on, header_of, front_of}
use Rattle.dnp_outstation.specs.steps.Filling.{is_same_run}
use Rattle.dnp_outstation.proofs.Stretches.{laid_as, IsChain, last_item}

-- the run that an item stands in
abbrev pub run_at : Laid → Run
run_at x = at x.item.thing
  where
    at : Thing → Run
    at (Event lane row) = OfLane lane x.common
    at (Present static) = OfBlock x.item.header x.object.group static.block

-- an item as a header of its own
abbrev pub written_of : Laid → Head
written_of x = of x.item.thing
  where
    of : Thing → Head
    of (Event lane row) =
        head_after x.common x.object.group x.object.variation (range.Indexed true 1) (number true x.object.index ++ x.object.octets)
    of (Present static) = written.spanned x.object.group x.object.variation static.row.index x.object.octets

-- so many places after another, under the same header
abbrev pub IsBehind : Laid → ℕ → Laid → Type 0
IsBehind x k y = by x.item.thing y.item.thing
  where
    by : Thing → Thing → Type 0
    by (Event lane a) (Event lane' b) = (lane ≡ lane') × (x.object.group ≡ y.object.group) × (x.object.variation ≡ y.object.variation)
    by (Event lane a) (Present b) = ⊥
    by (Present a) (Event lane' b) = ⊥
    by (Present a) (Present b) =
        (x.object.group ≡ y.object.group) × (x.object.variation ≡ y.object.variation) × (a.row.index + k ≡ b.row.index)

pub behind_itself : (x : Laid) → IsBehind x 0 x
behind_itself x = go x.item.thing
  where
    go : (thing : Thing) → (let y : Laid = laid_as x.item.header thing x.object x.common in IsBehind y 0 y)
    go (Event lane row) = (refl, refl, refl)
    go (Present static) = (refl, refl, omega arith)

pub behind_on : (x y z : Laid) (k m : ℕ) → IsBehind x k y → IsBehind y m z → IsBehind x (k + m) z
behind_on x y z k m first second = go x.item.thing y.item.thing z.item.thing first second
  where
    go : (t t' t'' : Thing)
        → IsBehind (laid_as x.item.header t x.object x.common) k (laid_as y.item.header t' y.object y.common)
        → IsBehind (laid_as y.item.header t' y.object y.common) m (laid_as z.item.header t'' z.object z.common)
        → IsBehind (laid_as x.item.header t x.object x.common) (k + m) (laid_as z.item.header t'' z.object z.common)
    go (Event lane a) (Event lane' b) (Event lane'' c) p q = (p.0 ∙ q.0, p.1 ∙ q.1, p.2 ∙ q.2)
    go (Event lane a) (Event lane' b) (Present c) p q = absurd q
    go (Event lane a) (Present b) t'' p q = absurd p
    go (Present a) (Event lane' b) t'' p q = absurd p
    go (Present a) (Present b) (Event lane'' c) p q = absurd q
    go (Present a) (Present b) (Present c) p q =
        let first_index : a.row.index + k ≡ b.row.index = p.2 in
        let second_index : b.row.index + m ≡ c.row.index = q.2 in
        (p.0 ∙ q.0, p.1 ∙ q.1, omega arith)

pub behind_next : (x y : Laid) → goes_on x y ≡ true → IsBehind x 1 y
behind_next x y on = go x.item.thing y.item.thing on
  where
    go : (t t' : Thing) → goes_on (laid_as x.item.header t x.object x.common) (laid_as y.item.header t' y.object y.common) ≡ true
        → IsBehind (laid_as x.item.header t x.object x.common) 1 (laid_as y.item.header t' y.object y.common)
    go (Event lane a) (Event lane' b) is =
        let parts = and_parts _ _ is in
        let object = and_parts _ _ parts.1 in
        (eqb-true _ _ (and_parts _ _ parts.0).0, eqb-true _ _ object.0, eqb-true _ _ object.1)
    go (Event lane a) (Present b) is = cc
    go (Present a) (Event lane' b) is = cc
    go (Present a) (Present b) is =
        let parts = and_parts _ _ is in
        let block = and_parts _ _ parts.0 in
        let next = and_parts _ _ parts.1 in
        (eqb-true _ _ (and_parts _ _ block.1).0, eqb-true _ _ next.0, eqb-true _ _ next.1)

pub chain_behind : (x : Laid) (more : List Laid) → IsChain x more → IsBehind x (length more) (last_item x more)
chain_behind x [] chain = behind_itself x
chain_behind x (y ∷ ys) chain =
    let far : IsBehind x (1 + length ys) (last_item y ys) =
    behind_on x y (last_item y ys) 1 (length ys) (behind_next x y chain.0) (chain_behind y ys chain.1) in
    let e : 1 + length ys ≡ length (y ∷ ys) = omega arith in
    rw (sym e) far

-- it is of the same group
pub object_behind : (x y : Laid) (k : ℕ) → IsBehind x k y → x.object.group ≡ y.object.group
object_behind x y k behind = go x.item.thing y.item.thing behind
  where
    go : (t t' : Thing) → IsBehind (laid_as x.item.header t x.object x.common) k (laid_as y.item.header t' y.object y.common)
        → x.object.group ≡ y.object.group
    go (Event lane a) (Event lane' b) p = p.1
    go (Event lane a) (Present b) p = absurd p
    go (Present a) (Event lane' b) p = absurd p
    go (Present a) (Present b) p = p.0

pub same_run : (x y : Laid) → goes_on x y ≡ true → is_same_run (run_at x) (run_at y) ≡ true
same_run x y on = go x.item.thing y.item.thing on
  where
    go : (t t' : Thing) → goes_on (laid_as x.item.header t x.object x.common) (laid_as y.item.header t' y.object y.common) ≡ true
        → is_same_run (run_at (laid_as x.item.header t x.object x.common)) (run_at (laid_as y.item.header t' y.object y.common)) ≡ true
    go (Event lane a) (Event lane' b) is = (and_parts _ _ is).0
    go (Event lane a) (Present b) is = cc
    go (Present a) (Event lane' b) is = cc
    go (Present a) (Present b) is = (and_parts _ _ is).0

-- ---- common times

-- of an item whose time is told after a common one the object is 2.3
abbrev pub IsTold : Laid → Type 0
IsTold x = IfSome x.common (λ _. (x.object.group ≡ 2) × (x.object.variation ≡ 3))

pub told_whole : (x : Laid) → x.common ≡ None → IsTold x
told_whole x whole = subst (λ (c : Option ℕ). IfSome c (λ _. (x.object.group ≡ 2) × (x.object.variation ≡ 3))) (sym whole) tt

-- so what doesn't go on in the same run has no common time
pub no_front : (last y : Laid) → IsTold last → IsTold y → is_same_run (run_at last) (run_at y) ≡ true → goes_on last y ≡ false → front_of y ≡ []
no_front last y told told' same off = go last.item.thing y.item.thing last.common y.common told told' same off
  where
    go : (t t' : Thing) (c c' : Option ℕ)
        → IsTold (laid_as last.item.header t last.object c) → IsTold (laid_as y.item.header t' y.object c')
        → is_same_run (run_at (laid_as last.item.header t last.object c)) (run_at (laid_as y.item.header t' y.object c')) ≡ true
        → goes_on (laid_as last.item.header t last.object c) (laid_as y.item.header t' y.object c') ≡ false
        → front_of (laid_as y.item.header t' y.object c') ≡ []
    go t (Present b) c c' p q is apart = refl
    go t (Event lane b) c None p q is apart = refl
    go (Present a) (Event lane b) c (Some t) p q is apart = cc
    go (Event lane' a) (Event lane b) None (Some t) p q is apart = absurd (let none : false ≡ true = (and_parts (lane' == lane) false is).1 in cc)
    go (Event lane' a) (Event lane b) (Some t') (Some t) p q is apart =
        absurd (let one : is_same_object last.object y.object ≡ true = and_from _ _ (eq-eqb _ _ (p.0 ∙ sym q.0)) (eq-eqb _ _ (p.1 ∙ sym q.1)) in
        let on = and_from _ _ is one in cc)

-- ---- headers that join

-- the octets of the objects of one item more
octets_more : (r : Range) (x : Laid) (more : List Laid) (y : Laid)
    → flat_map (item_octets r) (map object_of (x ∷ (more ++ y ∷ []))) ≡ flat_map (item_octets r) (map object_of (x ∷ more)) ++ item_octets r (object_of y)
octets_more r x more y =
    ap (flat_map (item_octets r)) (map_push object_of (x ∷ more) y) ∙ sym (flat_map_more (item_octets r) [] (map object_of (x ∷ more)) (object_of y))

-- a count goes as far as 65,535
abbrev pub IsFew : Laid → List Laid → Type 0
IsFew x more = by x.item.thing
  where
    by : Thing → Type 0
    by (Event lane row) = length more + 2 < 2 ^ 16
    by (Present static) = Unit {0}

joined_by : (a b : Head) (r : Range) (octets : List ℕ) → a.group ≡ b.group → a.variation ≡ b.variation → joined_range a.range b.range ≡ Some r
    → octets ≡ a.octets ++ b.octets
    → joined a b ≡ Some (record a { range = r; octets = octets })
joined_by a b r octets group variation range_is octets_are =
    let same : ((a.group == b.group) && (a.variation == b.variation)) ≡ true = and_from _ _ (eq-eqb _ _ group) (eq-eqb _ _ variation) in
    ap (λ (t : Bool). if t then option_map (λ (q : Range). record a { range = q; octets = a.octets ++ b.octets })
    (joined_range a.range b.range) else None) same
    ∙ ap (option_map (λ (q : Range). record a { range = q; octets = a.octets ++ b.octets })) range_is
    ∙ ap (λ (o : List ℕ). Some (record a { range = r; octets = o })) (sym octets_are)

pub joins : (x : Laid) (more : List Laid) (y : Laid) → IsBehind x (length more + 1) y → IsFew x more
    → joined (header_of (record { first = x; more = more })) (written_of y) ≡ Some (header_of (record { first = x; more = more ++ y ∷ [] }))
joins x more y behind few = go x.item.thing y.item.thing behind few
  where
    go : (t t' : Thing) → IsBehind (laid_as x.item.header t x.object x.common) (length more + 1) (laid_as y.item.header t' y.object y.common)
        → IsFew (laid_as x.item.header t x.object x.common) more
        → joined (header_of (record { first = laid_as x.item.header t x.object x.common; more = more }))
        (written_of (laid_as y.item.header t' y.object y.common))
        ≡ Some (header_of (record { first = laid_as x.item.header t x.object x.common; more = more ++ laid_as y.item.header t' y.object y.common ∷ [] }))
    go (Event lane a) (Event lane' b) p low =
        let x' : Laid = laid_as x.item.header (Event lane a) x.object x.common in
        let y' : Laid = laid_as y.item.header (Event lane' b) y.object y.common in
        let n = length (more ++ y' ∷ []) + 1 in
        let long : (length more + 1) + 1 ≡ n = omega (arith, length_push more y') in
        let small : (length more + 1) + 1 < 2 ^ 16 = omega arith in
        let range_is : joined_range (range.Indexed true (length more + 1)) (range.Indexed true 1) ≡ Some (range.Indexed true n) =
        ap (λ (t : Bool). if t then Some (range.Indexed true ((length more + 1) + 1)) else None) (lt-ltb ((length more + 1) + 1) (2 ^ 16) small)
        ∙ ap (λ (k : ℕ). Some (range.Indexed true k)) long
        in
        joined_by (header_of (record { first = x'; more = more })) (written_of y') (range.Indexed true n)
        (header_of (record { first = x'; more = more ++ y' ∷ [] })).octets p.1 p.2 range_is
        (octets_more (range.Indexed true n) x' more y')
    go (Event lane a) (Present b) p low = absurd p
    go (Present a) (Event lane' b) p low = absurd p
    go (Present a) (Present b) p low =
        let x' : Laid = laid_as x.item.header (Present a) x.object x.common in
        let y' : Laid = laid_as y.item.header (Present b) y.object y.common in
        let n = a.row.index + length (more ++ y' ∷ []) in
        let at : a.row.index + (length more + 1) ≡ b.row.index = p.2 in
        let next : a.row.index + length more + 1 ≡ b.row.index = omega arith in
        let end : b.row.index ≡ n = omega (arith, length_push more y') in
        let range_is : joined_range (range.Span true a.row.index (a.row.index + length more)) (range.Span true b.row.index b.row.index)
        ≡ Some (range.Span true a.row.index n) =
        ap (λ (t : Bool). if t then Some (range.Span true a.row.index b.row.index) else None) (eq-eqb (a.row.index + length more + 1) b.row.index next)
        ∙ ap (λ (k : ℕ). Some (range.Span true a.row.index k)) end
        in
        joined_by (header_of (record { first = x'; more = more })) (written_of y') (range.Span true a.row.index n)
        (header_of (record { first = x'; more = more ++ y' ∷ [] })).octets p.0 p.1 range_is (octets_more (range.Span true a.row.index n) x' more y')

-- ---- headers that don't

no_join_by : (a b : Head) → ((a.group == b.group) && (a.variation == b.variation)) ≡ false → joined a b ≡ None
no_join_by a b other =
    ap (λ (t : Bool). if t then option_map (λ (q : Range). record a { range = q; octets = a.octets ++ b.octets })
    (joined_range a.range b.range) else None) other

none_either_way : (t : Bool) (f : Range → Head) (o : Option Range) → o ≡ None → (if t then option_map f o else None) ≡ None
none_either_way true f o none = ap (option_map f) none
none_either_way false f o none = refl

other_by : (p q : Bool) → p ≡ true → (p && q) ≡ false → q ≡ false
other_by true q one off = off
other_by false q one off = cc

and_right : (p q : Bool) → q ≡ false → (p && q) ≡ false
and_right true q off = off
and_right false q off = refl

pub no_join : (x : Laid) (more : List Laid) (last y : Laid) → IsBehind x (length more) last → is_same_run (run_at last) (run_at y) ≡ true
    → goes_on last y ≡ false → joined (header_of (record { first = x; more = more })) (written_of y) ≡ None
no_join x more last y behind same off = go x.item.thing last.item.thing y.item.thing behind same off
  where
    -- the objects are others, where the last item's and the next one's are
    others : x.object.group ≡ last.object.group → x.object.variation ≡ last.object.variation → is_same_object last.object y.object ≡ false
        → is_same_object x.object y.object ≡ false
    others group variation apart =
        ap (λ (g : ℕ). (g == y.object.group) && (x.object.variation == y.object.variation)) group
        ∙ ap (λ (v : ℕ). (last.object.group == y.object.group) && (v == y.object.variation)) variation
        ∙ apart

    go : (t t' t'' : Thing) → IsBehind (laid_as x.item.header t x.object x.common) (length more) (laid_as last.item.header t' last.object last.common)
        → is_same_run (run_at (laid_as last.item.header t' last.object last.common)) (run_at (laid_as y.item.header t'' y.object y.common)) ≡ true
        → goes_on (laid_as last.item.header t' last.object last.common) (laid_as y.item.header t'' y.object y.common) ≡ false
        → joined (header_of (record { first = laid_as x.item.header t x.object x.common; more = more }))
        (written_of (laid_as y.item.header t'' y.object y.common)) ≡ None
    go (Event lane a) (Event lane' b) (Event lane'' c) p one other =
        no_join_by (header_of (record { first = laid_as x.item.header (Event lane a) x.object x.common; more = more }))
        (written_of (laid_as y.item.header (Event lane'' c) y.object y.common))
        (others p.1 p.2 (other_by _ _ one other))
    go (Event lane a) (Event lane' b) (Present c) p one other = cc
    go (Event lane a) (Present b) t'' p one other = absurd p
    go (Present a) (Event lane' b) t'' p one other = absurd p
    go (Present a) (Present b) (Event lane'' c) p one other = cc
    go (Present a) (Present b) (Present c) p one other = by (last.object.variation == y.object.variation) refl
      where
        a' : Head
        a' = header_of (record { first = laid_as x.item.header (Present a) x.object x.common; more = more })

        c' : Head
        c' = written_of (laid_as y.item.header (Present c) y.object y.common)

        by : (v : Bool) → (last.object.variation == y.object.variation) ≡ v → joined a' c' ≡ None
        by true same_variation =
            let at : a.row.index + length more ≡ b.row.index = p.2 in
            let apart : (b.row.index + 1 == c.row.index) ≡ false = other_by _ _ same_variation (other_by _ _ one other) in
            let apart' : (a.row.index + length more + 1 == c.row.index) ≡ false = ap (λ (i : ℕ). i + 1 == c.row.index) at ∙ apart in
            none_either_way ((a'.group == c'.group) && (a'.variation == c'.variation))
            (λ (q : Range). record a' { range = q; octets = a'.octets ++ c'.octets })
            (joined_range a'.range c'.range) (ap (λ (t : Bool). if t then Some (range.Span true a.row.index c.row.index) else None) apart')
        by false another =
            no_join_by a' c' (others p.0 p.1 (and_right (last.object.group == y.object.group) _ another))
