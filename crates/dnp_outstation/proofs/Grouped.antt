-- What is laid in groups: the items in order, of which those that have a common time can tell theirs after it.
use Rattle.std.proofs.Common.{◌≡◌, Bool, true, false, if◌then◌else◌, refl, sym, ◌∙◌, ap, subst, ℕ, ◌+◌, ◌≤◌, ◌==◌, ◌&&◌, nat_le, List, [], ◌∷◌, ◌++◌, map, length, Option, Some, None, arith}
use Rattle.std.specs.Prelude.{IsTrue}
use Rattle.std.specs.List.{All, AllByRecursion, flat_map}
use Rattle.std.specs.Option.{IsSomeAnd, unwrap_or}
use Rattle.std.proofs.lemmas.Bool.{and_parts, leb-true}
use Rattle.std.proofs.lemmas.List.{map-append}
use Rattle.std.proofs.lemmas.List.Elements.{All-from_recursion, recursion_from_All}
use Rattle.dnp_objects.specs.declared.limits.TheConstants.{MAX_RELATIVE}
use Rattle.dnp_objects.specs.declared.row.Kind.{Kind}
use Rattle.dnp_objects.specs.declared.row.Kind.TheVariants.{Binary, Counter, Analog}
use Rattle.dnp_objects.specs.declared.row.Row.{Row}
use Rattle.dnp_objects.specs.Equality.{kind_eq}
use Rattle.dnp_objects.specs.Events.{event_object, IsEvent}
use Rattle.dnp_eventbuf.specs.declared.numbered.Numbered.{Numbered}
use Rattle.dnp_objects.specs.Relative.{FitsRelative}
use Rattle.dnp_objects.specs.Rows.{Fits}
use Rattle.dnp_outstation.specs.declared.offer.grouping.Coming.{Coming}
use Rattle.dnp_outstation.specs.declared.offer.grouping.Pair.{Pair}
use Rattle.dnp_outstation.specs.Forms.{CanTell, in_groups, is_in_reach, lay_group, reaches, reaches_by, time_of, told_after, told_by}
use Rattle.dnp_outstation.specs.Groups.{Group, members, cut}
use Rattle.dnp_outstation.specs.Items.{Thing, Item}
use Rattle.dnp_outstation.specs.Items.Thing.{Event, Present}
use Rattle.dnp_outstation.specs.Layout.{Laid, item_of, lay}
use Rattle.dnp_outstation.specs.Said.{CanStand}
use Rattle.dnp_outstation.proofs.Cuts.{is_cut}

-- ---- the items in order

told_items : (common : ℕ) (xs : List Item) → map item_of (map (told_after common) xs) ≡ xs
told_items common [] = refl
told_items common (x ∷ xs) =
    ap (λ (first : Item). first ∷ map item_of (map (told_after common) xs)) (go x.thing) ∙ ap (λ (l : List Item). x ∷ l) (told_items common xs)
  where
    go : (thing : Thing) → (let y : Item = record { header = x.header; thing = thing } in item_of (told_after common y) ≡ y)
    go (Event lane row) = refl
    go (Present static) = refl

laid_items : (xs : List Item) → map item_of (map lay xs) ≡ xs
laid_items [] = refl
laid_items (x ∷ xs) = ap (λ (l : List Item). x ∷ l) (laid_items xs)

group_items : (g : Group Item) → map item_of (lay_group g) ≡ members g
group_items g = by (nat_le 3 (length (members g)))
  where
    by : (b : Bool) → map item_of (if b then map (told_after (time_of g.first)) (members g) else map lay (members g)) ≡ members g
    by true = told_items (time_of g.first) (members g)
    by false = laid_items (members g)

all_items : (groups : List (Group Item)) → map item_of (flat_map lay_group groups) ≡ flat_map members groups
all_items [] = refl
all_items (g ∷ gs) =
    map-append item_of (lay_group g) (flat_map lay_group gs)
    ∙ ap (λ (l : List Item). l ++ map item_of (flat_map lay_group gs)) (group_items g)
    ∙ ap (λ (l : List Item). members g ++ l) (all_items gs)

pub grouped_items : (may : ℕ → Bool) (items : List Item) → map item_of (in_groups may items) ≡ items
grouped_items may items = all_items (cut (reaches may) items) ∙ (is_cut (reaches may) items).whole

-- what is so of two lists is so of both in one, and the other way round
joined : {A : Type 0} (P : A → Type 0) (xs ys : List A) → AllByRecursion P xs → AllByRecursion P ys → AllByRecursion P (xs ++ ys)
joined P [] ys first second = second
joined P (x ∷ xs) ys first second = (first.0, joined P xs ys first.1 second)

parted : {A : Type 0} (P : A → Type 0) (xs ys : List A) → AllByRecursion P (xs ++ ys) → AllByRecursion P xs × AllByRecursion P ys
parted P [] ys all = (tt, all)
parted P (x ∷ xs) ys all = let rest = parted P xs ys all.1 in ((all.0, rest.0), rest.1)

-- ---- as which object each goes

abbrev IsTold : Laid → Type 0
IsTold x = x ≡ told_by x.common x.item

one_told : (common : ℕ) (x : Item) → IsTold (told_after common x)
one_told common x = go x.thing
  where
    go : (thing : Thing) → IsTold (told_after common (record { header = x.header; thing = thing }))
    go (Event lane row) = refl
    go (Present static) = refl

after_told : (common : ℕ) (xs : List Item) → AllByRecursion IsTold (map (told_after common) xs)
after_told common [] = tt
after_told common (x ∷ xs) = (one_told common x, after_told common xs)

own_told : (xs : List Item) → AllByRecursion IsTold (map lay xs)
own_told [] = tt
own_told (x ∷ xs) = (refl, own_told xs)

groups_told : (groups : List (Group Item)) → AllByRecursion IsTold (flat_map lay_group groups)
groups_told [] = tt
groups_told (g ∷ gs) = joined IsTold (lay_group g) (flat_map lay_group gs) (by (nat_le 3 (length (members g)))) (groups_told gs)
  where
    by : (b : Bool) → AllByRecursion IsTold (if b then map (told_after (time_of g.first)) (members g) else map lay (members g))
    by true = after_told (time_of g.first) (members g)
    by false = own_told (members g)

pub told_each : (may : ℕ → Bool) (items : List Item) → AllByRecursion (λ x. x ≡ told_by x.common x.item) (in_groups may items)
told_each may items = groups_told (cut (reaches may) items)

pub grouped_told : (may : ℕ → Bool) (items : List Item) → All IsTold (in_groups may items)
grouped_told may items = All-from_recursion IsTold (in_groups may items) (groups_told (cut (reaches may) items))

-- ---- what can be told

-- a time is in reach of a common one
abbrev IsNear : ℕ → ℕ → Type 0
IsNear common time = (common ≤ time) × (time ≤ common + MAX_RELATIVE)

near_itself : (common : ℕ) → IsNear common common
near_itself common = (omega arith, omega arith)

-- of two times in reach both are there, and the second is near to the first
record AreNear (first time : Option ℕ) : Type 0 where
  common : ℕ
  first_is : first ≡ Some common
  near : IsSomeAnd time (IsNear common)

near_in : (first time : Option ℕ) → is_in_reach first time ≡ true → AreNear first time
near_in None time is = cc
near_in (Some t) None is = cc
near_in (Some t) (Some t') is =
    let parts = and_parts _ _ is in
    record { common = t; first_is = refl; near = (leb-true t t' parts.0, leb-true t' (t + MAX_RELATIVE) parts.1) }

binary_is : (k : Kind) → kind_eq k Binary ≡ true → k ≡ Binary
binary_is Binary is = refl
binary_is Counter is = cc
binary_is Analog is = cc

-- a binary whose time is near to a common one, and which can be written, can be written after that
tells : (common : ℕ) (row : Row) → Fits (event_object row.kind row.time).0 (event_object row.kind row.time).1 row → row.kind ≡ Binary
    → IsSomeAnd row.time (IsNear common) → FitsRelative common row
tells common row fits kind near = go row.time refl near
  where
    go : (time : Option ℕ) → row.time ≡ time → IsSomeAnd time (IsNear common) → FitsRelative common row
    go None time near = absurd near
    go (Some t) time near =
        let object : event_object row.kind row.time ≡ (2, 2) = ap (λ (k : Kind). event_object k row.time) kind ∙ ap (event_object Binary) time in
        record {
          event = subst (λ (o : ℕ × ℕ). Fits o.0 o.1 row) object fits;
          near = subst (λ (o : Option ℕ). IsSomeAnd o (IsNear common)) (sym time) near;
        }

-- so can an event whose time is in reach of it
pub near_tells : (common : ℕ) (row : Row) → (kind_eq row.kind Binary && is_in_reach (Some common) row.time) ≡ true → IsEvent row → FitsRelative common row
near_tells common row is fits =
    let parts = and_parts (kind_eq row.kind Binary) (is_in_reach (Some common) row.time) is in
    let n = near_in (Some common) row.time parts.1 in
    let c : common ≡ n.common = ap (λ (o : Option ℕ). unwrap_or o 0) n.first_is in
    tells common row fits (binary_is row.kind parts.0) (subst (λ (t : ℕ). IsSomeAnd row.time (IsNear t)) (sym c) n.near)

-- the first of a group and another row can tell their times after its time
pub record PairTells (first x : Row) : Type 0 where
  pub begins : FitsRelative (unwrap_or first.time 0) first
  pub goes_on : FitsRelative (unwrap_or first.time 0) x

pub pair_tells : (b b' : Bool) (lane lane' : ℕ) (first x : Numbered) → reaches_by b b' (Event lane first) (Event lane' x) ≡ true
    → IsEvent first.row → IsEvent x.row → PairTells first.row x.row
pair_tells b b' lane lane' first x is fits fits' =
    let both : Bool = kind_eq first.row.kind Binary && kind_eq x.row.kind Binary in
    let close : Bool = is_in_reach first.row.time x.row.time in
    let parts = and_parts both close (and_parts (lane == lane') (both && close) (and_parts (b && b') ((lane == lane') && (both && close)) is).1).1 in
    let kinds = and_parts (kind_eq first.row.kind Binary) (kind_eq x.row.kind Binary) parts.0 in
    let n = near_in first.row.time x.row.time parts.1 in
    let c : unwrap_or first.row.time 0 ≡ n.common = ap (λ (o : Option ℕ). unwrap_or o 0) n.first_is in
    record {
      begins = subst (λ (common : ℕ). FitsRelative common first.row) (sym c) (tells n.common first.row fits (binary_is first.row.kind kinds.0)
          (subst (λ (o : Option ℕ). IsSomeAnd o (IsNear n.common)) (sym n.first_is) (near_itself n.common)));
      goes_on = subst (λ (common : ℕ). FitsRelative common x.row) (sym c) (tells n.common x.row fits' (binary_is x.row.kind kinds.1) n.near);
    }

pub tells_after : (first x : Coming) (common : ℕ) → common ≡ unwrap_or first.row.row.time 0
    → reaches_by first.is_open x.is_open (Event first.lane first.row) (Event x.lane x.row) ≡ true → FitsRelative common x.row.row
tells_after first x common is near =
    subst (λ (t : ℕ). FitsRelative t x.row.row) (sym is)
    (pair_tells first.is_open x.is_open first.lane x.lane first.row x.row near first.event x.event).goes_on

pub tells_begun : (pair : Pair) (common : ℕ) → common ≡ unwrap_or pair.first.row.row.time 0 → FitsRelative common pair.first.row.row
tells_begun pair common is =
    subst (λ (t : ℕ). FitsRelative t pair.first.row.row) (sym is)
    (pair_tells pair.first.is_open pair.second.is_open pair.first.lane pair.second.lane pair.first.row pair.second.row pair.near
    pair.first.event pair.second.event).begins

record BothTell (first x : Item) : Type 0 where
  begins : CanTell (told_after (time_of first) first)
  goes_on : CanTell (told_after (time_of first) x)

both_tell : (may : ℕ → Bool) (first x : Item) → reaches may first x ≡ true → CanStand first → CanStand x → BothTell first x
both_tell may first x is can can' = go first.thing x.thing is can can'
  where
    go : (t t' : Thing) → (let y : Item = record { header = first.header; thing = t } in let z : Item = record { header = x.header; thing = t' } in
        reaches may y z ≡ true → CanStand y → CanStand z → BothTell y z)
    go (Event lane a) (Event lane' b) is can can' =
        let pair = pair_tells (may first.header) (may x.header) lane lane' a b is can.0 can'.0 in
        record { begins = pair.begins; goes_on = pair.goes_on }
    go (Event lane a) (Present b) is can can' = cc
    go (Present a) t' is can can' = cc

all_tell : (may : ℕ → Bool) (first : Item) (xs : List Item) → CanStand first → AllByRecursion (λ x. IsTrue (reaches may first x)) xs
    → AllByRecursion CanStand xs → AllByRecursion CanTell (map (told_after (time_of first)) xs)
all_tell may first [] can near each = tt
all_tell may first (x ∷ xs) can near each = ((both_tell may first x near.0 can each.0).goes_on, all_tell may first xs can near.1 each.1)

whole_tell : (xs : List Item) → AllByRecursion CanTell (map lay xs)
whole_tell [] = tt
whole_tell (x ∷ xs) = (tt, whole_tell xs)

group_tells : (may : ℕ → Bool) (g : Group Item) → AllByRecursion (λ x. IsTrue (reaches may g.first x)) g.more
    → AllByRecursion CanStand (members g) → AllByRecursion CanTell (lay_group g)
group_tells may g near can = go g.more near can
  where
    go : (more : List Item) → AllByRecursion (λ x. IsTrue (reaches may g.first x)) more → AllByRecursion CanStand (g.first ∷ more)
        → AllByRecursion CanTell (lay_group (record { first = g.first; more = more }))
    go [] near can = (tt, tt)
    go (x ∷ xs) near can = by (nat_le 3 (length (g.first ∷ x ∷ xs)))
      where
        by : (b : Bool) → AllByRecursion CanTell (if b then map (told_after (time_of g.first)) (g.first ∷ x ∷ xs) else map lay (g.first ∷ x ∷ xs))
        by true = ((both_tell may g.first x near.0 can.0 can.1.0).begins, all_tell may g.first (x ∷ xs) can.0 near can.1)
        by false = whole_tell (g.first ∷ x ∷ xs)

groups_tell : (may : ℕ → Bool) (groups : List (Group Item)) → AllByRecursion (λ g. AllByRecursion (λ x. IsTrue (reaches may g.first x)) g.more) groups
    → AllByRecursion CanStand (flat_map members groups) → AllByRecursion CanTell (flat_map lay_group groups)
groups_tell may [] near can = tt
groups_tell may (g ∷ gs) near can =
    let parts = parted CanStand (members g) (flat_map members gs) can in
    joined CanTell (lay_group g) (flat_map lay_group gs) (group_tells may g near.0 parts.0) (groups_tell may gs near.1 parts.1)

pub grouped_tell : (may : ℕ → Bool) (items : List Item) → All CanStand items → All CanTell (in_groups may items)
grouped_tell may items can =
    let one = is_cut (reaches may) items in
    All-from_recursion CanTell (in_groups may items)
    (groups_tell may (cut (reaches may) items) one.within (subst (AllByRecursion CanStand) (sym one.whole) (recursion_from_All CanStand items can)))
