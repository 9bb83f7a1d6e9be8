-- A new database is sound, and each call keeps it so.
use Rattle.std.proofs.Common.{◌≡◌, ℕ, zero, suc, ◌+◌, ◌-◌, ◌<◌, ◌≤◌, ◌^◌, Bool, true, false, cond, ◌&&◌, List, [], ◌∷◌, length, map, get_or, Option, refl, sym, ◌∙◌, ap, subst, arith, inl, inr, ltb-true, lt-ltb}
use Rattle.std.specs.Prelude.{IfSome, nat_lt, slice_get, bit_and}
use Rattle.std.specs.List.{All, Any, AllPairs, Contains}
use Rattle.std.proofs.lemmas.Bool.{cases_lt}
use Rattle.std.proofs.lemmas.List.{get_or-map, get_or_default, length-map}
use Rattle.std.proofs.lemmas.List.Elements.{All-cons, All-map}
use Rattle.std.proofs.lemmas.Nat.{and_le_l, or_lt}
use Rattle.dnp_objects.specs.declared.limits.TheConstants.{CLASSES}
use Rattle.dnp_pointdb.specs.declared.limits.TheConstants.{INDICES, MAX_POINTS}
use Rattle.dnp_objects.specs.declared.row.Kind.{Kind}
use Rattle.dnp_objects.specs.declared.row.Kind.TheVariants.{Binary, Counter, Analog}
use Rattle.dnp_objects.specs.Rows.{value_fits, flags_fit}
use Rattle.dnp_pointdb.specs.declared.point.Point.{Point}
use Rattle.dnp_pointdb.specs.declared.point.Block.{Block}
use Rattle.dnp_pointdb.specs.declared.reading.Reading.{Reading}
use Rattle.dnp_pointdb.specs.declared.state.PointState.{PointState}
use Rattle.dnp_pointdb.specs.declared.state.BlockState.{BlockState}
use Rattle.dnp_pointdb.specs.declared.fault.PlanFault.TheVariants.{Class, TooMany, TooWide, Overlap}
use Rattle.dnp_pointdb.specs.Blocks.{ShareIndex}
use Rattle.dnp_pointdb.specs.Plan.{Plan, IsWrong, HasWrongPoint, HasTooMany, IsTooWide}
use Rattle.dnp_pointdb.specs.Plan as plan_words
use Rattle.dnp_pointdb.specs.Ranges.{is_carried, is_in_time, is_in_range}
use Rattle.dnp_pointdb.specs.Database.{Database, blocks_of, with_blocks, each_kind, has_index, state_in, state_at, updated, updated_in, new_state, new_block, new_database, changed_state, changed_in, changed_of, set_state, set_in, set_of, lost_flags, lost_reading, lost_state, lost_block, lost_of, restarted_state, restarted_block, restarted}
use Rattle.dnp_pointdb.specs.steps.Order.{Extent, extent, extents, covers, AreApart}
use Rattle.dnp_pointdb.specs.Sound.{IsSoundPoint, IsSoundBlock, ShareNoIndex, AreSoundBlocks, IsSoundDatabase}
use Rattle.dnp_pointdb.proofs.Ranges.{both}
use Rattle.dnp_pointdb.proofs.Places.{covers_true, covers_cases}
use Rattle.dnp_pointdb.proofs.Readings.{read_in-none}
use Rattle.dnp_pointdb.proofs.ByKind.{same_or_not, blocks_of-same, blocks_of-other, blocks_of-each}
use Rattle.dnp_pointdb.proofs.Orders.{apart_new, extents-restarted}
use Rattle.dnp_pointdb.proofs.Histories.{length-updated, with_points, updated_in-cons, state_in-cons}

-- ---- a point

new_point : (kind : Kind) (point : Point) → point.class ≤ CLASSES → IsSoundPoint kind (new_state point)
new_point Binary point class = record { class = class; carried = refl; in_time = refl }
new_point Counter point class = record { class = class; carried = refl; in_time = refl }
new_point Analog point class = record { class = class; carried = refl; in_time = refl }

-- a point that gets a reading in range
read_point : (kind : Kind) (reading : Reading) (before after : PointState) → is_in_range kind reading ≡ true
    → after.point ≡ before.point → after.reading ≡ reading → IsSoundPoint kind before → IsSoundPoint kind after
read_point kind reading before after in_range same_point is s =
    let parts = both (is_carried kind reading) (is_in_time reading.time) in_range in
    record {
      class = subst (λ (p : Point). p.class ≤ CLASSES) (sym same_point) s.class;
      carried = subst (λ (r : Reading). is_carried kind r ≡ true) (sym is) parts.0;
      in_time = subst (λ (r : Reading). is_in_time r.time ≡ true) (sym is) parts.1;
    }

lost_below : (flags : ℕ) → nat_lt flags 128 ≡ true → nat_lt (lost_flags flags) 128 ≡ true
lost_below flags low =
    let below : flags < 2 ^ 7 = ltb-true flags 128 low in
    let cleared : bit_and flags 254 < 2 ^ 7 = omega (arith, and_le_l flags 254) in
    lt-ltb (lost_flags flags) 128 (or_lt 7 (bit_and flags 254) 4 cleared (omega arith))

lost_carried : (kind : Kind) (reading : Reading) → is_carried kind reading ≡ true → is_carried kind (lost_reading reading) ≡ true
lost_carried Binary reading is =
    let parts = both (value_fits Binary 4 reading.value) (flags_fit Binary true reading.flags) is in
    ap (λ (b : Bool). b && nat_lt (lost_flags reading.flags) 128) parts.0 ∙ lost_below reading.flags parts.1
lost_carried Counter reading is = is
lost_carried Analog reading is = is

lost_point : (kind : Kind) (state : PointState) → IsSoundPoint kind state → IsSoundPoint kind (lost_state state)
lost_point kind state s =
    record { class = s.class; carried = lost_carried kind state.reading s.carried; in_time = s.in_time }

-- ---- each member of a list

all_mapped : {A B : Type 0} (P : A → Type 0) (Q : B → Type 0) (f : A → B) → ((x : A) → P x → Q (f x))
    → (xs : List A) → All P xs → All Q (map f xs)
all_mapped P Q f step xs all = All-map Q f xs (λ k d lt. step (get_or xs k d) (all k d lt))

all_updated : {A : Type 0} (P : A → Type 0) (f : A → A) → ((x : A) → P x → P (f x))
    → (xs : List A) (p : ℕ) → All P xs → All P (updated f xs p)
all_updated P f step [] p all = all
all_updated P f step (x ∷ xs) zero all =
    All-cons P (f x) xs (step x (all 0 x (omega arith))) (λ k d lt. all (suc k) d (omega arith))
all_updated P f step (x ∷ xs) (suc p) all =
    All-cons P x (updated f xs p) (all 0 x (omega arith))
    (all_updated P f step xs p (λ k d lt. all (suc k) d (omega arith)))

all_from_none : {A : Type 0} (P Q : A → Type 0) → ((x : A) → (P x → ⊥) → Q x) → (xs : List A) → (Any P xs → ⊥) → All Q xs
all_from_none P Q turn xs none k d lt =
    turn (get_or xs k d) (λ p. none (k, get_or xs k d, lt, get_or_default xs k (get_or xs k d) d lt, p))

if_some_of_all : {A : Type 0} (P : A → Type 0) (xs : List A) (p : ℕ) → All P xs → IfSome (slice_get xs p) P
if_some_of_all P [] p all = tt
if_some_of_all P (x ∷ xs) zero all = all 0 x (omega arith)
if_some_of_all P (x ∷ xs) (suc p) all = if_some_of_all P xs p (λ k d lt. all (suc k) d (omega arith))

-- ---- a block

-- other points, as many
block_with : (kind : Kind) (b : BlockState) (ps : List PointState) → length ps ≡ length b.points
    → All (IsSoundPoint kind) ps → IsSoundBlock kind b → IsSoundBlock kind (with_points b ps)
block_with kind b ps same all s = record {
  few = omega (arith, s.few);
  narrow = omega (arith, s.narrow);
  points = all;
}

restarted_sound_block : (kind : Kind) (b : BlockState) → IsSoundBlock kind b → IsSoundBlock kind (restarted_block b)
restarted_sound_block kind b s =
    block_with kind b (map restarted_state b.points) (length-map b.points restarted_state)
    (all_mapped (IsSoundPoint kind) (IsSoundPoint kind) restarted_state (λ state p. new_point kind state.point p.class) b.points s.points) s

lost_sound_block : (kind : Kind) (b : BlockState) → IsSoundBlock kind b → IsSoundBlock kind (lost_block b)
lost_sound_block kind b s =
    block_with kind b (map lost_state b.points) (length-map b.points lost_state)
    (all_mapped (IsSoundPoint kind) (IsSoundPoint kind) lost_state (lost_point kind) b.points s.points) s

-- ---- blocks that share no index

no_block : BlockState
no_block = record { base = 0; points = [] }

apart_extents : (bs : List BlockState) → AllPairs ShareNoIndex bs → AreApart (extents bs)
apart_extents bs apart i j index d d' before lt of_i of_j =
    let inside : j < length bs = omega (arith, length-map bs extent) in
    apart i j no_block before inside index
    (subst (λ (e : Extent). covers e index ≡ true) (get_or-map extent bs i no_block d (omega arith)) of_i)
    (subst (λ (e : Extent). covers e index ≡ true) (get_or-map extent bs j no_block d' inside) of_j)

pub apart_blocks : (bs : List BlockState) → AreApart (extents bs) → AllPairs ShareNoIndex bs
apart_blocks bs apart i j d before inside index of_i of_j =
    apart i j index (extent d) (extent d) before (omega (arith, length-map bs extent))
    (subst (λ (e : Extent). covers e index ≡ true) (sym (get_or-map extent bs i d (extent d) (omega arith))) of_i)
    (subst (λ (e : Extent). covers e index ≡ true) (sym (get_or-map extent bs j d (extent d) inside)) of_j)

-- blocks with the same extents
apart_kept : (bs cs : List BlockState) → extents cs ≡ extents bs → AllPairs ShareNoIndex bs → AllPairs ShareNoIndex cs
apart_kept bs cs same apart =
    apart_blocks cs (subst (λ (es : List Extent). AreApart es) (sym same) (apart_extents bs apart))

extents-cons : (b : BlockState) (ps : List PointState) (bs cs : List BlockState) → length ps ≡ length b.points → extents bs ≡ extents cs
    → extents (with_points b ps ∷ bs) ≡ extents (b ∷ cs)
extents-cons b ps bs cs same rest =
    ap (λ (n : ℕ). record { first = b.base; count = n } ∷ extents bs) same ∙ ap (λ (es : List Extent). extent b ∷ es) rest

extents-updated_in : (f : PointState → PointState) (bs : List BlockState) (index : ℕ) → extents (updated_in f bs index) ≡ extents bs
extents-updated_in f [] index = refl
extents-updated_in f (b ∷ bs) index = by_test (has_index b index) refl (extents-updated_in f bs index)
  where
    by_test : (t : Bool) → has_index b index ≡ t → extents (updated_in f bs index) ≡ extents bs → extents (updated_in f (b ∷ bs) index) ≡ extents (b ∷ bs)
    by_test true is rest =
        ap (λ (cs : List BlockState). extents cs) (updated_in-cons f b bs index true is)
        ∙ extents-cons b (updated f b.points (index - b.base)) bs bs (length-updated f b.points (index - b.base)) refl
    by_test false is rest =
        ap (λ (cs : List BlockState). extents cs) (updated_in-cons f b bs index false is) ∙ extents-cons b b.points (updated_in f bs index) bs refl rest

extents-updated_lost : (bs : List BlockState) (number : ℕ) → extents (updated lost_block bs number) ≡ extents bs
extents-updated_lost [] number = refl
extents-updated_lost (b ∷ bs) zero = extents-cons b (map lost_state b.points) bs bs (length-map b.points lost_state) refl
extents-updated_lost (b ∷ bs) (suc number) =
    extents-cons b b.points (updated lost_block bs number) bs refl (extents-updated_lost bs number)

-- ---- the blocks of a kind

updated_blocks : (kind : Kind) (f : PointState → PointState) → ((s : PointState) → IsSoundPoint kind s → IsSoundPoint kind (f s))
    → (bs : List BlockState) (index : ℕ) → All (IsSoundBlock kind) bs → All (IsSoundBlock kind) (updated_in f bs index)
updated_blocks kind f step [] index all = all
updated_blocks kind f step (b ∷ bs) index all =
    by_test (has_index b index) refl (updated_blocks kind f step bs index (λ k d lt. all (suc k) d (omega arith)))
  where
    here : IsSoundBlock kind b
    here = all 0 b (omega arith)

    by_test : (t : Bool) → has_index b index ≡ t → All (IsSoundBlock kind) (updated_in f bs index) → All (IsSoundBlock kind) (updated_in f (b ∷ bs) index)
    by_test true is rest =
        let ps : List PointState = updated f b.points (index - b.base) in
        subst (λ (cs : List BlockState). All (IsSoundBlock kind) cs) (sym (updated_in-cons f b bs index true is))
        (All-cons (IsSoundBlock kind) (with_points b ps) bs
        (block_with kind b ps (length-updated f b.points (index - b.base)) (all_updated (IsSoundPoint kind) f step b.points (index - b.base) here.points) here)
        (λ k d lt. all (suc k) d (omega arith)))
    by_test false is rest =
        subst (λ (cs : List BlockState). All (IsSoundBlock kind) cs) (sym (updated_in-cons f b bs index false is))
        (All-cons (IsSoundBlock kind) b (updated_in f bs index) here rest)

updated_sound : (kind : Kind) (f : PointState → PointState) → ((s : PointState) → IsSoundPoint kind s → IsSoundPoint kind (f s))
    → (bs : List BlockState) (index : ℕ) → AreSoundBlocks kind bs → AreSoundBlocks kind (updated_in f bs index)
updated_sound kind f step bs index s = record {
  each = updated_blocks kind f step bs index s.each;
  apart = apart_kept bs (updated_in f bs index) (extents-updated_in f bs index) s.apart;
}

if_sound : (kind : Kind) (t : Bool) (bs cs : List BlockState) → AreSoundBlocks kind bs → (t ≡ true → AreSoundBlocks kind cs)
    → AreSoundBlocks kind (cond t cs bs)
if_sound kind true bs cs before after = after refl
if_sound kind false bs cs before after = before

changed_sound : (kind : Kind) (bs : List BlockState) (index : ℕ) (reading : Reading) → AreSoundBlocks kind bs
    → AreSoundBlocks kind (changed_in bs kind index reading)
changed_sound kind bs index reading s =
    if_sound kind (is_in_range kind reading) bs (updated_in (changed_state kind index reading) bs index) s
    (λ in_range. updated_sound kind (changed_state kind index reading)
    (λ state p. read_point kind reading state (changed_state kind index reading state) in_range refl refl p) bs index s)

set_sound : (kind : Kind) (bs : List BlockState) (index : ℕ) (reading : Reading) → AreSoundBlocks kind bs
    → AreSoundBlocks kind (set_in bs kind index reading)
set_sound kind bs index reading s =
    if_sound kind (is_in_range kind reading) bs (updated_in (set_state reading) bs index) s
    (λ in_range. updated_sound kind (set_state reading)
    (λ state p. read_point kind reading state (set_state reading state) in_range refl refl p) bs index s)

lost_sound : (kind : Kind) (bs : List BlockState) (number : ℕ) → AreSoundBlocks kind bs → AreSoundBlocks kind (updated lost_block bs number)
lost_sound kind bs number s = record {
  each = all_updated (IsSoundBlock kind) lost_block (lost_sound_block kind) bs number s.each;
  apart = apart_kept bs (updated lost_block bs number) (extents-updated_lost bs number) s.apart;
}

restarted_sound : (kind : Kind) (bs : List BlockState) → AreSoundBlocks kind bs → AreSoundBlocks kind (map restarted_block bs)
restarted_sound kind bs s = record {
  each = all_mapped (IsSoundBlock kind) (IsSoundBlock kind) restarted_block (restarted_sound_block kind) bs s.each;
  apart = apart_kept bs (map restarted_block bs) (extents-restarted bs) s.apart;
}

-- ---- those of a plan

at_most : (most n : ℕ) → (most < n → ⊥) → n ≤ most
at_most most n not_over = elim (cases_lt most n) [ inl over ↦ absurd (not_over over) | inr within ↦ within ]

right_class : (kind : Kind) (point : Point) → (IsWrong kind point → ⊥) → point.class ≤ CLASSES
right_class Binary point right = at_most CLASSES point.class (λ over. right (inl over))
right_class Counter point right = at_most CLASSES point.class (λ over. right (inl over))
right_class Analog point right = at_most CLASSES point.class right

-- what of a plan's block makes its points sound
record IsRight (block : Block) : Type 0 where
  pub few : length block.points ≤ MAX_POINTS
  pub narrow : block.base + length block.points ≤ INDICES
  pub classes : All (λ (point : Point). point.class ≤ CLASSES) block.points

right_block : (kind : Kind) (block : Block) → IsRight block → IsSoundBlock kind (new_block block)
right_block kind block right = record {
  few = omega (arith, right.few, length-map block.points new_state);
  narrow = omega (arith, right.narrow, length-map block.points new_state);
  points = all_mapped (λ (point : Point). point.class ≤ CLASSES) (IsSoundPoint kind) new_state (new_point kind) block.points right.classes;
}

all_right : (kind : Kind) (blocks : List Block) → (Any (HasWrongPoint kind) blocks → ⊥) → (Any HasTooMany blocks → ⊥) → (Any IsTooWide blocks → ⊥)
    → All IsRight blocks
all_right kind blocks classes few narrow k d lt =
    let class = all_from_none (HasWrongPoint kind) (λ (b : Block). All (λ (point : Point). point.class ≤ CLASSES) b.points)
    (λ b none. all_from_none (IsWrong kind) (λ (point : Point). point.class ≤ CLASSES) (right_class kind) b.points none) blocks classes k d lt in
    record {
      few = all_from_none HasTooMany (λ (b : Block). length b.points ≤ MAX_POINTS) (λ b not_over. at_most MAX_POINTS (length b.points) not_over) blocks few k d lt;
      narrow = all_from_none IsTooWide (λ (b : Block). b.base + length b.points ≤ INDICES)
          (λ b not_over. at_most INDICES (b.base + length b.points) not_over) blocks narrow k d lt;
      classes = class;
    }

new_sound : (kind : Kind) (blocks : List Block) → (Any (HasWrongPoint kind) blocks → ⊥) → (Any HasTooMany blocks → ⊥) → (Any IsTooWide blocks → ⊥)
    → (ShareIndex blocks → ⊥) → AreSoundBlocks kind (map new_block blocks)
new_sound kind blocks classes few narrow apart = record {
  each = all_mapped IsRight (IsSoundBlock kind) new_block (right_block kind) blocks (all_right kind blocks classes few narrow);
  apart = apart_blocks (map new_block blocks) (apart_new blocks apart);
}

-- ---- the database

kind_is_sound : (plan : Plan) → plan_words.IsSoundPlan plan → (kind : Kind) → AreSoundBlocks kind (map new_block (plan_words.blocks_of plan kind))
kind_is_sound plan sound kind =
    new_sound kind (plan_words.blocks_of plan kind) (λ h. sound Class (kind, h)) (λ h. sound TooMany (kind, h))
    (λ h. sound TooWide (kind, h)) (λ h. sound Overlap (kind, h))

pub new_is_sound : (plan : Plan) → plan_words.IsSoundPlan plan → IsSoundDatabase (new_database plan)
new_is_sound plan sound Binary = kind_is_sound plan sound Binary
new_is_sound plan sound Counter = kind_is_sound plan sound Counter
new_is_sound plan sound Analog = kind_is_sound plan sound Analog

-- banks that are those of a plan
pub new_banks_are_sound : (plan : Plan) (binary counter analog : List BlockState) → plan_words.IsSoundPlan plan
    → binary ≡ map new_block (plan_words.blocks_of plan Binary) → counter ≡ map new_block (plan_words.blocks_of plan Counter)
    → analog ≡ map new_block (plan_words.blocks_of plan Analog) → IsSoundDatabase (record { banks = binary ∷ counter ∷ analog ∷ [] })
new_banks_are_sound plan binary counter analog sound b c a Binary =
    subst (λ (bs : List BlockState). AreSoundBlocks Binary bs) (sym b) (kind_is_sound plan sound Binary)
new_banks_are_sound plan binary counter analog sound b c a Counter =
    subst (λ (bs : List BlockState). AreSoundBlocks Counter bs) (sym c) (kind_is_sound plan sound Counter)
new_banks_are_sound plan binary counter analog sound b c a Analog =
    subst (λ (bs : List BlockState). AreSoundBlocks Analog bs) (sym a) (kind_is_sound plan sound Analog)

-- a change of the blocks of one kind
sound_with : (database : Database) (kind : Kind) (change : List BlockState → List BlockState) → change [] ≡ [] → IsSoundDatabase database
    → AreSoundBlocks kind (change (blocks_of database kind)) → IsSoundDatabase (with_blocks database kind (change (blocks_of database kind)))
sound_with database kind change none sound now other =
    let after : Database = with_blocks database kind (change (blocks_of database kind)) in
    elim (same_or_not kind other) [
      | inl same ↦ subst (λ (k : Kind). AreSoundBlocks k (blocks_of after k)) same
          (subst (λ (bs : List BlockState). AreSoundBlocks kind bs) (sym (blocks_of-same change none database kind)) now)
      | inr apart ↦ subst (λ (bs : List BlockState). AreSoundBlocks other bs)
          (sym (blocks_of-other database kind other (change (blocks_of database kind)) apart)) (sound other)
    ]

pub changed_is_sound : (database : Database) (kind : Kind) (index : ℕ) (reading : Reading) → IsSoundDatabase database
    → IsSoundDatabase (changed_of database kind index reading)
changed_is_sound database kind index reading sound =
    sound_with database kind (λ bs. changed_in bs kind index reading) (read_in-none (changed_state kind index reading) (is_in_range kind reading) index) sound
    (changed_sound kind (blocks_of database kind) index reading (sound kind))

pub set_is_sound : (database : Database) (kind : Kind) (index : ℕ) (reading : Reading) → IsSoundDatabase database
    → IsSoundDatabase (set_of database kind index reading)
set_is_sound database kind index reading sound =
    sound_with database kind (λ bs. set_in bs kind index reading) (read_in-none (set_state reading) (is_in_range kind reading) index) sound
    (set_sound kind (blocks_of database kind) index reading (sound kind))

-- a change of the blocks of each kind
sound_each : (change : List BlockState → List BlockState) → change [] ≡ []
    → ((kind : Kind) (bs : List BlockState) → AreSoundBlocks kind bs → AreSoundBlocks kind (change bs))
    → (database : Database) → IsSoundDatabase database → IsSoundDatabase (each_kind change database)
sound_each change none keeps database sound kind =
    subst (λ (bs : List BlockState). AreSoundBlocks kind bs) (sym (blocks_of-each change none database kind))
    (keeps kind (blocks_of database kind) (sound kind))

pub lost_is_sound : (database : Database) (number : ℕ) → IsSoundDatabase database → IsSoundDatabase (lost_of database number)
lost_is_sound database number sound =
    sound_each (λ bs. updated lost_block bs number) refl (λ kind bs s. lost_sound kind bs number s) database sound

pub restarted_is_sound : (database : Database) → IsSoundDatabase database → IsSoundDatabase (restarted database)
restarted_is_sound database sound = sound_each (map restarted_block) refl restarted_sound database sound

pub sound_same : (now database : Database) → now ≡ database → IsSoundDatabase database → IsSoundDatabase now
sound_same now database same sound = subst (λ (d : Database). IsSoundDatabase d) (sym same) sound

-- ---- a point of a sound database

sound_in : (kind : Kind) (bs : List BlockState) (index : ℕ) → All (IsSoundBlock kind) bs → IfSome (state_in bs index) (IsSoundPoint kind)
sound_in kind [] index all = tt
sound_in kind (b ∷ bs) index all =
    by_test (has_index b index) refl (sound_in kind bs index (λ k d lt. all (suc k) d (omega arith)))
  where
    here : IsSoundBlock kind b
    here = all 0 b (omega arith)

    by_test : (t : Bool) → has_index b index ≡ t → IfSome (state_in bs index) (IsSoundPoint kind) → IfSome (state_in (b ∷ bs) index) (IsSoundPoint kind)
    by_test true is rest =
        subst (λ (o : Option PointState). IfSome o (IsSoundPoint kind)) (sym (state_in-cons b bs index true is))
        (if_some_of_all (IsSoundPoint kind) b.points (index - b.base) here.points)
    by_test false is rest =
        subst (λ (o : Option PointState). IfSome o (IsSoundPoint kind)) (sym (state_in-cons b bs index false is)) rest

pub point_is_sound : (database : Database) (kind : Kind) (index : ℕ) → IsSoundDatabase database
    → IfSome (state_at database kind index) (IsSoundPoint kind)
point_is_sound database kind index sound = sound_in kind (blocks_of database kind) index (sound kind).each

-- the block at n has the index, and none before it does
state_at_block : (bs : List BlockState) (n index : ℕ) (d : BlockState) → n < length bs → has_index (get_or bs n d) index ≡ true
    → ((i : ℕ) → i < n → has_index (get_or bs i d) index ≡ true → ⊥)
    → state_in bs index ≡ slice_get (get_or bs n d).points (index - (get_or bs n d).base)
state_at_block [] n index d inside has before = absurd (omega arith)
state_at_block (b ∷ bs) zero index d inside has before = state_in-cons b bs index true has
state_at_block (b ∷ bs) (suc n) index d inside has before =
    let lacks : has_index b index ≡ false = elim (covers_cases (extent b) index) [
      | inl here ↦ absurd (before 0 (omega arith) here)
      | inr none ↦ none
    ] in
    state_in-cons b bs index false lacks
    ∙ state_at_block bs n index d (omega arith) has (λ i lt of_i. before (suc i) (omega arith) of_i)

pub point_at_index : (database : Database) (kind : Kind) (block : BlockState) (place : ℕ) → IsSoundDatabase database
    → Contains (blocks_of database kind) block → place < length block.points
    → state_at database kind (block.base + place) ≡ slice_get block.points place
point_at_index database kind block place sound found lt =
    let bs : List BlockState = blocks_of database kind in
    let index : ℕ = block.base + place in
    let has : has_index block index ≡ true = covers_true (extent block) index (omega arith) (omega arith) in
    let there : has_index (get_or bs found.0 block) index ≡ true = subst (λ (b : BlockState). has_index b index ≡ true) (sym found.2) has in
    let offset : index - block.base ≡ place = omega arith in
    state_at_block bs found.0 index block found.1 there
    (λ i before of_i. (sound kind).apart i found.0 block before found.1 index of_i there)
    ∙ ap (λ (b : BlockState). slice_get b.points (index - b.base)) found.2
    ∙ ap (λ (n : ℕ). slice_get block.points n) offset
