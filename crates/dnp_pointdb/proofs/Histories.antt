-- What each call does to one point, and what a run of calls makes of it.
use Rattle.std.proofs.Common.{◌≡◌, ◌≢◌, ℕ, zero, suc, ◌-◌, ◌≤◌, Bool, true, false, cond, List, [], ◌∷◌, length, map, Option, Some, refl, sym, ◌∙◌, ap, arith}
use Rattle.std.specs.Option.{option_map}
use Rattle.std.specs.List.{slice_get}
use Rattle.std.proofs.lemmas.List.{length-map}
use Rattle.dnp_objects.specs.declared.row.Kind.{Kind}
use Rattle.dnp_pointdb.specs.declared.state.PointState.{PointState}
use Rattle.dnp_pointdb.specs.declared.state.BlockState.{BlockState}
use Rattle.dnp_pointdb.specs.Database.{Database, blocks_of, has_index, state_in, state_at, updated, updated_in, restarted_state, restarted_block, restarted, lost_state, lost_block, lost_of}
use Rattle.dnp_pointdb.specs.steps.Order.{extent, covers}
use Rattle.dnp_pointdb.proofs.ByKind.{blocks_of-each}
use Rattle.dnp_pointdb.proofs.Places.{covers_low}

-- ---- one member of a list

pub length-updated : {A : Type 0} (f : A → A) (xs : List A) (p : ℕ) → length (updated f xs p) ≡ length xs
length-updated f [] p = refl
length-updated f (x ∷ xs) zero = refl
length-updated f (x ∷ xs) (suc p) = ap (λ (n : ℕ). suc n) (length-updated f xs p)

slice_get-updated : {A : Type 0} (f : A → A) (xs : List A) (p : ℕ) → slice_get (updated f xs p) p ≡ option_map f (slice_get xs p)
slice_get-updated f [] p = refl
slice_get-updated f (x ∷ xs) zero = refl
slice_get-updated f (x ∷ xs) (suc p) = slice_get-updated f xs p

slice_get-updated_other : {A : Type 0} (f : A → A) (xs : List A) (p q : ℕ) → p ≢ q → slice_get (updated f xs p) q ≡ slice_get xs q
slice_get-updated_other f [] p q apart = refl
slice_get-updated_other f (x ∷ xs) zero zero apart = absurd (apart refl)
slice_get-updated_other f (x ∷ xs) zero (suc q) apart = refl
slice_get-updated_other f (x ∷ xs) (suc p) zero apart = refl
slice_get-updated_other f (x ∷ xs) (suc p) (suc q) apart =
    slice_get-updated_other f xs p q (λ same. apart (ap (λ (n : ℕ). suc n) same))

slice_get-map : {A : Type 0} (f : A → A) (xs : List A) (p : ℕ) → slice_get (map f xs) p ≡ option_map f (slice_get xs p)
slice_get-map f [] p = refl
slice_get-map f (x ∷ xs) zero = refl
slice_get-map f (x ∷ xs) (suc p) = slice_get-map f xs p

-- ---- a change of one point of the blocks

-- a block with as many other points
abbrev pub with_points : BlockState → List PointState → BlockState
with_points b ps = record b { points = ps }

has_index-with : (b : BlockState) (ps : List PointState) (index : ℕ) → length ps ≡ length b.points
    → has_index (with_points b ps) index ≡ has_index b index
has_index-with b ps index same = ap (λ (n : ℕ). covers (record { first = b.base; count = n }) index) same

pub state_in-cons : (b : BlockState) (bs : List BlockState) (index : ℕ) (t : Bool) → has_index b index ≡ t
    → state_in (b ∷ bs) index ≡ cond t (slice_get b.points (index - b.base)) (state_in bs index)
state_in-cons b bs index t is = ap (λ (s : Bool). cond s (slice_get b.points (index - b.base)) (state_in bs index)) is

pub updated_in-cons : (f : PointState → PointState) (b : BlockState) (bs : List BlockState) (index : ℕ) (t : Bool) → has_index b index ≡ t
    → updated_in f (b ∷ bs) index
    ≡ cond t (with_points b (updated f b.points (index - b.base)) ∷ bs) (b ∷ updated_in f bs index)
updated_in-cons f b bs index t is =
    ap (λ (s : Bool). cond s (with_points b (updated f b.points (index - b.base)) ∷ bs) (b ∷ updated_in f bs index)) is

same_step : (f : PointState → PointState) (b : BlockState) (bs : List BlockState) (index : ℕ) (t : Bool) → has_index b index ≡ t
    → state_in (updated_in f bs index) index ≡ option_map f (state_in bs index)
    → state_in (updated_in f (b ∷ bs) index) index ≡ option_map f (state_in (b ∷ bs) index)
same_step f b bs index true is rest =
    let ps : List PointState = updated f b.points (index - b.base) in
    let still : has_index (with_points b ps) index ≡ true = has_index-with b ps index (length-updated f b.points (index - b.base)) ∙ is in
    ap (λ (cs : List BlockState). state_in cs index) (updated_in-cons f b bs index true is)
    ∙ state_in-cons (with_points b ps) bs index true still
    ∙ slice_get-updated f b.points (index - b.base)
    ∙ ap (λ (o : Option PointState). option_map f o) (sym (state_in-cons b bs index true is))
same_step f b bs index false is rest =
    ap (λ (cs : List BlockState). state_in cs index) (updated_in-cons f b bs index false is)
    ∙ state_in-cons b (updated_in f bs index) index false is
    ∙ rest
    ∙ ap (λ (o : Option PointState). option_map f o) (sym (state_in-cons b bs index false is))

pub state_in-updated : (f : PointState → PointState) (bs : List BlockState) (index : ℕ)
    → state_in (updated_in f bs index) index ≡ option_map f (state_in bs index)
state_in-updated f [] index = refl
state_in-updated f (b ∷ bs) index = same_step f b bs index (has_index b index) refl (state_in-updated f bs index)

-- of another index
other_step : (f : PointState → PointState) (b : BlockState) (bs : List BlockState) (index other : ℕ) (t u : Bool)
    → has_index b index ≡ t → has_index b other ≡ u → index ≢ other
    → state_in (updated_in f bs index) other ≡ state_in bs other
    → state_in (updated_in f (b ∷ bs) index) other ≡ state_in (b ∷ bs) other
other_step f b bs index other true true is has apart rest =
    let ps : List PointState = updated f b.points (index - b.base) in
    let still : has_index (with_points b ps) other ≡ true = has_index-with b ps other (length-updated f b.points (index - b.base)) ∙ has in
    let low : b.base ≤ index = covers_low (extent b) index is in
    let low' : b.base ≤ other = covers_low (extent b) other has in
    let places : (index - b.base) ≢ (other - b.base) = λ same. apart (omega arith) in
    ap (λ (cs : List BlockState). state_in cs other) (updated_in-cons f b bs index true is)
    ∙ state_in-cons (with_points b ps) bs other true still
    ∙ slice_get-updated_other f b.points (index - b.base) (other - b.base) places
    ∙ sym (state_in-cons b bs other true has)
other_step f b bs index other true false is lacks apart rest =
    let ps : List PointState = updated f b.points (index - b.base) in
    let still : has_index (with_points b ps) other ≡ false = has_index-with b ps other (length-updated f b.points (index - b.base)) ∙ lacks in
    ap (λ (cs : List BlockState). state_in cs other) (updated_in-cons f b bs index true is)
    ∙ state_in-cons (with_points b ps) bs other false still
    ∙ sym (state_in-cons b bs other false lacks)
other_step f b bs index other false true is has apart rest =
    ap (λ (cs : List BlockState). state_in cs other) (updated_in-cons f b bs index false is)
    ∙ state_in-cons b (updated_in f bs index) other true has
    ∙ sym (state_in-cons b bs other true has)
other_step f b bs index other false false is lacks apart rest =
    ap (λ (cs : List BlockState). state_in cs other) (updated_in-cons f b bs index false is)
    ∙ state_in-cons b (updated_in f bs index) other false lacks
    ∙ rest
    ∙ sym (state_in-cons b bs other false lacks)

pub state_in-updated_other : (f : PointState → PointState) (bs : List BlockState) (index other : ℕ) → index ≢ other
    → state_in (updated_in f bs index) other ≡ state_in bs other
state_in-updated_other f [] index other apart = refl
state_in-updated_other f (b ∷ bs) index other apart =
    other_step f b bs index other (has_index b index) (has_index b other) refl refl apart (state_in-updated_other f bs index other apart)

-- ---- a restart

restart_step : (b : BlockState) (bs : List BlockState) (index : ℕ) (t : Bool) → has_index b index ≡ t
    → state_in (map restarted_block bs) index ≡ option_map restarted_state (state_in bs index)
    → state_in (map restarted_block (b ∷ bs)) index ≡ option_map restarted_state (state_in (b ∷ bs) index)
restart_step b bs index true is rest =
    let still : has_index (restarted_block b) index ≡ true =
    has_index-with b (map restarted_state b.points) index (length-map b.points restarted_state) ∙ is in
    state_in-cons (restarted_block b) (map restarted_block bs) index true still
    ∙ slice_get-map restarted_state b.points (index - b.base)
    ∙ ap (λ (o : Option PointState). option_map restarted_state o) (sym (state_in-cons b bs index true is))
restart_step b bs index false is rest =
    let still : has_index (restarted_block b) index ≡ false =
    has_index-with b (map restarted_state b.points) index (length-map b.points restarted_state) ∙ is in
    state_in-cons (restarted_block b) (map restarted_block bs) index false still
    ∙ rest
    ∙ ap (λ (o : Option PointState). option_map restarted_state o) (sym (state_in-cons b bs index false is))

pub state_in-restarted : (bs : List BlockState) (index : ℕ)
    → state_in (map restarted_block bs) index ≡ option_map restarted_state (state_in bs index)
state_in-restarted [] index = refl
state_in-restarted (b ∷ bs) index = restart_step b bs index (has_index b index) refl (state_in-restarted bs index)

pub state_at-restarted : (database : Database) (kind : Kind) (index : ℕ)
    → state_at (restarted database) kind index ≡ option_map restarted_state (state_at database kind index)
state_at-restarted database kind index =
    ap (λ (bs : List BlockState). state_in bs index) (blocks_of-each (map restarted_block) refl database kind)
    ∙ state_in-restarted (blocks_of database kind) index

-- ---- lost communication

slice_get-kept : {R : Type 0} (g : PointState → R) → ((state : PointState) → g (lost_state state) ≡ g state)
    → (ps : List PointState) (p : ℕ) → option_map g (slice_get (map lost_state ps) p) ≡ option_map g (slice_get ps p)
slice_get-kept g keeps [] p = refl
slice_get-kept {R} g keeps (x ∷ xs) zero = ap (λ (r : R). Some r) (keeps x)
slice_get-kept g keeps (x ∷ xs) (suc p) = slice_get-kept g keeps xs p

lost_head : {R : Type 0} (g : PointState → R) → ((state : PointState) → g (lost_state state) ≡ g state)
    → (b : BlockState) (bs : List BlockState) (index : ℕ) (t : Bool) → has_index b index ≡ t
    → option_map g (state_in (lost_block b ∷ bs) index) ≡ option_map g (state_in (b ∷ bs) index)
lost_head g keeps b bs index true is =
    let still : has_index (lost_block b) index ≡ true =
    has_index-with b (map lost_state b.points) index (length-map b.points lost_state) ∙ is in
    ap (λ (o : Option PointState). option_map g o) (state_in-cons (lost_block b) bs index true still)
    ∙ slice_get-kept g keeps b.points (index - b.base)
    ∙ sym (ap (λ (o : Option PointState). option_map g o) (state_in-cons b bs index true is))
lost_head g keeps b bs index false is =
    let still : has_index (lost_block b) index ≡ false =
    has_index-with b (map lost_state b.points) index (length-map b.points lost_state) ∙ is in
    ap (λ (o : Option PointState). option_map g o) (state_in-cons (lost_block b) bs index false still)
    ∙ sym (ap (λ (o : Option PointState). option_map g o) (state_in-cons b bs index false is))

same_head : {R : Type 0} (g : PointState → R) (b : BlockState) (bs cs : List BlockState) (index : ℕ) (t : Bool) → has_index b index ≡ t
    → option_map g (state_in cs index) ≡ option_map g (state_in bs index)
    → option_map g (state_in (b ∷ cs) index) ≡ option_map g (state_in (b ∷ bs) index)
same_head g b bs cs index true is rest =
    ap (λ (o : Option PointState). option_map g o) (state_in-cons b cs index true is)
    ∙ sym (ap (λ (o : Option PointState). option_map g o) (state_in-cons b bs index true is))
same_head g b bs cs index false is rest =
    ap (λ (o : Option PointState). option_map g o) (state_in-cons b cs index false is)
    ∙ rest
    ∙ sym (ap (λ (o : Option PointState). option_map g o) (state_in-cons b bs index false is))

state_in-lost : {R : Type 0} (g : PointState → R) → ((state : PointState) → g (lost_state state) ≡ g state)
    → (bs : List BlockState) (number index : ℕ)
    → option_map g (state_in (updated lost_block bs number) index) ≡ option_map g (state_in bs index)
state_in-lost g keeps [] number index = refl
state_in-lost g keeps (b ∷ bs) zero index = lost_head g keeps b bs index (has_index b index) refl
state_in-lost g keeps (b ∷ bs) (suc number) index =
    same_head g b bs (updated lost_block bs number) index (has_index b index) refl (state_in-lost g keeps bs number index)

pub state_at-lost : {R : Type 0} (g : PointState → R) → ((state : PointState) → g (lost_state state) ≡ g state)
    → (database : Database) (number : ℕ) (kind : Kind) (index : ℕ)
    → option_map g (state_at (lost_of database number) kind index) ≡ option_map g (state_at database kind index)
state_at-lost g keeps database number kind index =
    ap (λ (bs : List BlockState). option_map g (state_in bs index)) (blocks_of-each (λ bs. updated lost_block bs number) refl database kind)
    ∙ state_in-lost g keeps (blocks_of database kind) number index
