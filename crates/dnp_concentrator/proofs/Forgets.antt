-- A restart of points forgets all that was read of them.
use Rattle.std.proofs.Common.{◌≡◌, ℕ, zero, suc, ◌-◌, Bool, true, false, cond, if◌then◌else◌, List, [], ◌∷◌, map, refl, ap, ap₂, ◌∙◌, get_or, set, Option, None, Some}
use Rattle.dnp_objects.specs.declared.row.Kind.{Kind}
use Rattle.dnp_objects.specs.Lanes.{kind_number}
use Rattle.dnp_objects.specs.declared.row.Row.{Row}
use Rattle.dnp_pointdb.specs.declared.state.PointState.{PointState}
use Rattle.dnp_pointdb.specs.declared.state.BlockState.{BlockState}
use Rattle.dnp_pointdb.specs.declared.point.Block.{Block}
use Rattle.dnp_pointdb.specs.declared.point.Point.{Point}
use Rattle.dnp_pointdb.specs.declared.reading.Reading.{Reading}
use Rattle.dnp_pointdb.specs.Plan.{Plan, kinds}
use Rattle.dnp_pointdb.specs.Plan as plan_words
use Rattle.dnp_pointdb.specs.Ranges.{is_in_range}
use Rattle.dnp_pointdb.specs.Database.{Database, blocks_of, has_index, updated, updated_in, new_state, new_block, new_database, restarted_state, restarted_block, restarted, set_state, set_in, set_of, lost_state, lost_block, lost_of}
use Rattle.dnp_concentrator.specs.Below.{reading_of, readings_set, set_by}
use Rattle.dnp_concentrator.specs.Mapped.{row_above}
use Rattle.dnp_concentrator.specs.declared.span.Spans.{Spans}

map_same : {A B : Type 0} (g : A → B) (f : A → A) → ((x : A) → g (f x) ≡ g x) → (xs : List A) → map g (map f xs) ≡ map g xs
map_same g f h [] = refl
map_same g f h (x ∷ xs) = ap₂ (λ y ys. y ∷ ys) (h x) (map_same g f h xs)

-- what was made so stays as it is
map_made : {A B : Type 0} (g : B → B) (f : A → B) → ((x : A) → g (f x) ≡ f x) → (xs : List A) → map g (map f xs) ≡ map f xs
map_made g f h [] = refl
map_made g f h (x ∷ xs) = ap₂ (λ y ys. y ∷ ys) (h x) (map_made g f h xs)

updated_same : {A B : Type 0} (g : A → B) (f : A → A) → ((x : A) → g (f x) ≡ g x) → (xs : List A) (p : ℕ) → map g (updated f xs p) ≡ map g xs
updated_same g f h [] p = refl
updated_same g f h (x ∷ xs) zero = ap (λ y. y ∷ map g xs) (h x)
updated_same g f h (x ∷ xs) (suc p) = ap (λ ys. g x ∷ ys) (updated_same g f h xs p)

pub set_same : {A B : Type 0} (g : A → B) (xs : List A) (n : ℕ) (y d : A) → g y ≡ g (get_or xs n d) → map g (set xs n y) ≡ map g xs
set_same g [] n y d h = refl
set_same g (x ∷ xs) zero y d h = ap (λ z. z ∷ map g xs) h
set_same g (x ∷ xs) (suc n) y d h = ap (λ zs. g x ∷ zs) (set_same g xs n y d h)

in_blocks : (f : PointState → PointState) → ((s : PointState) → restarted_state (f s) ≡ restarted_state s) → (bs : List BlockState) (index : ℕ)
    → map restarted_block (updated_in f bs index) ≡ map restarted_block bs
in_blocks f h [] index = refl
in_blocks f h (b ∷ bs) index = by (has_index b index) (in_blocks f h bs index)
  where
    by : (t : Bool) → map restarted_block (updated_in f bs index) ≡ map restarted_block bs
        → map restarted_block (if t then record b { points = updated f b.points (index - b.base) } ∷ bs else b ∷ updated_in f bs index)
        ≡ map restarted_block (b ∷ bs)
    by true rest =
        ap (λ (ps : List PointState). record b { points = ps } ∷ map restarted_block bs) (updated_same restarted_state f h b.points (index - b.base))
    by false rest = ap (λ (cs : List BlockState). restarted_block b ∷ cs) rest

pub set_forgets : (database : Database) (kind : Kind) (index : ℕ) (reading : Reading) → restarted (set_of database kind index reading) ≡ restarted database
set_forgets database kind index reading =
    ap (λ (banks : List (List BlockState)). record { banks = banks })
    (set_same (map restarted_block) database.banks (kind_number kind) (set_in (blocks_of database kind) kind index reading) []
    (either (is_in_range kind reading)))
  where
    either : (t : Bool) → map restarted_block (cond t (updated_in (set_state reading) (blocks_of database kind) index) (blocks_of database kind))
        ≡ map restarted_block (blocks_of database kind)
    either true = in_blocks (set_state reading) (λ s. refl) (blocks_of database kind) index
    either false = refl

pub lost_forgets : (database : Database) (number : ℕ) → restarted (lost_of database number) ≡ restarted database
lost_forgets database number =
    ap (λ (banks : List (List BlockState)). record { banks = banks })
    (map_same (map restarted_block) (λ bs. updated lost_block bs number)
    (λ bs. updated_same restarted_block lost_block
    (λ b. ap (λ (ps : List PointState). record b { points = ps }) (map_same restarted_state lost_state (λ s. refl) b.points)) bs number)
    database.banks)

pub twice_forgets : (database : Database) → restarted (restarted database) ≡ restarted database
twice_forgets database =
    ap (λ (banks : List (List BlockState)). record { banks = banks })
    (map_same (map restarted_block) (map restarted_block)
    (map_same restarted_block restarted_block
    (λ b. ap (λ (ps : List PointState). record b { points = ps }) (map_same restarted_state restarted_state (λ s. refl) b.points)))
    database.banks)

pub new_forgets : (plan : Plan) → restarted (new_database plan) ≡ new_database plan
new_forgets plan =
    ap (λ (banks : List (List BlockState)). record { banks = banks })
    (map_made (map restarted_block) (λ kind. map new_block (plan_words.blocks_of plan kind))
    (λ kind. map_made restarted_block new_block
    (λ (b : Block). ap (λ (ps : List PointState). record { base = b.base; points = ps }) (map_made restarted_state new_state (λ (p : Point). refl) b.points))
    (plan_words.blocks_of plan kind)) kinds)

-- ---- readings of a substation

set_by_forgets : (database : Database) (o : Option Row) → restarted (set_by database o) ≡ restarted database
set_by_forgets database None = refl
set_by_forgets database (Some row) = set_forgets database row.kind row.index (reading_of row)

pub readings_forgotten : (spans : List Spans) (substation : ℕ) (database : Database) (rows : List Row)
    → restarted (readings_set spans substation database rows) ≡ restarted database
readings_forgotten spans substation database [] = refl
readings_forgotten spans substation database (row ∷ rows) =
    readings_forgotten spans substation (set_by database (row_above spans substation row)) rows ∙ set_by_forgets database (row_above spans substation row)
