-- What a reading that comes to a point, with an event or without, leaves of that point and of the others.
use Rattle.std.proofs.Common.{◌≡◌, ◌≢◌, ℕ, ◌⊎◌, Bool, true, false, cond, List, [], refl, ◌∙◌, ap, subst, inl, inr}
use Rattle.std.specs.Option.{option_map}
use Rattle.dnp_objects.specs.declared.row.Kind.{Kind}
use Rattle.dnp_pointdb.specs.declared.reading.Reading.{Reading}
use Rattle.dnp_pointdb.specs.declared.state.PointState.{PointState}
use Rattle.dnp_pointdb.specs.declared.state.BlockState.{BlockState}
use Rattle.dnp_pointdb.specs.Ranges.{is_in_range}
use Rattle.dnp_pointdb.specs.Database.{Database, blocks_of, with_blocks, state_in, state_at, updated_in, changed_state, changed_of, set_state, set_of}
use Rattle.dnp_pointdb.proofs.Histories.{state_in-updated, state_in-updated_other}
use Rattle.dnp_pointdb.proofs.ByKind.{same_or_not, blocks_of-same, blocks_of-other}

-- the blocks with a change of one point, if the reading is in range
abbrev pub read_in : (PointState → PointState) → Bool → ℕ → List BlockState → List BlockState
read_in f in_range index bs = cond in_range (updated_in f bs index) bs

pub read_in-none : (f : PointState → PointState) (in_range : Bool) (index : ℕ) → read_in f in_range index [] ≡ []
read_in-none f true index = refl
read_in-none f false index = refl

abbrev pub read_of : (PointState → PointState) → Bool → Database → Kind → ℕ → Database
read_of f in_range database kind index = with_blocks database kind (read_in f in_range index (blocks_of database kind))

blocks_of-read : (f : PointState → PointState) (in_range : Bool) (database : Database) (kind : Kind) (index : ℕ)
    → blocks_of (read_of f in_range database kind index) kind ≡ read_in f in_range index (blocks_of database kind)
blocks_of-read f in_range database kind index =
    blocks_of-same (λ bs. read_in f in_range index bs) (read_in-none f in_range index) database kind

-- ---- the point itself

read_here : (f : PointState → PointState) (in_range : Bool) (database : Database) (kind : Kind) (index : ℕ) → in_range ≡ true
    → state_at (read_of f in_range database kind index) kind index ≡ option_map f (state_at database kind index)
read_here f in_range database kind index is =
    let bs : List BlockState = blocks_of database kind in
    ap (λ (cs : List BlockState). state_in cs index) (blocks_of-read f in_range database kind index)
    ∙ ap (λ (t : Bool). state_in (read_in f t index bs) index) is
    ∙ state_in-updated f bs index

refused : (f : PointState → PointState) (in_range : Bool) (database : Database) (kind : Kind) (index : ℕ) → in_range ≡ false
    → state_at (read_of f in_range database kind index) kind index ≡ state_at database kind index
refused f in_range database kind index is =
    let bs : List BlockState = blocks_of database kind in
    ap (λ (cs : List BlockState). state_in cs index) (blocks_of-read f in_range database kind index)
    ∙ ap (λ (t : Bool). state_in (read_in f t index bs) index) is

-- ---- another point

kept_if : (f : PointState → PointState) (in_range : Bool) (bs : List BlockState) (index other : ℕ) → index ≢ other
    → state_in (read_in f in_range index bs) other ≡ state_in bs other
kept_if f true bs index other apart = state_in-updated_other f bs index other apart
kept_if f false bs index other apart = refl

of_other_kind : (f : PointState → PointState) (in_range : Bool) (database : Database) (kind other_kind : Kind) (index other : ℕ)
    → kind ≢ other_kind → state_at (read_of f in_range database kind index) other_kind other ≡ state_at database other_kind other
of_other_kind f in_range database kind other_kind index other apart =
    ap (λ (cs : List BlockState). state_in cs other)
    (blocks_of-other database kind other_kind (read_in f in_range index (blocks_of database kind)) apart)

of_other_index : (f : PointState → PointState) (in_range : Bool) (database : Database) (kind other_kind : Kind) (index other : ℕ)
    → index ≢ other → kind ≡ other_kind
    → state_at (read_of f in_range database kind index) other_kind other ≡ state_at database other_kind other
of_other_index f in_range database kind other_kind index other apart same =
    let P : Kind → Type 0 = λ k. state_at (read_of f in_range database kind index) k other ≡ state_at database k other in
    subst P same (
    ap (λ (cs : List BlockState). state_in cs other) (blocks_of-read f in_range database kind index)
    ∙ kept_if f in_range (blocks_of database kind) index other apart
    )

read_elsewhere : (f : PointState → PointState) (in_range : Bool) (database : Database) (kind other_kind : Kind) (index other : ℕ)
    → (kind ≢ other_kind) ⊎ (index ≢ other)
    → state_at (read_of f in_range database kind index) other_kind other ≡ state_at database other_kind other
read_elsewhere f in_range database kind other_kind index other (inl apart) =
    of_other_kind f in_range database kind other_kind index other apart
read_elsewhere f in_range database kind other_kind index other (inr apart) =
    elim (same_or_not kind other_kind) [
      | inl same ↦ of_other_index f in_range database kind other_kind index other apart same
      | inr different ↦ of_other_kind f in_range database kind other_kind index other different
    ]

-- ---- by the two calls

pub changed_here : (database : Database) (kind : Kind) (index : ℕ) (reading : Reading) → is_in_range kind reading ≡ true
    → state_at (changed_of database kind index reading) kind index ≡ option_map (changed_state kind index reading) (state_at database kind index)
changed_here database kind index reading is =
    read_here (changed_state kind index reading) (is_in_range kind reading) database kind index is

pub set_here : (database : Database) (kind : Kind) (index : ℕ) (reading : Reading) → is_in_range kind reading ≡ true
    → state_at (set_of database kind index reading) kind index ≡ option_map (set_state reading) (state_at database kind index)
set_here database kind index reading is = read_here (set_state reading) (is_in_range kind reading) database kind index is

-- a reading out of range changes nothing
pub refused_here : (database : Database) (kind : Kind) (index : ℕ) (reading : Reading) → is_in_range kind reading ≡ false
    → state_at (changed_of database kind index reading) kind index ≡ state_at database kind index
refused_here database kind index reading is =
    refused (changed_state kind index reading) (is_in_range kind reading) database kind index is

pub changed_elsewhere : (database : Database) (kind other_kind : Kind) (index other : ℕ) (reading : Reading)
    → (kind ≢ other_kind) ⊎ (index ≢ other)
    → state_at (changed_of database kind index reading) other_kind other ≡ state_at database other_kind other
changed_elsewhere database kind other_kind index other reading apart =
    read_elsewhere (changed_state kind index reading) (is_in_range kind reading) database kind other_kind index other apart

pub set_elsewhere : (database : Database) (kind other_kind : Kind) (index other : ℕ) (reading : Reading)
    → (kind ≢ other_kind) ⊎ (index ≢ other)
    → state_at (set_of database kind index reading) other_kind other ≡ state_at database other_kind other
set_elsewhere database kind other_kind index other reading apart =
    read_elsewhere (set_state reading) (is_in_range kind reading) database kind other_kind index other apart
