-- What an open finds in a queue's database.
use Rattle.sqlite_trees.specs.declared.store.Store.{Ghosts}
use Rattle.sqlite.specs.State.{State, HasCleanDisk, Survives}
use Rattle.sqlite.specs.Tree.{Trees}
use Rattle.dnp_store.specs.Added.{AreMadeBy, LeavesSecond, making_second}
use Rattle.sqlite.proofs.StateLemmas.{survives_then}
use Rattle.dnp_eventbuf.specs.Sound.{IsSoundBuffer}
use Rattle.dnp_store.specs.steps.Seconds.{Opens}
use Rattle.dnp_store.proofs.Once.{one_buffer}
use Rattle.std.proofs.Common.{drop, slice_index_or, ◌≡◌, ◌≤◌, ◌&&◌, ℕ, ℤ, pos, Bool, true, false, IsTrue, List, [], ◌∷◌, length, inl, inr, arith, refl, sym, ap, ap₂, subst, ◌∙◌}
use Rattle.sqlite.specs.declared.types.Value.TheVariants.{Int}
use Rattle.sqlite.specs.Order.{Row}
use Rattle.sqlite.specs.Term.{Term}
use Rattle.sqlite.specs.Schema.{Schema}
use Rattle.sqlite.specs.Table.{Table}
use Rattle.sqlite.specs.Effect.{Database, IsDatabase}
use Rattle.dnp_eventbuf.specs.EventBuffer.{EventBuffer, empty_buffer}
use Rattle.dnp_store.specs.declared.queue_opening.Stored.{Stored}
use Rattle.dnp_store.specs.declared.queue_opening.Stored.TheVariants.{One, Pair}
use Rattle.dnp_store.specs.declared.queue_side.QueueSide.TheVariants.{First}
use Rattle.dnp_store.specs.steps.Pairs.{HoldsAmong, checks_among}
use Rattle.dnp_store.specs.steps.Stored.{AreCounted, AreRead, IsOwned, IsShown, IsStored, number_of, owned_by}
use Rattle.dnp_store.specs.Tables.{AreBehind, checks_at}
use Rattle.dnp_store.specs.QueueTables.{IsQueue, IsUncounted, queue_schema}
use Rattle.dnp_store.specs.PairTables.{lanes_b_with, queue_b_with, Checks, HoldsPair, IsForm, IsPair, Sides, migrated, pair_names, pair_schema}

both_of : (a b : Bool) → IsTrue (a && b) → IsTrue a × IsTrue b
both_of true true is = (refl, refl)
both_of true false is = absurd cc
both_of false b is = absurd cc

-- the number of the one form is not the other's
pub no_number : (rows : List Row) (n : ℕ) → n ≡ 1 → IsForm n rows → IsForm 2 rows → ⊥
no_number rows n is one two =
    let same : (Int one.0 ∷ Int (pos n) ∷ []) ∷ [] ≡ (Int two.0 ∷ Int (pos 2) ∷ []) ∷ [] = sym one.1 ∙ two.1 in
    absurd (grind (arith, is, same))

-- lanes that the tables of one side hold, under the number of the form for one centre
pub shown_one : (db : Database) (f q l : List Term) (s : EventBuffer) → db.schema ≡ queue_schema f q l → IsForm 1 (db.trees 0)
    → HoldsAmong First db.trees (db.trees 2) s → IsQueue db s
shown_one db f q l s has form held = record {
  form_checks = f;
  queue_checks = q;
  lanes_checks = l;
  schema = has;
  holds = record { figures = held.figures; form = form; lanes = held.lanes; overflow = held.overflow };
}

-- whatever is counted
pub uncounted_one : (db : Database) (f q l : List Term) (s : EventBuffer) → db.schema ≡ queue_schema f q l → IsForm 1 (db.trees 0)
    → ((noting : List Row) × HoldsAmong First db.trees noting s) → IsUncounted db s
uncounted_one db f q l s has form held = record {
  form_checks = f;
  queue_checks = q;
  lanes_checks = l;
  schema = has;
  form = form;
  counts = held.0;
  figures = held.1.figures;
  lanes = held.1.lanes;
  overflow = held.1.overflow;
}

-- and back
pub among_queue : (db : Database) (s : EventBuffer) → IsQueue db s → HoldsAmong First db.trees (db.trees 2) s
among_queue db s is = record { figures = is.holds.figures; lanes = is.holds.lanes; overflow = is.holds.overflow }

-- the CHECKs of a queue's tables stand in their places
by_places : (s : Schema) (f q l : List Term) → s ≡ queue_schema f q l → s ≡ queue_schema (checks_at s.tables 0) (checks_at s.tables 1) (checks_at s.tables 3)
by_places s f q l is = subst (λ (x : Schema). x ≡ queue_schema (checks_at x.tables 0) (checks_at x.tables 1) (checks_at x.tables 3)) (sym is) refl

-- the first tables are a queue's, and are left alone
abbrev ArePairs : Schema → Checks → Type 0
ArePairs s c = (s ≡ pair_schema c) × AreBehind pair_names c.more

pairs_by_places : (s : Schema) (c : Checks) → s ≡ pair_schema c → AreBehind pair_names c.more → ArePairs s (checks_among s)
pairs_by_places s c is behind = subst (λ (x : Schema). ArePairs x (checks_among x)) (sym is) (refl, behind)

pub stored_is : (db : Database) (stored : Stored) (one pair : Bool) (c : Checks) → IsDatabase db
    → (IsTrue one → db.schema ≡ queue_schema (checks_at db.schema.tables 0) (checks_at db.schema.tables 1) (checks_at db.schema.tables 3))
    → (IsTrue pair → ArePairs db.schema c) → IsShown db stored → IsStored db (owned_by stored one pair)
stored_is db (One lanes counted) one pair c sound ours theirs shown = record {
  held = λ owned.
      let parts = both_of one counted owned in
      shown.held parts.1 _ _ _ sound (ours parts.0);
  stands = λ f q l is. shown.stands f q l sound is;
  no_pair = shown.no_pair sound;
}
stored_is db (Pair first second counted) one pair c sound ours theirs shown = λ owned.
    let parts = both_of pair counted owned in
    let are = theirs parts.0 in
    shown parts.1 c are.1 sound are.0

both_true : (a b : Bool) → IsTrue a → IsTrue b → IsTrue (a && b)
both_true true b here there = there
both_true false b here there = absurd cc

-- where the database holds lanes, it is their own
pub owned_is : (db : Database) (stored : Stored) (one pair : Bool) → IsDatabase db
    → (db.schema ≡ queue_schema (checks_at db.schema.tables 0) (checks_at db.schema.tables 1) (checks_at db.schema.tables 3) → IsTrue one)
    → (ArePairs db.schema (checks_among db.schema) → IsTrue pair) → AreCounted db stored → IsOwned db (owned_by stored one pair)
owned_is db (One lanes counted) one pair sound ours theirs are = λ s is.
    both_true one counted (ours (by_places db.schema is.form_checks is.queue_checks is.lanes_checks is.schema)) (are sound s is)
owned_is db (Pair first second counted) one pair sound ours theirs are = (
  λ sides is. both_true pair counted (theirs (pairs_by_places db.schema is.checks is.schema is.behind)) (are.0 sound sides is),
  are.1 sound,
)

-- its number is the one that was read
pub numbered_by : (stored : Stored) (one pair : Bool) → number_of (owned_by stored one pair) ≡ number_of stored
numbered_by (One lanes counted) one pair = refl
numbered_by (Pair first second counted) one pair = refl

-- it is what the queries show
pub read_by : {S : Type 0} (g : Ghosts S) (db : Database) (stored : Stored) (one pair : Bool) → AreRead g db stored → AreRead g db (owned_by stored one pair)
read_by g db (One lanes counted) one pair are = are
read_by g db (Pair first second counted) one pair are = are

-- the fifth and the sixth of six tables and more
pub two_more : (ts : List Table) (d a b : Table) → 6 ≤ length ts → a ≡ slice_index_or ts 4 a → b ≡ slice_index_or ts 5 b → a ≡ queue_b_with a.checks
    → b ≡ lanes_b_with b.checks
    → drop 4 ts ≡ queue_b_with (slice_index_or ts 4 d).checks ∷ lanes_b_with (slice_index_or ts 5 d).checks ∷ drop 6 ts
two_more [] d a b long = absurd (omega (arith, long))
two_more (t ∷ []) d a b long = absurd (omega (arith, long))
two_more (t ∷ u ∷ []) d a b long = absurd (omega (arith, long))
two_more (t ∷ u ∷ v ∷ []) d a b long = absurd (omega (arith, long))
two_more (t ∷ u ∷ v ∷ w ∷ []) d a b long = absurd (omega (arith, long))
two_more (t ∷ u ∷ v ∷ w ∷ x ∷ []) d a b long = absurd (omega (arith, long))
two_more (t ∷ u ∷ v ∷ w ∷ x ∷ y ∷ ts) d a b long = λ rows lanes rows_is lanes_is.
    ap₂ (λ (p q : Table). p ∷ q ∷ ts) (subst (λ (p : Table). p ≡ queue_b_with p.checks) rows rows_is) (subst (λ (p : Table). p ≡ lanes_b_with p.checks) lanes lanes_is)

-- ---- what is made of it

module _ {S : Type 0} (g : Ghosts S) (old mid new : State) (capacities : List ℕ) (same : HasCleanDisk mid → IsTrue mid.is_open → mid.committed ≡ old.committed)
    (opens : HasCleanDisk mid → IsTrue mid.is_open) (settled : IsTrue mid.is_open → mid.now ≡ mid.committed) (found : Survives old mid (λ _. ⊥))
    (made : Survives mid new (λ db. ((s : EventBuffer) → Opens mid s → HoldsPair db (migrated s capacities)) × AreMadeBy g (making_second capacities) mid.now db)) where
  early : HasCleanDisk new → HasCleanDisk mid
  early clean = omega (arith, clean, made.clean)

  opens_by : HasCleanDisk new → (s : EventBuffer) → IsQueue old.committed s → Opens mid s
  opens_by clean s is = record { is_open = opens (early clean); holds = subst (λ (d : Database). IsQueue d s) (sym (same (early clean) (opens (early clean)))) is }

  -- what was read is what the transaction began with
  pub begins_with : HasCleanDisk new → mid.now ≡ old.committed
  begins_with clean = settled (opens (early clean)) ∙ same (early clean) (opens (early clean))

  abbrev Commits : Trees → Type 0
  Commits db = ((s : EventBuffer) → Opens mid s → HoldsPair db (migrated s capacities)) × AreMadeBy g (making_second capacities) mid.now db

  pub survives_made : Survives old new (LeavesSecond g old.committed capacities)
  survives_made =
      survives_then old mid new (λ _. ⊥) Commits (LeavesSecond g old.committed capacities) (λ _ db none. absurd none)
      (λ clean db holds. (λ s is. holds.0 s (opens_by clean s is), subst (λ d. AreMadeBy g (making_second capacities) d db) (begins_with clean) holds.1)) found made

  pub survives_unmade : (HasCleanDisk mid → ⊥) → Survives old new (λ _. ⊥)
  survives_unmade none =
      survives_then old mid new (λ _. ⊥) Commits (λ _. ⊥) (λ _ db no. no) (λ clean db holds. none (early clean)) found made

-- the lanes of a queue for one centre are those that were read
pub moved : (db : Database) (lanes : EventBuffer) (capacities : List ℕ) → IsSoundBuffer lanes → IsQueue db lanes → (buffer : EventBuffer)
    → IsSoundBuffer buffer → IsQueue db buffer
    → record { first = lanes; second = empty_buffer capacities } ≡ migrated buffer capacities
moved db lanes capacities sound is buffer sounds other =
    ap (λ (s : EventBuffer). migrated s capacities) (one_buffer db.trees lanes buffer sound sounds is.holds other.holds)
