-- What a statement on the rows of a table makes of a database.
use Rattle.std.proofs.Common.{◌≡◌, ◌⊎◌, inl, inr, ℕ, List, [], Some, Bool, true, false, IsTrue, None, Ok, Err, Result, sym, ap, subst}
use Rattle.std.specs.Prelude.{MatchBool, slice_get}
use Rattle.sqlite_resolve.specs.declared.compiled.Compiled.{Compiled}
use Rattle.sqlite_resolve.specs.declared.error.CompileError.{CompileError}
use Rattle.sqlite.specs.declared.run.Mode.{Mode}
use Rattle.sqlite.specs.Command.{Command}
use Rattle.sqlite.specs.Tree.{Trees}
use Rattle.sqlite.specs.Effect.{Database}
use Rattle.sqlite.specs.Table.{Table}
use Rattle.sqlite.specs.Rows.{Task, Written, Part, Outcome}
use Rattle.sqlite.specs.Does.{Tally, WritesRows, OnRows, AtPlace}
use Rattle.sqlite.specs.declared.error.Error.{Error}
use Rattle.std.specs.Prelude.{OnOk}
use Rattle.sqlite.specs.State.{State, HasCleanDisk, Survives}
use Rattle.sqlite.specs.Given.{IsPlain}
use Rattle.sqlite.proofs.Callers.{command_of}
use Rattle.sqlite.proofs.StateLemmas.{survives_then}

-- a text is this command and no more (each part is read off one reading of the text)
abbrev pub IsRead : Command → Result Compiled CompileError → Type 0
IsRead command (Ok c) = (c.command ≡ command) × (c.returning ≡ None) × (c.formats ≡ [])
IsRead command (Err e) = ⊥

pub command_read : (command : Command) (u : Result Compiled CompileError) → IsRead command u → command_of u ≡ command
command_read command (Ok c) h = h.0
command_read command (Err e) h = absurd h

pub plain_read : (command : Command) (u : Result Compiled CompileError) → IsRead command u → IsPlain u
plain_read command (Ok c) h = (h.1, h.2)
plain_read command (Err e) h = absurd h

-- a part that gave a value did not stop on the way
pub went : {B E R : Type 0} {b : B} {Stops : E → Type 0} → ((stop : E) × Stops stop × (Ok b ≡ Err stop)) ⊎ R → R
went (inl stopped) = absurd (let e = stopped.2 in cc)
went (inr on) = on

pub same_value : {B E : Type 0} {a b : B} → ◌≡◌ {A = Result B E} (Ok a) (Ok b) → a ≡ b
same_value e = cc

pub picked : {X : Type 0} (Y : Type 0) (b : Bool) → b ≡ true → MatchBool b X Y → X
picked Y true is h = h
picked Y false is h = absurd cc

pub otherwise : {Y : Type 0} (X : Type 0) (b : Bool) → b ≡ false → MatchBool b X Y → Y
otherwise X true is h = absurd cc
otherwise X false is h = h

-- a statement without RETURNING leaves the trees that its rows make
pub written : (task : Task) (mode : Mode) (command : Command) (db : Trees) (tally : Tally) (now : Database) → OnRows task mode None command db (Ok (tally, now))
    → (a : Written) × WritesRows task db command (Ok a) × (now ≡ record { schema = task.schema; trees = a.trees })
written task mode command db tally now h =
    let wrote = went h in
    let tested = went wrote.2 in
    let shown = went tested.2 in
    (wrote.0, wrote.1, ap (λ (p : Tally × Database). p.1) (same_value shown.2))

-- a statement on the table at a place is one on that table
pub at_table : (P : Table → Part (Tally × Database)) (tables : List Table) (at : ℕ) (table : Table) (out : Outcome (Tally × Database))
    → slice_get tables at ≡ Some table → AtPlace P (slice_get tables at) out → P table out
at_table P tables at table out there h = subst (λ t. AtPlace P t out) there h

-- ---- transactions

pub second : (X Y : Type 0) (r : Result (Unit {0}) Error) → OnOk r (X × Y) → OnOk r Y
second X Y (Ok _) h = h.1
second X Y (Err _) h = tt

pub survives_as : (old new : State) (P Q : Trees → Type 0) → ((db : Trees) → P db → Q db) → Survives old new P → Survives old new Q
survives_as old new P Q more h = record {
  clean = h.clean;
  shield = h.shield;
  counts = h.counts;
  limit = h.limit;
  closes = h.closes;
  crash = λ clean db may. elim (h.crash clean db may) [ inl before ↦ inl before | inr made ↦ inr (more db made) ];
}

-- a call that commits nothing leaves no more than the one before it
pub survives_on : (old mid new : State) (P : Trees → Type 0) → Survives old mid P → Survives mid new (λ _. ⊥) → Survives old new P
survives_on old mid new P = survives_then old mid new P (λ _. ⊥) P (λ _ db made. made) (λ _ db none. absurd none)

-- what an open connection may leave is its last commit
pub leaves_committed : (s : State) (P : Trees → Type 0) → ((db : Trees) → IsTrue s.is_open → s.may_leave db → db ≡ s.committed.trees) → IsTrue s.is_open
    → P s.committed.trees → (db : Trees) → s.may_leave db → P db
leaves_committed s P settled is_open holds db may = subst P (sym (settled db is_open may)) holds

-- a call and one that commits nothing leave what stood before, or what the first was to commit
pub leaves_either : (old mid new : State) (P Q Commits : Trees → Type 0) → ((db : Trees) → Commits db → Q db) → HasCleanDisk new → HasCleanDisk mid
    → ((db : Trees) → IsTrue old.is_open → old.may_leave db → db ≡ old.committed.trees) → IsTrue old.is_open → P old.committed.trees
    → Survives old mid Commits → Survives mid new (λ _. ⊥) → (db : Trees) → new.may_leave db → P db ⊎ Q db
leaves_either old mid new P Q Commits commits clean early settled is_open holds one two db may = go (two.crash clean db may)
  where
    left : old.may_leave db ⊎ Commits db → P db ⊎ Q db
    left (inl before) = inl (leaves_committed old P settled is_open holds db before)
    left (inr after) = inr (commits db after)

    go : mid.may_leave db ⊎ ⊥ → P db ⊎ Q db
    go (inl may_mid) = left (one.crash early db may_mid)
    go (inr none) = absurd none
