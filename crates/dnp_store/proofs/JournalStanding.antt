-- What a journal's connection leaves.
use Rattle.std.proofs.Common.{inl, inr, IsTrue, ◌≡◌, ◌⊎◌, ◌≤◌, ℕ, Bool, true, false, cond, List, [], ◌∷◌, length, filter, take, nat_lt, min, Ok, Err, Result, refl, sym, ap, subst, ◌∙◌, arith}
use Rattle.std.proofs.Math.Seq.{take-nil}
use Rattle.std.proofs.lemmas.Bool.{cases_lt}
use Rattle.std.proofs.lemmas.List.{take_all}
use Rattle.std.proofs.lemmas.List.Elements.{recursion_from_All}
use Rattle.sqlite_trees.proofs.ListLemmas.{filter_none, all_weaker}
use Rattle.sqlite.specs.Effect.{Database}
use Rattle.dnp_eventbuf.specs.declared.numbered.Numbered.{Numbered}
use Rattle.dnp_store.proofs.JournalHolding.{archive_is, sound_of}
use Rattle.std.specs.Prelude.{OnOk}
use Rattle.sqlite.specs.Tree.{Trees}
use Rattle.sqlite.specs.declared.error.Error.{Error}
use Rattle.sqlite.specs.State.{State, HasCleanDisk, Survives}
use Rattle.dnp_objects.specs.declared.store.StoreFault.{StoreFault}
use Rattle.dnp_objects.specs.declared.store.StoreFault.TheVariants as fault
use Rattle.dnp_eventbuf.specs.Archive.{Archive, IsSoundArchive, rows_over}
use Rattle.dnp_eventbuf.specs.SinkCalls.{IsJournalCall, IsSinkCall}
use Rattle.dnp_store.specs.JournalTables.{HoldsArchive, IsJournal, archive_in}
use Rattle.dnp_store.specs.steps.JournalShown.{Finds, IsJournalFound}
use Rattle.dnp_store.specs.JournalKept.{JournalValue, JournalInvariant, IsHonestJournal, JournalStands, archive_of, held_archive}
use Rattle.dnp_store.proofs.Calling.{call_refused, call_stopped}
use Rattle.dnp_store.proofs.Statements.{leaves_committed, leaves_either}
use Rattle.sqlite_trees.specs.declared.store.Store.{Ghosts}
use Rattle.sqlite.specs.Held.{Held, state}

pub stands_if : (new : State) (a : Archive) (r : Result (Unit {0}) Error) → OnOk r (IsTrue new.is_open × IsJournal new.committed a)
    → OnOk r (JournalStands new a)
stands_if new a (Ok _) h = record { is_open = h.0; holds = h.1 }
stands_if new a (Err _) h = tt

-- what an open connection may leave is its last commit
pub leaves_last : (s : State) (a : Archive) → ((db : Trees) → IsTrue s.is_open → s.may_leave db → db ≡ s.committed.trees) → JournalStands s a → (db : Trees)
    → s.may_leave db → HoldsArchive db a
leaves_last s a settled stands = leaves_committed s (λ db. HoldsArchive db a) settled stands.is_open stands.holds.holds

-- a call and one that commits nothing leave what stood before, or what the first was to commit
pub either_of : (old mid new : State) (a : Archive) (next : Archive → Archive) → HasCleanDisk new → HasCleanDisk mid
    → ((db : Trees) → IsTrue old.is_open → old.may_leave db → db ≡ old.committed.trees) → JournalStands old a
    → Survives old mid (λ db. (b : Archive) → JournalStands old b → HoldsArchive db (next b)) → Survives mid new (λ _. ⊥) → (db : Trees) → new.may_leave db
    → HoldsArchive db a ⊎ HoldsArchive db (next a)
either_of old mid new a next clean early settled stands =
    leaves_either old mid new (λ db. HoldsArchive db a) (λ db. HoldsArchive db (next a)) (λ db. (b : Archive) → JournalStands old b → HoldsArchive db (next b))
    (λ db made. made a stands) clean early settled stands.is_open stands.holds.holds

-- where nothing was written, what stood is left, whatever was to come
pub leaves_before : (s : State) (a next : Archive) → ((db : Trees) → IsTrue s.is_open → s.may_leave db → db ≡ s.committed.trees) → JournalStands s a
    → (db : Trees) → s.may_leave db → HoldsArchive db a ⊎ HoldsArchive db next
leaves_before s a next settled stands db may = inl (leaves_last s a settled stands db may)

-- what is so of a journal is so as it is seen
module _ {S : Type 0} (g : Ghosts S) (inside seen : JournalValue S) (is : inside ≡ seen) where
  pub seen_stands : (inside.stopped ≡ false → IsTrue inside.owned → HasCleanDisk (state g inside.conn) → JournalStands (state g inside.conn)
      (held_archive g inside))
      → seen.stopped ≡ false → IsTrue seen.owned → HasCleanDisk (state g seen.conn) → JournalStands (state g seen.conn) (held_archive g seen)
  seen_stands = subst (λ (k : JournalValue S). k.stopped ≡ false → IsTrue k.owned → HasCleanDisk (state g k.conn) → JournalStands (state g k.conn)
      (held_archive g k)) is

  pub sink_stopped : {Answer : Type 0} → IsTrue inside.stopped
      → IsSinkCall {Answer = Answer} (IsHonestJournal g) (λ j. j.stopped) (λ old new. held_archive g new ≡ held_archive g old) seen seen (Err fault.Device)
  sink_stopped stopped = call_stopped seen (λ h. h.1) (λ h. tt) refl tt (subst (λ (k : JournalValue S). IsTrue k.stopped) is stopped)

  pub sink_refused : {Answer : Type 0} (e : StoreFault) → (e ≡ fault.Device → ⊥) → inside.stopped ≡ false
      → IsSinkCall {Answer = Answer} (IsHonestJournal g) (λ j. j.stopped) (λ old new. held_archive g new ≡ held_archive g old) seen seen (Err e)
  sink_refused e other serves = call_refused seen e other (subst (λ (k : JournalValue S). k.stopped ≡ false) is serves) (λ h. tt) refl tt

  pub journal_stopped : {Answer : Type 0} → IsTrue inside.stopped
      → IsJournalCall {Answer = Answer} (IsHonestJournal g) (λ j. j.stopped) (held_archive g) seen seen (Err fault.Device)
  journal_stopped stopped =
      let told = subst (λ (k : JournalValue S). IsTrue k.stopped) is stopped in
      call_stopped seen (λ h. h.1) (λ h. let serves = h.1 in absurd cc) refl tt told

-- ---- what is held is what the trees tell

pub told_is : (s : State) (a : Archive) (last : ℕ) → a.last_id ≡ last → JournalStands s a → archive_in s.committed.trees last ≡ a
told_is s a last is stands = ap (archive_in s.committed.trees) (sym is) ∙ archive_is s.committed.trees a stands.holds.holds

pub told_stands : (s : State) (a : Archive) (last : ℕ) → a.last_id ≡ last → JournalStands s a → JournalStands s (archive_in s.committed.trees last)
told_stands s a last is stands = subst (JournalStands s) (sym (told_is s a last is stands)) stands

pub found_is : (db : Database) (last count : ℕ) → Finds db last count → IsJournal db (archive_in db.trees last) × (count ≡ length (archive_in db.trees last).rows)
found_is db last count h =
    let is : archive_in db.trees last ≡ h.archive = ap (archive_in db.trees) (sym h.last_is) ∙ archive_is db.trees h.archive h.holds.holds in
    (subst (IsJournal db) (sym is) h.holds, sym h.count_is ∙ ap (λ (a : Archive). length a.rows) (sym is))

-- ---- rows over an id

pub over_none : (a : Archive) (from most : ℕ) → IsSoundArchive a → a.last_id ≤ from → rows_over a from most ≡ []
over_none a from most sound low =
    ap (take most) (filter_none (λ (x : Numbered). nat_lt from x.id) a.rows
    (all_weaker (λ (x : Numbered). x.id ≤ a.last_id) (λ (x : Numbered). nat_lt from x.id ≡ false) (λ x up. grind (up, low, arith)) a.rows
    (recursion_from_All (λ (x : Numbered). x.id ≤ a.last_id) a.rows sound.up_to_last))) ∙ take-nil most

shorter : (p : Numbered → Bool) (xs : List Numbered) → length (filter p xs) ≤ length xs
shorter p [] = omega arith
shorter p (x ∷ xs) = go (p x) (shorter p xs)
  where
    go : (b : Bool) → length (filter p xs) ≤ length xs → length (cond b (x ∷ filter p xs) (filter p xs)) ≤ length (x ∷ xs)
    go true h = omega arith
    go false h = omega arith

-- no more rows are asked for than there are
pub over_few : (a : Archive) (from most few : ℕ) → (few ≡ most) ⊎ ((few ≡ length a.rows) × (few ≤ most)) → rows_over a from few ≡ rows_over a from most
over_few a from most few (inl same) = ap (rows_over a from) same
over_few a from most few (inr all) =
    let xs = filter (λ (x : Numbered). nat_lt from x.id) a.rows in
    let short = shorter (λ (x : Numbered). nat_lt from x.id) a.rows in
    let long = all.0 in
    let low = all.1 in
    take_all few xs (omega arith) ∙ sym (take_all most xs (omega arith))

pub smaller : (m n few : ℕ) → few ≡ min m n → (few ≡ m) ⊎ ((few ≡ n) × (few ≤ m))
smaller m n few is = elim (cases_lt m n) [
  | inl less ↦ inl (omega (arith, is))
  | inr more ↦ inr (omega (arith, is), omega (arith, is))
]

-- ---- a journal at all times

module _ {S : Type 0} (g : Ghosts S) where
  pub sound_kept : (j : JournalValue S) → JournalInvariant g j.conn j.last_id j.count j.stopped j.owned → IsHonestJournal g j
      → IsSoundArchive (held_archive g j)
  sound_kept j k h = sound_of (state g j.conn).committed.trees (held_archive g j) (k.stands h.1 h.2 h.0).holds.holds (omega (arith, k.last_in_range))

  pub same_archive : (old new : Held S) (last : ℕ) → (state g new).committed ≡ (state g old).committed → archive_of g new last ≡ archive_of g old last
  same_archive old new last same = ap (λ (d : Database). archive_in d.trees last) same

  pub sound_still : (old new : Held S) (last : ℕ) → (state g new).committed ≡ (state g old).committed → IsSoundArchive (archive_of g old last)
      → IsSoundArchive (archive_of g new last)
  sound_still old new last same sound = subst IsSoundArchive (sym (same_archive old new last same)) sound

-- what an open found stands where the connection still serves
pub found_again : (old : Database) (new : State) (last count : ℕ) → IsTrue new.is_open → new.committed ≡ old → Finds old last count
    → IsJournalFound old new last count
found_again old new last count is_open same finds =
    let now = found_is new.committed last count (subst (λ (d : Database). Finds d last count) (sym same) finds) in record {
      found = subst (λ (d : Database). IsJournal d (archive_in new.committed.trees last)) same now.0;
      stands = record { is_open = is_open; holds = now.0 };
      many = now.1;
    }
