-- A database whose first tables are a store's three has them with the CHECKs that stand there.
use Rattle.std.proofs.Common.{◌≡◌, List, refl, sym, subst}
use Rattle.sqlite.specs.Schema.{Schema}
use Rattle.sqlite.specs.Term.{Term}
use Rattle.dnp_store.specs.Tables.{AreBehind, after_tables, checks_at, schema_of}
use Rattle.dnp_store.specs.declared.store_kind.StoreKind.{StoreKind}
use Rattle.dnp_store.specs.steps.Stores.{names_of, rows_with}

pub its_own : (s : Schema) (kind : StoreKind) (form rows : List Term) (more : Schema) → s ≡ schema_of form (rows_with kind rows) more
    → AreBehind (names_of kind) more
    → (s ≡ schema_of (checks_at s.tables 0) (rows_with kind (checks_at s.tables 1)) (after_tables 3 s)) × AreBehind (names_of kind) (after_tables 3 s)
its_own s kind form rows more has behind =
    subst (λ (t : Schema). (t ≡ schema_of (checks_at t.tables 0) (rows_with kind (checks_at t.tables 1)) (after_tables 3 t)) × AreBehind (names_of kind) (after_tables 3 t))
    (sym has) (refl, behind)
