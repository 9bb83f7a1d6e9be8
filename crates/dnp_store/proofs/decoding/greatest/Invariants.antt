use Rattle.std.proofs.Common.{◌≤◌, ◌<◌, ℕ, ℤ, []}
use Rattle.std.specs.Prelude.{slice_index_or}
use Rattle.dnp_store.specs.steps.Shown.{IsMost, ShowsCountOf}
use Rattle.dnp_store.proofs.decoding.greatest.Given as goal

-- none of the rows so far notes more, and it is no more than is known of all
abbrev pub invariant-loop-row : goal.invariant-loop-row
invariant-loop-row l = record {
  most : (k : ℕ) → k < l.row-index → (id : ℤ) (n : ℕ) → ShowsCountOf l.table (slice_index_or l.rows k []) id n → n ≤ l.greatest;
  least : (n : ℕ) → IsMost l.table l.rows n → l.greatest ≤ n;
}
