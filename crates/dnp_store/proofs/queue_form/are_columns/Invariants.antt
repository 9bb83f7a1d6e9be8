use Rattle.std.proofs.Common.{◌≡◌, ◌<◌, ℕ, length}
use Rattle.std.specs.Prelude.{map, slice_index_or}
use Rattle.sqlite.specs.Kind.TheVariants.{Integer}
use Rattle.dnp_store.specs.Tables.{column_of, no_column}
use Rattle.dnp_store.proofs.queue_form.are_columns.Given as goal

-- the columns so far are as they are wanted
abbrev pub invariant-loop-number : goal.invariant-loop-number
invariant-loop-number l =
    (k : ℕ) → k < l.number → slice_index_or l.columns k no_column ≡ slice_index_or (map (λ w. column_of w.0.now Integer w.1) l.wanted) k no_column
