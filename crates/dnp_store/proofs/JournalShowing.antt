-- The last of a journal's rows, as an open looks at them, is no later than the last id used.
use Rattle.std.proofs.Common.{◌≡◌, ℕ, ◌≤◌, pos, List, [], ◌∷◌, ◌++◌, map, arith}
use Rattle.std.specs.List.{AllByRecursion}
use Rattle.std.proofs.lemmas.List.Sorted.{IsPermutation-sym}
use Rattle.sqlite_trees.proofs.ListLemmas.{all-permutation, all_weaker}
use Rattle.sqlite.specs.declared.types.Value.{Value}
use Rattle.sqlite.specs.declared.types.Value.TheVariants.{Int}
use Rattle.sqlite.specs.Tree.{Trees}
use Rattle.dnp_eventbuf.specs.Archive.{Archive}
use Rattle.dnp_store.specs.QueueTables.{Queued, queued_cells, queued_row}
use Rattle.dnp_store.specs.JournalTables.{HoldsArchive, IsLogged}
use Rattle.dnp_store.specs.steps.JournalShown.{Gathers}
use Rattle.dnp_store.proofs.IdRows as id_rows
use Rattle.dnp_store.proofs.JournalPaging.{front_of}

same_number : (m n : ℕ) → ◌≡◌ {A = Value} (Int (pos m)) (Int (pos n)) → m ≡ n
same_number m n e = cc

ids : (n : ℕ) (xs : List Queued) → AllByRecursion (id_rows.IsUnder n) (map queued_row xs) → AllByRecursion (λ (x : Queued). x.id ≤ n) xs
ids n [] h = tt
ids n (x ∷ xs) h = (let same : x.id ≡ h.0.0 = same_number x.id h.0.0 h.0.1 in let low = h.0.2 in omega arith, ids n xs h.1)

pub up_to_last : (db : Trees) (last count : ℕ) (a : Archive) → Gathers (db 1) last count → HoldsArchive db a → last ≤ a.last_id
up_to_last db last count a g holds =
    let low = all_weaker (IsLogged a.last_id) (λ (x : Queued). x.id ≤ a.last_id) (λ x h. h.up_to_last) holds.logged holds.in_range in
    let under = id_rows.are_under (λ (x : Queued). x.id) queued_cells holds.logged a.last_id (db 1) low holds.logged_is in
    let rows = map queued_row g.logged in
    let all = all-permutation (id_rows.IsUnder a.last_id) (db 1) (rows ++ g.others) (IsPermutation-sym (rows ++ g.others) (db 1) g.all) under in
    g.top a.last_id (ids a.last_id g.logged (front_of (id_rows.IsUnder a.last_id) rows g.others all))
