use Rattle.std.proofs.Common.{rules, ◌≡◌, get_or, nat_lt, refl, arith, sym, ap, ◌∙◌}
use Rattle.std.proofs.lemmas.List.{get_or_default}
use Rattle.std.proofs.lemmas.List.Sorted.{IsPartitionedBy-ltb, IsPartitionPoint-from_clause}
use Rattle.dnp_controls.specs.declared.book.Entry.{Entry}
use Rattle.dnp_store.proofs.BookPlaces.{no_fall, none_there}
use Rattle.dnp_store.proofs.book_entries.place_of.Goals as goal

pub returns-then-place-entries-clause-missing : goal.returns-then-place-entries-clause-missing
returns-then-place-entries-clause-missing c none =
    let split = IsPartitionPoint-from_clause (λ (e : Entry). nat_lt e.id c.args.id) _ _ c.partition_point-place.ensures.partitioned
    (IsPartitionedBy-ltb (λ (e : Entry). e.id) c.args.entries.now c.args.id (no_fall c.args.entries.now c.requires)) (λ a r q k. search rules) in
    none_there c.args.entries.now c.args.id c.partition_point-place.result c.requires split (λ d low same. absurd (omega arith))

pub returns-else-entries-place-clause-missing : goal.returns-else-entries-place-clause-missing
returns-else-entries-place-clause-missing c none =
    let es = c.args.entries.now in
    let place = c.partition_point-place.result in
    let one = c.index-entries-place.result in
    let split = IsPartitionPoint-from_clause (λ (e : Entry). nat_lt e.id c.args.id) _ _ c.partition_point-place.ensures.partitioned
    (IsPartitionedBy-ltb (λ (e : Entry). e.id) es c.args.id (no_fall es c.requires)) (λ a r q k. search rules) in
    none_there es c.args.id place c.requires split
    (λ d low same. c.if-entries-place.false (ap (λ (e : Entry). e.id) (sym (get_or_default es place d one low)) ∙ same))
