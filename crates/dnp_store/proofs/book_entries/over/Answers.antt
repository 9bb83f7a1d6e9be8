use Rattle.std.proofs.Common.{rules, nat_le, ◌∙◌}
use Rattle.std.proofs.lemmas.List.Sorted.{IsPartitionedBy-leb, IsPartitionPoint-from_clause}
use Rattle.dnp_controls.specs.declared.book.Entry.{Entry}
use Rattle.dnp_store.proofs.BookPlaces.{no_fall, over_kept}
use Rattle.dnp_store.proofs.book_entries.over.Goals as goal

pub returns : goal.returns
returns c =
    let split = IsPartitionPoint-from_clause (λ (e : Entry). nat_le e.id c.args.from) _ _ c.partition_point-count.ensures.partitioned
    (IsPartitionedBy-leb (λ (e : Entry). e.id) c.args.entries.now c.args.from (no_fall c.args.entries.now c.requires)) (λ a r q k. search rules) in
    c.split_at.ensures.back ∙ over_kept c.args.entries.now c.args.from c.partition_point-count.result split
