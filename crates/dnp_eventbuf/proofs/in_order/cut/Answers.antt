use Rattle.std.proofs.Common.{rules, ◌∙◌}
use Rattle.std.proofs.lemmas.List.Sorted.{IsPartitionedBy-leb, IsPartitionPoint-from_clause}
use Rattle.dnp_eventbuf.specs.declared.numbered.Numbered.{Numbered}
use Rattle.dnp_eventbuf.proofs.InOrder.{is_up_to, no_fall, front_kept, back_kept}
use Rattle.dnp_eventbuf.proofs.in_order.cut.Goals as goal

pub returns-clause-front : goal.returns-clause-front
returns-clause-front c =
    let split = IsPartitionPoint-from_clause (is_up_to c.args.upto) _ _ c.partition_point-count.ensures.partitioned
    (IsPartitionedBy-leb (λ (x : Numbered). x.id) c.args.rows.now c.args.upto (no_fall c.args.rows.now c.requires.rising)) (λ a r q k. search rules) in
    c.split_at.ensures.front ∙ front_kept c.args.upto c.partition_point-count.result c.args.rows.now split

pub returns-clause-back : goal.returns-clause-back
returns-clause-back c =
    let split = IsPartitionPoint-from_clause (is_up_to c.args.upto) _ _ c.partition_point-count.ensures.partitioned
    (IsPartitionedBy-leb (λ (x : Numbered). x.id) c.args.rows.now c.args.upto (no_fall c.args.rows.now c.requires.rising)) (λ a r q k. search rules) in
    c.split_at.ensures.back ∙ back_kept c.args.upto c.partition_point-count.result c.args.rows.now split
