use Rattle.std.proofs.Common.{rules, ◌≡◌, ℕ, ◌-◌, ◌<◌, ◌≤◌, get_or, arith, sym, ◌∙◌, ap, Some}
use Rattle.std.proofs.lemmas.List.Sorted.{IsPartitionedBy-leb, IsPartitionPoint-from_clause}
use Rattle.dnp_pointdb.specs.declared.order.BlockPlace.{BlockPlace}
use Rattle.dnp_pointdb.proofs.Places.{begins, begun_below, begun_above, found_at, missed_at, missed_before}
use Rattle.dnp_pointdb.proofs.order.find.Goals as goal

-- a place, where one is wanted past the end of a list
abbrev no_place : BlockPlace
no_place = record { first = 0; count = 0; block = 0 }

pub overflow_sub-index : goal.overflow_sub-index
overflow_sub-index c =
    let split = IsPartitionPoint-from_clause (begins c.args.index) _ _ c.partition_point.ensures.partitioned
    (IsPartitionedBy-leb (λ (p : BlockPlace). p.first) c.args.order.now c.args.index c.requires) (λ a r q k. search rules) in
    begun_below c.args.order.now c.args.index c.partition_point.result split c.in_ok-last.last _ (omega (arith, c.in_ok-last.ensures))

pub returns-in_err-last : goal.returns-in_err-last
returns-in_err-last c = λ es o.
    let split = IsPartitionPoint-from_clause (begins c.args.index) _ _ c.partition_point.ensures.partitioned
    (IsPartitionedBy-leb (λ (p : BlockPlace). p.first) c.args.order.now c.args.index c.requires) (λ a r q k. search rules) in
    let none : c.partition_point.result < 1 = omega (arith, c.in_err-last.ensures) in
    c.from_residual.ensures ∙ sym (missed_before es c.args.order.now c.args.index no_place o
    (λ k lt. begun_above c.args.order.now c.args.index c.partition_point.result split k no_place (omega arith) lt))

pub returns-then-offset-place : goal.returns-then-offset-place
returns-then-offset-place c = λ es o.
    let split = IsPartitionPoint-from_clause (begins c.args.index) _ _ c.partition_point.ensures.partitioned
    (IsPartitionedBy-leb (λ (p : BlockPlace). p.first) c.args.order.now c.args.index c.requires) (λ a r q k. search rules) in
    let m : ℕ = c.in_ok-last.last in
    let low : (get_or c.args.order.now m no_place).first ≤ c.args.index =
    begun_below c.args.order.now c.args.index c.partition_point.result split m no_place (omega (arith, c.in_ok-last.ensures)) in
    let offset : c.from-offset.result ≡ c.args.index - (get_or c.args.order.now m no_place).first = c.from-offset.ensures in
    let short : c.from-offset.result < (get_or c.args.order.now m no_place).count = c.if-offset-place.true in
    ap (λ (n : ℕ). Some ((get_or c.args.order.now m no_place).block, n)) offset
    ∙ sym (found_at es c.args.order.now c.args.index m no_place o (omega (arith, c.in_ok-last.ensures)) low (omega arith))

pub returns-else-offset-place : goal.returns-else-offset-place
returns-else-offset-place c = λ es o.
    let split = IsPartitionPoint-from_clause (begins c.args.index) _ _ c.partition_point.ensures.partitioned
    (IsPartitionedBy-leb (λ (p : BlockPlace). p.first) c.args.order.now c.args.index c.requires) (λ a r q k. search rules) in
    let m : ℕ = c.in_ok-last.last in
    let low : (get_or c.args.order.now m no_place).first ≤ c.args.index =
    begun_below c.args.order.now c.args.index c.partition_point.result split m no_place (omega (arith, c.in_ok-last.ensures)) in
    let offset : c.from-offset.result ≡ c.args.index - (get_or c.args.order.now m no_place).first = c.from-offset.ensures in
    let long : (get_or c.args.order.now m no_place).count ≤ c.from-offset.result = c.if-offset-place.false in
    sym (missed_at es c.args.order.now c.args.index c.partition_point.result m no_place o (omega (arith, c.in_ok-last.ensures))
    c.partition_point.ensures.bound (λ k. begun_above c.args.order.now c.args.index c.partition_point.result split k no_place) low (omega arith))
