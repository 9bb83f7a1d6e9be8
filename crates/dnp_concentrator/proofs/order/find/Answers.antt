use Rattle.std.proofs.Common.{rules, ℕ, ◌-◌, ◌<◌, ◌≤◌, get_or, arith, ◌∙◌}
use Rattle.std.proofs.lemmas.List.Sorted.{IsPartitionedBy-leb, IsPartitionPoint-from_clause}
use Rattle.dnp_concentrator.specs.declared.order.SpanPlace.{SpanPlace}
use Rattle.dnp_concentrator.proofs.Orders.{FindsEach, begins, begun_below, begun_above, found_below, missed_below, missed_all}
use Rattle.dnp_concentrator.proofs.order.find.Goals as goal

-- a place, where one is wanted past the end of a list
abbrev no_place : SpanPlace
no_place = record { first = 0; count = 0; substation = 0 }

pub overflow_sub-offset : goal.overflow_sub-offset
overflow_sub-offset c =
    let split = IsPartitionPoint-from_clause (begins c.args.index) _ _ c.partition_point.ensures.partitioned
    (IsPartitionedBy-leb (λ (p : SpanPlace). p.first) c.args.order.now c.args.index c.requires) (λ a r q k. search rules) in
    begun_below c.args.order.now c.args.index c.partition_point.result split c.in_ok-last.last _ (omega (arith, c.in_ok-last.ensures))

pub returns-in_err-last : goal.returns-in_err-last
returns-in_err-last c = λ kind spans o.
    let split = IsPartitionPoint-from_clause (begins c.args.index) _ _ c.partition_point.ensures.partitioned
    (IsPartitionedBy-leb (λ (p : SpanPlace). p.first) c.args.order.now c.args.index c.requires) (λ a r q k. search rules) in
    let none : c.partition_point.result < 1 = omega (arith, c.in_err-last.ensures) in
    let law : FindsEach = record { found = c.an_order_finds_each_index.ensures.found; behind = c.an_order_finds_each_index.ensures.behind; before = c.an_order_finds_each_index.ensures.before } in
    c.from_residual.ensures ∙ missed_all law kind spans c.args.order.now c.args.index no_place o
    (λ k lt. begun_above c.args.order.now c.args.index c.partition_point.result split k no_place (omega arith) lt)

pub returns-then-from-place : goal.returns-then-from-place
returns-then-from-place c = λ kind spans o.
    let split = IsPartitionPoint-from_clause (begins c.args.index) _ _ c.partition_point.ensures.partitioned
    (IsPartitionedBy-leb (λ (p : SpanPlace). p.first) c.args.order.now c.args.index c.requires) (λ a r q k. search rules) in
    let m : ℕ = c.in_ok-last.last in
    let low : (get_or c.args.order.now m no_place).first ≤ c.args.index =
    begun_below c.args.order.now c.args.index c.partition_point.result split m no_place (omega (arith, c.in_ok-last.ensures)) in
    let short : c.args.index - (get_or c.args.order.now m no_place).first < (get_or c.args.order.now m no_place).count =
    omega (arith, c.if-from-place.true, c.from.ensures) in
    let law : FindsEach = record { found = c.an_order_finds_each_index.ensures.found; behind = c.an_order_finds_each_index.ensures.behind; before = c.an_order_finds_each_index.ensures.before } in
    found_below law kind spans c.args.order.now c.args.index m no_place o (omega (arith, c.in_ok-last.ensures, c.partition_point.ensures.bound)) low (omega arith)

pub returns-else-from-place : goal.returns-else-from-place
returns-else-from-place c = λ kind spans o.
    let split = IsPartitionPoint-from_clause (begins c.args.index) _ _ c.partition_point.ensures.partitioned
    (IsPartitionedBy-leb (λ (p : SpanPlace). p.first) c.args.order.now c.args.index c.requires) (λ a r q k. search rules) in
    let m : ℕ = c.in_ok-last.last in
    let low : (get_or c.args.order.now m no_place).first ≤ c.args.index =
    begun_below c.args.order.now c.args.index c.partition_point.result split m no_place (omega (arith, c.in_ok-last.ensures)) in
    let long : (get_or c.args.order.now m no_place).count ≤ c.args.index - (get_or c.args.order.now m no_place).first =
    omega (arith, c.if-from-place.false, c.from.ensures) in
    let law : FindsEach = record { found = c.an_order_finds_each_index.ensures.found; behind = c.an_order_finds_each_index.ensures.behind; before = c.an_order_finds_each_index.ensures.before } in
    missed_below law kind spans c.args.order.now c.args.index c.partition_point.result m no_place o (omega (arith, c.in_ok-last.ensures))
    c.partition_point.ensures.bound (λ k. begun_above c.args.order.now c.args.index c.partition_point.result split k no_place) low (omega arith)
