use Rattle.std.proofs.Common.{◌≡◌, ℕ, ◌+◌, ◌-◌, nat_lt}
use Rattle.std.specs.List.{list_all, range_with_len}
use Rattle.dnp_objects.specs.declared.limits.TheConstants.{MAX_TIME}
use Rattle.dnp_appfragment.specs.Headers.{count_of, time_after}
use Rattle.dnp_appfragment.specs.Reading.{are_under}
use Rattle.dnp_appfragment.specs.Seen.{head}
use Rattle.dnp_appfragment.proofs.common.are_under.Given as goal

-- those still to be looked at decide
abbrev pub invariant-loop-k : goal.invariant-loop-k
invariant-loop-k l =
    list_all (λ (j : ℕ). nat_lt (l.common + time_after (head l.header) j) MAX_TIME) (range_with_len l.k (count_of l.header.range - l.k))
    ≡ are_under (head l.header) l.common
