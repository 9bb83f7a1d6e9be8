use Rattle.std.proofs.Common.{◌≡◌, ◌-◌, ◌++◌}
use Rattle.dnp_appfragment.specs.Headers.{count_of}
use Rattle.dnp_appfragment.specs.Seen.{head}
use Rattle.dnp_decode.specs.FragmentLines.{objects_between, objects_from}
use Rattle.dnp_decode.proofs.fragment.push_objects.Given as goal

-- what is still to come
abbrev pub invariant-loop-k : goal.invariant-loop-k
invariant-loop-k l = record {
  end : l.k-end ≡ count_of l.header.range;
  all : l.out.items ++ objects_between (head l.header) l.k (count_of l.header.range - l.k) ≡ l.initial.out.items ++ objects_from (head l.header);
}
