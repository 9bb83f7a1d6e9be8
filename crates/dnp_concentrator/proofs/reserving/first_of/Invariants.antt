use Rattle.std.proofs.Common.{◌≡◌, ◌-◌}
use Rattle.std.specs.Prelude.{slice_get}
use Rattle.dnp_appfragment.specs.Headers.{count_of}
use Rattle.dnp_appfragment.specs.Seen.{head}
use Rattle.dnp_outstation.specs.Controls.{commands_from, commands_of}
use Rattle.dnp_concentrator.proofs.reserving.first_of.Given as goal

-- what is still to come
abbrev pub invariant-loop-k : goal.invariant-loop-k
invariant-loop-k l = record {
  end : l.k-end ≡ count_of l.header.range;
  first : slice_get (commands_from (head l.header) l.k (count_of l.header.range - l.k)) 0 ≡ slice_get (commands_of (head l.header)) 0;
}
