use Rattle.std.proofs.Common.{◌≡◌, ◌-◌, ◌*◌, ◌++◌, drop, length}
use Rattle.dnp_appfragment.specs.Seen.{head}
use Rattle.dnp_outstation.specs.Controls.{answered_from}
use Rattle.dnp_outstation.specs.steps.Deciding.{code_by}
use Rattle.dnp_outstation.proofs.controls.told.fill.Given as goal

-- what is still to come
abbrev pub invariant-loop-k : goal.invariant-loop-k
invariant-loop-k g l = record {
  left : l.rest ≡ drop (l.k * l.size) l.header.octets.now;
  long : length l.octets.items ≡ l.k * l.size;
  all : l.octets.items ++ answered_from (code_by (g.O.Outputs.panel l.outputs) l.told) (head l.header) l.k (l.count - l.k)
      ≡ answered_from (code_by (g.O.Outputs.panel l.outputs) l.told) (head l.header) 0 l.count;
}
