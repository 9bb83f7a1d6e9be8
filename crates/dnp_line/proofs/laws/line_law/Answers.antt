-- The clauses are what was proved of `Flows`.
use Rattle.std.proofs.Common.{ℕ, List, []}
use Rattle.dnp_line.specs.Ways.{new_way}
use Rattle.dnp_line.specs.Flows.{Flows}
use Rattle.dnp_line.proofs.Coming.{ComesTo-comes}
use Rattle.dnp_line.specs.steps.Lower.{Lower}
use Rattle.dnp_line.proofs.Flowing.{Goes, new_flows, opened_flows, goes, keeps_flowing}
use Rattle.dnp_line.proofs.laws.line_law.Goals as goal

pub returns : goal.returns
returns c =
    let low : Lower = c.what_lies_below.ensures in
    record {
      opened = new_flows low;
      reopened = opened_flows low;
      kept = λ old new event rest fl h.
          let g : Goes event old new rest = goes low old new event rest fl h in (g.left, g.moves, g.flows);
      came = λ way rest fl. fl.fragments.came;
      runs = λ own peer m events way h.
          let end : (left : List (List ℕ)) × Flows way left =
          keeps_flowing low (new_way own peer m) way events [] (new_flows low own peer m) h in
          ComesTo-comes way.given way.sent end.0 end.1.fragments.came;
      goes_on = λ old new events rest fl h. keeps_flowing low old new events rest fl h;
    }
