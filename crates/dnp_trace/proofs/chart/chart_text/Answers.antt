-- What is drawn stands between the head and the end.
use Rattle.std.proofs.Common.{◌≡◌, ◌++◌, arith, rules}
use Rattle.std.proofs.lemmas.Grind.{common_steps}
use Rattle.dnp_trace.proofs.chart.chart_text.Goals as goal

pub returns-clause-chart : goal.returns-clause-chart
returns-clause-chart c = (c.in_ok-drawn.drawn, grind (arith, common_steps))
