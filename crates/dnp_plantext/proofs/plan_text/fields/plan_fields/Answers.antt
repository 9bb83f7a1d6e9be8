use Rattle.std.proofs.Common.{rules}
use Rattle.toml.specs.View.{view}
use Rattle.dnp_plantext.specs.PlanFields.{bool_under}
use Rattle.dnp_plantext.proofs.PlanNamed.{put_together}
use Rattle.dnp_plantext.proofs.plan_text.fields.plan_fields.Goals as goal

pub returns : goal.returns
unfolding bool_under
returns c = put_together (view c.args.table.now) _ (record {
  confirm_ms = search rules;
  response_ms = search rules;
  select_ms = search rules;
  retries = search rules;
  unsolicited = search rules;
  queue = search rules;
  queue2 = search rules;
  substations = search rules;
  keys = search rules;
})
