use Rattle.std.proofs.Common.{◌≡◌, ◌≤◌, ◌+◌, ◌++◌, length}
use Rattle.dnp_objects.specs.declared.limits.TheConstants.{MAX_FRAGMENT}
use Rattle.dnp_appfragment.specs.declared.function.Function.TheVariants as function
use Rattle.dnp_appfragment.specs.declared.table.Form.TheVariants as form
use Rattle.dnp_appfragment.specs.Built.{heads, size}
use Rattle.dnp_appfragment.specs.Headers.{Context, AreHeaders, spelled}
use Rattle.dnp_outstation.specs.Controls.{headers_with}
use Rattle.dnp_outstation.specs.steps.Deciding.{code_by}
use Rattle.dnp_outstation.proofs.offer.writer.Writer.put_answers.Given as goal

-- what is still to come
abbrev pub invariant-loop-header : goal.invariant-loop-header
invariant-loop-header g l = record {
  whole : (context : Context) × AreHeaders form.Command context l.header-iterator.headers;
  response : l.self.builder.function ≡ function.Response;
  room : size l.self.builder + length (spelled l.header-iterator.headers) ≤ MAX_FRAGMENT;
  all : heads l.self.builder ++ headers_with (code_by (g.O.Outputs.panel l.outputs) l.told) l.header-iterator.headers
      ≡ heads l.initial.self.builder ++ headers_with (code_by (g.O.Outputs.panel l.outputs) l.told) l.initial.header-iterator.headers;
  upto : l.self.upto ≡ l.initial.self.upto;
}
