use Rattle.std.proofs.Common.{◌≡◌, ◌∙◌, sym, subst, Option, IfSome}
use Rattle.dnp_appfragment.specs.declared.function.Function.{Function}
use Rattle.dnp_appfragment.specs.Table.{function_octet}
use Rattle.dnp_appfragment.proofs.Functions.{function_found, function_only}
use Rattle.dnp_appfragment.proofs.function.Function.of_octet.Goals as goal

pub returns-clause-found : goal.returns-clause-found
returns-clause-found c =
    subst (λ (o : Option Function). IfSome o (λ f. function_octet f ≡ c.args.octet)) (sym c.line_of.ensures) (function_found c.args.octet)

pub returns-clause-only : goal.returns-clause-only
returns-clause-only c = λ f is. c.line_of.ensures ∙ function_only c.args.octet f is
