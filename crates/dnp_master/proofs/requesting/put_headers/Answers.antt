use Rattle.std.proofs.Common.{sym, subst}
use Rattle.dnp_appfragment.specs.Built.{Built}
use Rattle.dnp_appfragment.specs.Headers.{IsHeader}
use Rattle.dnp_appfragment.specs.Table.{form_of}
use Rattle.dnp_master.specs.Requests.{class_header}
use Rattle.dnp_master.proofs.RequestHeaders.{classes_fit}
use Rattle.dnp_master.proofs.requesting.put_headers.Goals as goal

pub put_classes-requires-clause-fits : goal.put_classes-requires-clause-fits
put_classes-requires-clause-fits c = λ class le has.
    subst (λ (b : Built). IsHeader (form_of b.function) (class_header class)) (sym c.requires.function)
    (classes_fit c.args.task.now c.in-Poll.classes c.in-Poll.is c.requires.good class le has)
