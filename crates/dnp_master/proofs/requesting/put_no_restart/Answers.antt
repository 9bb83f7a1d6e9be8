use Rattle.std.proofs.Common.{refl, sym, subst}
use Rattle.dnp_appfragment.specs.Built.{context_of}
use Rattle.dnp_appfragment.specs.Headers.{Head, IsHeaderAt}
use Rattle.dnp_appfragment.specs.Table.{form_of}
use Rattle.dnp_appfragment.specs.declared.table.Form.{Form}
use Rattle.dnp_appfragment.specs.declared.table.Form.TheVariants as form
use Rattle.dnp_master.specs.Requests.{no_restart}
use Rattle.dnp_master.proofs.RequestHeaders.{no_restart_fits}
use Rattle.dnp_master.proofs.requesting.put_no_restart.Goals as goal

pub put-requires-clause-fits : goal.put-requires-clause-fits
put-requires-clause-fits c =
    let before = context_of c.args.builder.now in
    subst (λ (h : Head). IsHeaderAt (form_of c.args.builder.now.function) before h) (sym c.new-header.ensures.value)
    (subst (λ (f : Form). IsHeaderAt f before no_restart) (sym c.requires.function)
    (record { header = no_restart_fits; common = refl; timed = λ relative. absurd (cc) }))
