use Rattle.std.proofs.Common.{refl, sym, ◌∙◌, subst}
use Rattle.dnp_appfragment.specs.Built.{context_of}
use Rattle.dnp_appfragment.specs.Headers.{Head, IsHeaderAt}
use Rattle.dnp_appfragment.specs.Table.{form_of}
use Rattle.dnp_master.specs.Requests.{class_header}
use Rattle.dnp_master.proofs.requesting.put_class.Goals as goal

pub put-requires-clause-fits : goal.put-requires-clause-fits
put-requires-clause-fits c =
    let f = form_of c.args.builder.now.function in
    let before = context_of c.args.builder.now in
    subst (λ (h : Head). IsHeaderAt f before h) (sym c.new-header.ensures.value)
    (record { header = c.requires.fits (sym c.has.ensures ∙ c.if-has.true); common = refl; timed = λ relative. absurd (cc) })
