use Rattle.std.proofs.Common.{sym, subst, ap}
use Rattle.dnp_appfragment.specs.declared.function.Function.{Function}
use Rattle.dnp_appfragment.specs.Built.{context_of}
use Rattle.dnp_appfragment.specs.Table.{form_of}
use Rattle.dnp_appfragment.specs.Headers.{Head, IsHeaderAt}
use Rattle.dnp_outstation.specs.declared.offer.writer.Writer.{Writer}
use Rattle.dnp_outstation.specs.Content.{no_delay}
use Rattle.dnp_outstation.proofs.ContentOf.{delay_stands}
use Rattle.dnp_outstation.proofs.offer.writer.Writer.put_delay.Goals as goal

pub header-put-requires : goal.header-put-requires
header-put-requires c =
    let before = context_of c.args.self.now.builder in
    subst (λ (h : Head). IsHeaderAt (form_of c.args.self.now.builder.function) before h) (sym c.new-no_delay.ensures.value)
    (subst (λ (f : Function). IsHeaderAt (form_of f) before no_delay) (sym (ap (λ (w : Writer). w.builder.function) c.requires)) (delay_stands before))
