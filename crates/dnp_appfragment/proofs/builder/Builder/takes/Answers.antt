use Rattle.std.proofs.Common.{◌≡◌, ◌∙◌, sym, ap, subst, ℕ, Option}
use Rattle.dnp_appfragment.specs.Built.{Built, context_of}
use Rattle.dnp_appfragment.specs.Headers.{IsHeader, common_of}
use Rattle.dnp_appfragment.specs.declared.function.Function.{Function}
use Rattle.dnp_appfragment.specs.Table.{form_of}
use Rattle.dnp_appfragment.specs.Seen.{head}
use Rattle.dnp_appfragment.proofs.Timed.{timed_is, timed_again}
use Rattle.dnp_appfragment.proofs.builder.Builder.takes.Goals as goal
use Rattle.dnp_appfragment.proofs.builder.Builder.takes.Goals.{then-fits, else-fits}

pub returns-then-is_same : goal.returns-then-is_same
returns-then-is_same c =
    let h = head c.args.header.now in
    elim c.if-fits.branch [
      | then-fits w ↦ (
        λ timed. record {
          header =
              subst (λ (f : Function). IsHeader (form_of f) h) (ap (λ (b : Built). b.function) c.self.view_is) (c.fits.ensures.0 w.if-fits.true);
          common =
              w.is_same.ensures.0 (sym w.value-is ∙ c.if-is_same.true) ∙ w.common_of.ensures
              ∙ ap (λ (o : Option ℕ). common_of o h.group h.variation) (c.self.invariant.1 ∙ ap context_of c.self.view_is);
          timed = timed_is h (sym c.is_timed.ensures ∙ timed);
        },
        λ is. c.is_timed.ensures ∙ timed_again h is.timed,
      )
      | else-fits w ↦ absurd (cc)
    ]
