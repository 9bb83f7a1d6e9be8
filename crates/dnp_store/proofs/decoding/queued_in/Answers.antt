use Rattle.std.proofs.Common.{rules, refl, sym, subst, subst₂}
use Rattle.dnp_eventbuf.specs.FitsLane.{FitsLane}
use Rattle.dnp_store.specs.steps.Shown.{ShowsQueued}
use Rattle.dnp_store.proofs.Noting.{if_some}
use Rattle.dnp_store.proofs.Restoring.{fits_too}
use Rattle.dnp_store.proofs.decoding.queued_in.Goals as goal

pub returns-clause-value : goal.returns-clause-value
returns-clause-value c =
    if_some _ _ c.carried.result (λ y is. (subst₂ (ShowsQueued c.args.row.now) (sym is.0) (sym is.1) (search rules), subst FitsLane (sym is.1) is.2))
    c.carried.ensures.value

pub returns-clause-found : goal.returns-clause-found
returns-clause-found c id x long flags shows carried =
    c.carried.ensures.found (fits_too c.args.row.now id c.in_ok-id.id x _ shows (search rules) carried refl)
