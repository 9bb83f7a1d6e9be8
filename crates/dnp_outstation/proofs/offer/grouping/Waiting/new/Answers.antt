use Rattle.std.proofs.Common.{◌≡◌, ◌==◌, List, length, map, subst, sym}
use Rattle.dnp_outstation.specs.Layout.{Laid, fits_fragment}
use Rattle.dnp_outstation.specs.Offer.{longest, filled_with}
use Rattle.dnp_outstation.specs.steps.Filling.{empty_from, fill_laid}
use Rattle.dnp_outstation.specs.steps.Grouping.{opened, laid_from}
use Rattle.dnp_outstation.specs.steps.Grouping.Open.{Shut}
use Rattle.dnp_outstation.proofs.Coming.{laid_so}
use Rattle.dnp_outstation.proofs.Filled.{feed_offers}
use Rattle.dnp_outstation.proofs.offer.grouping.Waiting.new.Goals as goal

pub returns-clause-fills : goal.returns-clause-fills
returns-clause-fills c = λ may place items rows is.
    subst (λ (all : List Laid). fill_laid (empty_from place) (laid_from Shut (map (opened may) items))
    ≡ filled_with (length (longest fits_fragment all) == length all) place (longest fits_fragment all)) (sym is) (feed_offers may place items)

pub returns-clause-groups : goal.returns-clause-groups
returns-clause-groups c = laid_so
