-- The law of a link is what the lemma asks for.
use Rattle.dnp_world.specs.Kept.{kept_in}
use Rattle.dnp_world.proofs.Headline.{LinkLaws, happened_stood}
use Rattle.dnp_world.proofs.happened_laws.what_happened_is_what_stood.Goals as goal

laws_of : goal.After-covered_is_by_counts-2 → LinkLaws
laws_of c = record {
  covered = c.link_law.ensures.covered;
  stood = c.link_law.ensures.stood;
  whole = c.link_law.ensures.whole;
  performed = c.link_law.ensures.performed;
}

pub returns : goal.returns
returns c = λ s el h substation. happened_stood (laws_of c) s.indices h.links (kept_in s) h.behind substation
