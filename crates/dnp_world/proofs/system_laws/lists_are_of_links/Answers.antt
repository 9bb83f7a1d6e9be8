-- The laws that the body calls are what the lemmas ask for.
use Rattle.std.specs.Prelude.{nat_eq}
use Rattle.dnp_objects.specs.Counts.{IsEqualityTest}
use Rattle.dnp_objects.specs.Equality.{row_eq, command_eq, pair_eq}
use Rattle.dnp_world.proofs.Headline.{Laws, dropped_mapped, headline, journal_mapped, queue_mapped}
use Rattle.dnp_world.proofs.SystemBeginning.{fresh_behind}
use Rattle.dnp_world.proofs.Turning.{turned, fated, fates_joined, held_in_any_order}
use Rattle.std.proofs.Common.{refl}
use Rattle.dnp_world.proofs.system_laws.lists_are_of_links.Goals as goal

laws_of : goal.After-covered_is_by_counts-2 → Laws
laws_of c =
    let rows : IsEqualityTest (pair_eq nat_eq row_eq) =
    c.equality_is_decided.ensures.pairs nat_eq row_eq c.equality_is_decided.ensures.numbers c.equality_is_decided.ensures.rows in
    let commands : IsEqualityTest (pair_eq nat_eq command_eq) =
    c.equality_is_decided-2.ensures.pairs nat_eq command_eq c.equality_is_decided-2.ensures.numbers c.equality_is_decided-2.ensures.commands in
    record {
      links = record {
        covered = c.link_law.ensures.covered;
        stood = c.link_law.ensures.stood;
        whole = c.link_law.ensures.whole;
        performed = c.link_law.ensures.performed;
      };
      rows = λ xs ys. (c.covered_is_by_counts.ensures (pair_eq nat_eq row_eq) rows xs ys).1;
      commands = λ xs ys. (c.covered_is_by_counts-2.ensures (pair_eq nat_eq command_eq) commands xs ys).1;
      itself = λ x. (rows.decides x x).1 refl;
    }

pub returns-clause-holds : goal.returns-clause-holds
returns-clause-holds c = headline (laws_of c)

pub returns-clause-mapped : goal.returns-clause-mapped
returns-clause-mapped c = λ indices el links k b. record {
  queue = queue_mapped (laws_of c).links indices links k b;
  dropped = dropped_mapped (laws_of c).links indices links k b;
  journal = journal_mapped (laws_of c).links indices links k b;
}

pub returns-clause-at_first : goal.returns-clause-at_first
returns-clause-at_first c = fresh_behind c.link_law.ensures.start

pub returns-clause-kept : goal.returns-clause-kept
returns-clause-kept c = turned c.link_law.ensures.goes_on

pub returns-clause-fate : goal.returns-clause-fate
returns-clause-fate c = fated (laws_of c).links c.link_law.ensures.goes_on

pub returns-clause-joined : goal.returns-clause-joined
returns-clause-joined c = fates_joined

pub returns-clause-reordered : goal.returns-clause-reordered
returns-clause-reordered c = held_in_any_order
