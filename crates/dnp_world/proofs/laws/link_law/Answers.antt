-- The clauses are what was proved of `CarriesLaw`.
use Rattle.dnp_world.specs.Standing.{inventory}
use Rattle.dnp_world.proofs.EventLaw.{Laws, released_covered, took_rows_stood}
use Rattle.dnp_world.proofs.Keeping.{fresh_stands, move_stands, moves_stand}
use Rattle.dnp_world.proofs.laws.link_law.Goals as goal

pub returns-clause-start : goal.returns-clause-start
returns-clause-start c = fresh_stands

pub returns-clause-kept : goal.returns-clause-kept
returns-clause-kept c = move_stands

pub returns-clause-goes_on : goal.returns-clause-goes_on
returns-clause-goes_on c = moves_stand

pub returns-clause-covered : goal.returns-clause-covered
returns-clause-covered c =
    λ l s.
    let laws : Laws = record { members = c.members_are_covered.ensures; mapped = c.covered_is_kept_by_map.ensures } in
    released_covered laws (inventory l) s.rows

pub returns-clause-stood : goal.returns-clause-stood
returns-clause-stood c = λ l s. took_rows_stood (inventory l) s.rows

pub returns-clause-whole : goal.returns-clause-whole
returns-clause-whole c = λ l s. s.rows.whole

pub returns-clause-performed : goal.returns-clause-performed
returns-clause-performed c = λ l s. s.commands.covered

pub returns-clause-runs : goal.returns-clause-runs
returns-clause-runs c =
    λ old new fresh ms.
    let laws : Laws = record { members = c.members_are_covered.ensures; mapped = c.covered_is_kept_by_map.ensures } in
    released_covered laws (inventory new) (moves_stand old new ms (fresh_stands old fresh)).rows
