use Rattle.std.proofs.Common.{ap, sym, arith}
use Rattle.std.specs.Prelude.{option_map}
use Rattle.dnp_controls.proofs.Numbered.{entry_of-below, entry_of-past, entry_of-at}
use Rattle.dnp_controls.proofs.plain_book.state_of.Goals as goal

pub returns-then-id-eq0 : goal.returns-then-id-eq0
returns-then-id-eq0 c = sym (ap (λ o. option_map (λ entry. entry.state) o) (entry_of-below c.args.entries.now 1 c.args.id c.requires (omega arith)))

pub returns-then-place-entries : goal.returns-then-place-entries
returns-then-place-entries c =
    sym (ap (λ o. option_map (λ entry. entry.state) o) (entry_of-at c.args.entries.now 1 c.args.id _ c.index-entries-place.result c.requires c.if-place-entries.true (omega arith)))

pub returns-else-place-entries : goal.returns-else-place-entries
returns-else-place-entries c = sym (ap (λ o. option_map (λ entry. entry.state) o) (entry_of-past c.args.entries.now 1 c.args.id c.requires (omega arith)))
