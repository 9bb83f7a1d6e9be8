use Rattle.std.proofs.Common.{◌-◌, List, arith, sym, subst}
use Rattle.dnp_controls.specs.declared.book.Entry.{Entry}
use Rattle.dnp_controls.specs.steps.Places.{IsKept}
use Rattle.dnp_controls.proofs.Numbered.{entry_of-within, in_state-at, IsKept-in_state}
use Rattle.dnp_controls.proofs.plain_book.set_state.Goals as goal

pub overflow_sub-place : goal.overflow_sub-place
overflow_sub-place c = let within = entry_of-within c.args.entries.now 1 c.args.id c.requires.numbered c.requires.there in omega (arith, within)

pub returns-clause-set : goal.returns-clause-set
returns-clause-set c =
    let within = entry_of-within c.args.entries.now 1 c.args.id c.requires.numbered c.requires.there in
    in_state-at c.args.entries.now 1 c.args.id (c.args.id - 1) c.index-entries-place.result c.args.state c.requires.numbered (omega (arith, within)) (omega (arith, within))

pub returns-clause-kept : goal.returns-clause-kept
returns-clause-kept c = λ first done kept.
    let within = entry_of-within c.args.entries.now 1 c.args.id c.requires.numbered c.requires.there in
    let P : List Entry → Type 0 = λ es. IsKept es first in
    subst P (sym (in_state-at c.args.entries.now 1 c.args.id (c.args.id - 1) c.index-entries-place.result c.args.state c.requires.numbered (omega (arith, within)) (omega (arith, within))))
    (IsKept-in_state c.args.entries.now first c.args.id c.args.state done kept)

pub prove-unreachable-requires : goal.prove-unreachable-requires
prove-unreachable-requires c = let within = entry_of-within c.args.entries.now 1 c.args.id c.requires.numbered c.requires.there in omega (arith, within)
