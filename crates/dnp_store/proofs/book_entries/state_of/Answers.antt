use Rattle.std.proofs.Common.{ap, sym, ◌∙◌}
use Rattle.std.specs.Prelude.{option_map}
use Rattle.dnp_controls.specs.declared.book.Entry.{Entry}
use Rattle.dnp_store.proofs.BookPlaces.{entry_at}
use Rattle.dnp_store.proofs.book_entries.state_of.Goals as goal

pub returns-in-Some : goal.returns-in-Some
returns-in-Some c =
    let d = c.index-entries-place.result in
    let at = entry_at c.args.entries.now c.in-Some.place d c.args.id c.requires c.in-Some.ensures.there.0 (c.in-Some.ensures.there.1 d) in
    sym (ap (λ o. option_map (λ (entry : Entry). entry.state) o) at)
