use Rattle.std.proofs.Common.{refl, sym}
use Rattle.dnp_store.proofs.BookPlaces.{at_place, unset}
use Rattle.dnp_store.proofs.book_entries.set_state.Goals as goal

pub returns-in-Some : goal.returns-in-Some
returns-in-Some c =
    let d = c.index-entries-place.result in
    at_place c.args.entries.now c.in-Some.place d c.args.id c.args.control c.requires c.in-Some.ensures.there.0 (c.in-Some.ensures.there.1 d)

pub returns-in-None : goal.returns-in-None
returns-in-None c = sym (unset c.args.entries.now c.args.id c.args.control (c.in-None.ensures.missing refl))
