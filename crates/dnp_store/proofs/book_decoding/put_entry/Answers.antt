use Rattle.std.proofs.Common.{rules, ◌≡◌, ◌++◌, ◌∷◌, []}
use Rattle.dnp_controls.specs.declared.book.Entry.{Entry}
use Rattle.dnp_store.specs.BookTables.{FitsControl}
use Rattle.dnp_store.specs.steps.BookShown.{ShowsEntry}
use Rattle.dnp_store.proofs.book_decoding.put_entry.Goals as goal

pub returns-clause-put : goal.returns-clause-put
returns-clause-put c =
    let entry : Entry = record { id = c.in-Some.id; target = c.in-Some.target; command = c.in-Some.command; state = c.in-Some.state } in
    let shows : ShowsEntry c.args.row.now entry = search rules in
    let fits : FitsControl entry = search rules in
    let items : c.push-room.new.self.items ≡ c.args.entries.now.items ++ entry ∷ [] = search rules in
    (entry, shows, fits, items)
