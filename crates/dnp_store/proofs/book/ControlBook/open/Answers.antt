use Rattle.std.proofs.Common.{arith}
use Rattle.dnp_store.proofs.Beginning.{inside_not, inside_wrong}
use Rattle.dnp_store.proofs.BookPlaces.{past_none}
use Rattle.dnp_store.proofs.book.ControlBook.open.Goals as goal

pub invariant_of-result : goal.invariant_of-result
invariant_of-result g c = record {
  idle = c.in-Ok.ensures.found.begins.idle;
  sound = c.in-Ok.ensures.sound.0;
  past = past_none c.find_book.new.entries.items;
  last_in_range = c.in-Ok.ensures.sound.1;
  stands = λ _ own clean. (c.in-Ok.ensures.found.found clean own).stands;
}

pub returns-in-Ok-clause-inside : goal.returns-in-Ok-clause-inside
returns-in-Ok-clause-inside g c inside = inside_not g.S.Store _ c.args.conn c.find_book.new.conn _ c.in-Ok.ensures.found.begins inside

pub returns-in-Err-clause-inside : goal.returns-in-Err-clause-inside
returns-in-Err-clause-inside g c inside = inside_wrong g.S.Store _ c.args.conn c.find_book.new.conn c.in-Err.fault c.in-Err.ensures.found.begins inside

pub returns-in-Ok-clause-held : goal.returns-in-Ok-clause-held
returns-in-Ok-clause-held g c clean = omega (arith, clean, c.in-Ok.ensures.found.begins.survives.clean)

pub returns-in-Ok-clause-found : goal.returns-in-Ok-clause-found
returns-in-Ok-clause-found g c clean own = (c.in-Ok.ensures.found.found clean own).found

pub returns-in-Ok-clause-stands : goal.returns-in-Ok-clause-stands
returns-in-Ok-clause-stands g c clean own = (c.in-Ok.ensures.found.found clean own).stands

pub returns-in-Ok-clause-unwritten : goal.returns-in-Ok-clause-unwritten
returns-in-Ok-clause-unwritten g c = c.in-Ok.ensures.found.begins.survives

pub returns-in-Err-clause-same : goal.returns-in-Err-clause-same
returns-in-Err-clause-same g c = c.in-Err.ensures.found.begins.same

pub returns-in-Err-clause-left : goal.returns-in-Err-clause-left
returns-in-Err-clause-left g c = c.in-Err.ensures.found.begins.survives

pub returns-in-Err-clause-handed_back : goal.returns-in-Err-clause-handed_back
returns-in-Err-clause-handed_back g c = (c.in-Err.ensures.found.begins.kept, c.in-Err.ensures.found.begins.survives.limit)

pub returns-in-Err-clause-current : goal.returns-in-Err-clause-current
returns-in-Err-clause-current g c = c.in-Err.ensures.found.current

pub returns-in-Ok-clause-numbered : goal.returns-in-Ok-clause-numbered
returns-in-Ok-clause-numbered g c = c.in-Ok.ensures.numbered

pub returns-in-Ok-clause-entries : goal.returns-in-Ok-clause-entries
returns-in-Ok-clause-entries g c = c.in-Ok.ensures.entries
