-- Event by event.
use Rattle.dnp_world.proofs.LeftBooks.{left_books}
use Rattle.dnp_world.proofs.centre_laws.what_no_centre_does_leaves_the_books.Goals as goal

pub returns : goal.returns
returns c = left_books
