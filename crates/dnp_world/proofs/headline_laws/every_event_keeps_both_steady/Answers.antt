-- By where it is.
use Rattle.dnp_world.proofs.Both.{AllLaws, every_event}
use Rattle.dnp_world.proofs.headline_laws.every_event_keeps_both_steady.Goals as goal

laws_of : goal.After-what_no_centre_does_leaves_the_books → AllLaws
laws_of c = record {
  goes = c.every_event_keeps_a_system_steady.ensures;
  elsewhere = c.what_is_elsewhere_keeps_a_system_steady.ensures;
  from = c.what_comes_of_a_centre_is_in_its_book.ensures;
  books = c.what_no_centre_does_leaves_the_books.ensures;
}

pub returns : goal.returns
returns c = λ old new event steady happens. every_event (laws_of c) old new event steady happens
