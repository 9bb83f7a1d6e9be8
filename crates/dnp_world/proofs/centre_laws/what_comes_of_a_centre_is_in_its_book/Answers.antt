-- By counts.
use Rattle.std.specs.Prelude.{nat_eq}
use Rattle.dnp_objects.specs.Equality.{command_eq}
use Rattle.dnp_world.proofs.FromThere.{from_there}
use Rattle.dnp_world.proofs.RelayWidths.{CommandLaws}
use Rattle.dnp_world.proofs.centre_laws.what_comes_of_a_centre_is_in_its_book.Goals as goal

laws_of : goal.After-link_law → CommandLaws
laws_of c = record {
  commands = c.equality_is_decided.ensures.commands;
  orders = c.equality_is_decided.ensures.pairs nat_eq command_eq c.equality_is_decided.ensures.numbers c.equality_is_decided.ensures.commands;
  performed = c.link_law.ensures.performed;
}

pub returns : goal.returns
returns c = λ s el steady. from_there (laws_of c) s steady
