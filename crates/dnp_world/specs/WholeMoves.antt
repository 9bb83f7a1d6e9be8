-- Definition: what clean rounds over a link of a whole system move, as each centre sees it (own rule: IEEE Std 1815-2012 speaks of one
-- link at a time).
use Rattle.std.specs.Prelude.{◌≡◌, Bool, true, false}
use Rattle.dnp_eventbuf.specs.Sides.{ForEach}
use Rattle.dnp_world.specs.Centres.{centre_of, is_elsewhere}
use Rattle.dnp_world.specs.Movement.{RoundMoves}
use Rattle.dnp_world.specs.Systems.{System}
use Rattle.dnp_world.specs.Wholes.{Whole, seen_by}
use Rattle.dnp_world.specs.declared.event.Link.{Link}

-- nothing but the point that is reserved has changed
abbrev pub Rests : System → System → Type 0
Rests old new = new ≡ record old { concentrator = record old.concentrator { reserved = new.concentrator.reserved } }

abbrev pub MovesFor : Bool → Link → System → System → Type 0
MovesFor true on old new = Rests old new
MovesFor false on old new = RoundMoves on old new

-- Over a link above, what a round moves is the centre's there, and to the other one nothing moves. Over one below it moves rows into
-- the queues of both.
abbrev pub RoundMovesAll : Link → Whole → Whole → Type 0
RoundMovesAll on old new = ForEach (λ centre. MovesFor (is_elsewhere centre (centre_of on)) on (seen_by centre old) (seen_by centre new))
