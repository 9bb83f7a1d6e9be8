-- Definition: the law of a link: what was handed out and what waits to be sent is what its steps sent, on the frames of what came.
use Rattle.std.specs.Prelude.{◌≡◌, ℕ, ◌≤◌, List, [], ◌∷◌, ◌++◌, length}
use Rattle.dnp_line.specs.Ports.{PortState}
use Rattle.dnp_linkframe.specs.declared.frame.Frame.{Frame}
use Rattle.dnp_linkframe.specs.Stream.{Gives}
use Rattle.dnp_streams.specs.streams.Spelled.{AreSpelled}
use Rattle.dnp_streams.specs.links.Deeds.{Deed, CarriesAll, frames_in}
use Rattle.dnp_streams.specs.links.Links.{LinkState, Feeds, Does, after_sent}

-- From this port on these steps were made, while these octets came and these were handed out; so the link stands.
pub record Stands (began : PortState) (deeds : List Deed) (received handed : List ℕ) (link : LinkState) : Type 0 where
  pub frames : List Frame
  pub carries : CarriesAll began deeds frames link.port
  pub spelled : AreSpelled frames (handed ++ link.pending)
  pub gives : Gives received (frames_in deeds ++ link.waiting) link.partial

-- ---- over all that is done with a link

-- octets came; a step was made; so many octets were handed out
pub data Event : Type 0 where
  Fed : (octets : List ℕ) → Event
  Made : (deed : Deed) → Event
  Handed : (count : ℕ) → Event

abbrev pub Happens : LinkState → Event → LinkState → Type 0
Happens old (Fed octets) new = Feeds old octets new
Happens old (Made deed) new = Does old deed new
Happens old (Handed count) new = (count ≤ length old.pending) × (new ≡ after_sent old count)

abbrev pub HappenAll : LinkState → List Event → LinkState → Type 0
HappenAll old [] new = new ≡ old
HappenAll old (event ∷ events) new = (next : LinkState) × Happens old event next × HappenAll next events new

abbrev pub deeds_in : List Event → List Deed
deeds_in [] = []
deeds_in (Made deed ∷ events) = deed ∷ deeds_in events
deeds_in (Fed octets ∷ events) = deeds_in events
deeds_in (Handed count ∷ events) = deeds_in events

abbrev pub fed_in : List Event → List ℕ
fed_in [] = []
fed_in (Made deed ∷ events) = fed_in events
fed_in (Fed octets ∷ events) = octets ++ fed_in events
fed_in (Handed count ∷ events) = fed_in events
