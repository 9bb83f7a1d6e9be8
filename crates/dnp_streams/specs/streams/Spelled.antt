-- Definition: the octets in which a port sends fragments: those of their frames, one after the other (IEEE Std
-- 1815-2012, transport function over data link layer).
use Rattle.std.specs.Prelude.{◌≡◌, ℕ, List, [], ◌∷◌, length}
use Rattle.std.specs.List.{concat}
use Rattle.dnp_linkframe.specs.declared.frame.Frame.{Frame}
use Rattle.dnp_linkframe.specs.Stream.{SpellEach}
use Rattle.dnp_linkstation.specs.Station.{ends}
use Rattle.dnp_transport.specs.Cuts.{cut_count}
use Rattle.dnp_line.specs.Ports.{PortState, moved_on}
use Rattle.dnp_streams.specs.Units.{frames_of}

-- the octets are the units that spell these frames, one after the other
pub record AreSpelled (frames : List Frame) (octets : List ℕ) : Type 0 where
  pub units : List (List ℕ)
  pub spell : SpellEach units frames
  pub joined : octets ≡ concat units

-- the frames in which a port sends fragments, in order
abbrev pub sent_frames : PortState → List (List ℕ) → List Frame
sent_frames p fragments = frames_of (ends p.link) p.number fragments

-- the port after that: its number has moved on over their segments
abbrev pub port_after : PortState → List (List ℕ) → PortState
port_after p [] = p
port_after p (fragment ∷ fragments) = port_after (moved_on (cut_count (length fragment)) p) fragments
