-- Definition: when a way is clear, so that what is sent on it comes out.
use Rattle.std.specs.Prelude.{◌≡◌, ℕ, false, List, [], map, replicate}
use Rattle.dnp_line.specs.Lines.{is_broken}
use Rattle.dnp_line.specs.Ports.{HasHistory}
use Rattle.dnp_line.specs.Ways.{Way, WayEvent, Send, Deliver}
use Rattle.dnp_line.specs.Flows.{AreFacing, segment_total}

-- its ports face each other, its sender is not mute, and its line is empty and unbroken; the receiver's port may have
-- heard and half built anything
pub record IsClear (way : Way) : Type 0 where
  pub facing : AreFacing way.sender way.receiver
  pub audible : way.mute ≡ false
  pub empty : way.line.units ≡ []
  pub unbroken : is_broken way.line ≡ false
  pub history : HasHistory way.receiver

-- the fragments are sent, one after the other
abbrev pub all_sent : List (List ℕ) → List WayEvent
all_sent fragments = map Send fragments

-- as many deliveries as the fragments have segments
abbrev pub all_delivered : List (List ℕ) → List WayEvent
all_delivered fragments = replicate (segment_total fragments) Deliver
