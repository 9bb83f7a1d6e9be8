-- Definition: the concentrators that stations on streams were lent, and what of them no call of theirs changes.
use base.Fml.{GName}
use Rattle.std.specs.Prelude.{ℕ, if◌then◌else◌, List}
use Rattle.std.specs.Borrow.{MutBor}
use Rattle.dnp_concentrator.specs.Concentrator.{core_of, links_of}
use Rattle.dnp_concentrator.specs.Relaying.{Relaying}
use Rattle.dnp_concentrator.specs.declared.concentrator.Concentrator.{Concentrator}
use Rattle.dnp_eventbuf.specs.Sides.{other_than}
use Rattle.dnp_outstation.specs.State.{Core}
use Rattle.dnp_streams.specs.declared.stream.above.Above.{Above}
use Rattle.dnp_streams.specs.declared.stream.below.Below.{Below}

-- the concentrator whose outstation it is
abbrev pub lent_above : {Q B : Type 0} → Above Q B → MutBor (Concentrator Q B)
lent_above s = s.concentrator

-- the number of the centre towards which it is the outstation
abbrev pub centre_of : {Q B : Type 0} → Above Q B → ℕ
centre_of s = if s.is_second then 1 else 0

-- the reference by which it holds the concentrator, that number, and what is not the outstation's: the links below, and the outstation
-- towards the other centre
pub record KeptAbove : Type 0 where
  pub reference : GName
  pub centre : ℕ
  pub links : List Relaying
  pub other : Core

abbrev pub kept_above : {Q B : Type 0} → Above Q B → KeptAbove
kept_above s = record {
  reference = s.concentrator.ghost_name;
  centre = centre_of s;
  links = links_of s.concentrator.now;
  other = core_of (other_than (centre_of s)) s.concentrator.now;
}

-- the concentrator whose link it is, and the number of the substation at the link's other end
abbrev pub lent_below : {Q B : Type 0} → Below Q B → MutBor (Concentrator Q B)
lent_below s = s.concentrator

abbrev pub substation_of : {Q B : Type 0} → Below Q B → ℕ
substation_of s = s.substation

-- the reference by which it holds the concentrator, and that number
pub record KeptBelow : Type 0 where
  pub reference : GName
  pub substation : ℕ

abbrev pub kept_below : {Q B : Type 0} → Below Q B → KeptBelow
kept_below s = record { reference = s.concentrator.ghost_name; substation = s.substation }
