-- Definition: the node of an outstation: the outstation, and its one link.
use Rattle.std.specs.Prelude.{ℕ, List, Option, option_map}
use Rattle.dnp_controls.specs.Panel.{Panel}
use Rattle.dnp_eventbuf.specs.EventBuffer.{EventBuffer}
use Rattle.dnp_objects.specs.declared.command.Command.{Command}
use Rattle.dnp_outstation.specs.Parts.{lanes_of, outputs_of}
use Rattle.dnp_outstation.specs.declared.outstation.Outstation.{Outstation}
use Rattle.dnp_streams.specs.links.Deeds.{Ways, ways}
use Rattle.dnp_streams.specs.links.Laws.{Event}
use Rattle.dnp_streams.specs.links.Links.{LinkState}
use Rattle.dnp_streams.specs.streams.Dialogues.{asks_nothing}
use Rattle.dnp_streams.specs.streams.Lives.{outstation_lives}
use Rattle.dnp_streams.specs.streams.Outstations.{Seen, hung_up_of, outstation_opens, outstation_receives, seen_of}
use Rattle.dnp_nodes.specs.Callees.{Calls, IsCut}
use Rattle.dnp_nodes.specs.declared.callee.Callee.{Callee}
use Rattle.dnp_nodes.specs.declared.outstation_node.OutstationNode.{OutstationNode}
use Rattle.dnp_nodes.specs.declared.report.Reports.{Reports}
use Rattle.dnp_nodes.specs.declared.slot.Closing.{Closing}
use Rattle.dnp_nodes.specs.declared.slot.Slot.{Slot}
use Rattle.dnp_nodes.specs.declared.slot.Want.{Want}
use Rattle.dnp_nodes.specs.declared.slot.Wanted.{Wanted}

-- ---- what it is made of

abbrev pub outstation_in : {L O : Type 0} → OutstationNode L O → Outstation L O
outstation_in n = n.outstation

abbrev pub slot_in : {L O : Type 0} → OutstationNode L O → Slot
slot_in n = n.slot

abbrev pub link_in : {L O : Type 0} → OutstationNode L O → Callee
link_in n = n.link

abbrev pub reports_in : {L O : Type 0} → OutstationNode L O → Reports
reports_in n = n.shared.reports

-- its link became another
abbrev pub with_link : {L O : Type 0} → OutstationNode L O → Callee → OutstationNode L O
with_link n link = record n { link = link }

-- ---- what its calls are

abbrev pub outstation_ways : {O : Type 0} → (O → Panel) → (O → List Command → O → Type 0) → Ways Seen
outstation_ways panel performs = ways outstation_opens (outstation_receives panel performs) asks_nothing outstation_lives

-- its lanes and its outputs have given back so far what was written to them
abbrev pub IsHonest : {L O : Type 0} → (L → Type 0) → (O → Type 0) → OutstationNode L O → Type 0
IsHonest lanes outputs n = lanes (lanes_of n.outstation) × outputs (outputs_of n.outstation)

-- a call of its link, with its outstation
abbrev pub OutstationCalls : {L O : Type 0} → (L → EventBuffer) → (O → Panel) → Ways Seen → Type 0 → ℕ → List Event → LinkState → Option Want
    → OutstationNode L O → OutstationNode L O → Type 0
OutstationCalls contents panel w honest now first from want old new =
    Calls w hung_up_of honest now first from want old.link (seen_of contents panel old.outstation) new.link (seen_of contents panel new.outstation)

-- nothing was done but to end its connection, for this cause
abbrev pub OutstationCuts : {L O : Type 0} → (L → EventBuffer) → (O → Panel) → Type 0 → Closing → OutstationNode L O → OutstationNode L O → Type 0
OutstationCuts contents panel honest cause old new =
    IsCut hung_up_of honest cause old.link (seen_of contents panel old.outstation) new.link (seen_of contents panel new.outstation)

-- a want of its place
abbrev pub wanted_in : {L O : Type 0} → OutstationNode L O → Option Want → Option Wanted
wanted_in n want = option_map (λ w. record { slot = n.slot; want = w }) want
