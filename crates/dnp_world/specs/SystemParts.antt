-- Definition: what a whole system is, by what its stores say of themselves, and its stores.
use Rattle.std.specs.Prelude.{ℕ, map}
use Rattle.dnp_eventbuf.specs.Archive.{Archive}
use Rattle.dnp_eventbuf.specs.EventBuffer.{EventBuffer}
use Rattle.dnp_controls.specs.Book.{Ledger}
use Rattle.dnp_concentrator.specs.Centre as centre
use Rattle.dnp_concentrator.specs.Concentrator as concentrator
use Rattle.dnp_concentrator.specs.declared.centre.Centre.{Centre}
use Rattle.dnp_concentrator.specs.declared.concentrator.Concentrator.{Concentrator}
use Rattle.dnp_outstation.specs.Parts as outstation
use Rattle.dnp_world.specs.Channels.{state_of}
use Rattle.dnp_world.specs.Systems.{SubstationState, CentreState}
use Rattle.dnp_world.specs.declared.history.History as kept
use Rattle.dnp_world.specs.declared.parts.Parts.TheInside.{Inside}
use Rattle.dnp_world.specs.declared.substation.Substation.{Substation}
use Rattle.dnp_world.specs.Shown.{Shown, Stores}
use Rattle.dnp_world.specs.Wholes.{Whole, WholeConcentrator, WholeHistory}
use Rattle.dnp_concentrator.specs.PerCentre.{for_each, of_each, pair_of}

abbrev pub substation_of : Substation → SubstationState
substation_of s = record {
  core = outstation.core_of s.outstation;
  lanes = outstation.lanes_of s.outstation;
  outputs = outstation.outputs_of s.outstation;
  channel = state_of s.channel;
}

abbrev pub concentrator_of : {Q A : Type 0} → (Q → ℕ → EventBuffer) → (A → Ledger) → Concentrator Q A → WholeConcentrator
concentrator_of buffer ledger c = record {
  cores = for_each (λ centre. concentrator.core_of centre c);
  queues = for_each (buffer (concentrator.queue_of c));
  indices = concentrator.indices_of c;
  points = concentrator.plan_above c;
  controls = ledger (concentrator.book_of c);
  links = concentrator.links_of c;
}

abbrev pub centre_of : {J B : Type 0} → (J → Archive) → (B → Ledger) → Centre J B → CentreState
centre_of archive ledger c = record {
  indices = centre.indices_of c;
  link = centre.link_of c;
  journal = archive (centre.journal_of c);
  orders = ledger (centre.book_of c);
}

abbrev pub history_of : kept.History → WholeHistory
history_of h = record {
  confirmed = h.confirmed.items;
  overwritten = h.overwritten.items;
  gone = h.gone.items;
  dropped = of_each (λ rows. rows.items) h.dropped;
  issued = h.issued.items;
  operated = h.operated.items;
}

abbrev pub system_of : {Q J A B : Type 0} → (Q → ℕ → EventBuffer) → (J → Archive) → (A → Ledger) → (B → Ledger) → Inside Q J A B → Whole
system_of buffer archive controls orders p = record {
  indices = p.map;
  substations = map substation_of p.substations.items;
  concentrator = concentrator_of buffer controls p.concentrator;
  centres = of_each (centre_of archive orders) p.centres;
  above = of_each state_of p.above;
  now = p.moment;
  history = history_of p.history;
}

-- ---- the stores

abbrev pub stores_of : {Q J A B : Type 0} → Inside Q J A B → Stores Q J A B
stores_of p = record {
  queues = concentrator.queue_of p.concentrator;
  journals = pair_of (of_each centre.journal_of p.centres);
  controls = concentrator.book_of p.concentrator;
  orders = pair_of (of_each centre.book_of p.centres);
}

-- ---- what contracts see

abbrev pub shown_by : {Q J A B : Type 0} → (Q → ℕ → EventBuffer) → (J → Archive) → (A → Ledger) → (B → Ledger) → Inside Q J A B → Shown Q J A B
shown_by buffer archive controls orders p = record { system = system_of buffer archive controls orders p; stores = stores_of p }
