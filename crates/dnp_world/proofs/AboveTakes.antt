-- What comes to the centre keeps what stands behind the system: the rows that it takes come into its journal.
use Rattle.std.proofs.Common.{◌≡◌, ℕ, ◌+◌, List, [], ◌∷◌, ◌++◌, map, Result, Ok, Err, refl, sym, ap, ◌∙◌, subst}
use Rattle.std.specs.Prelude.{⊤}
use Rattle.std.proofs.lemmas.List.{map-append}
use Rattle.dnp_concentrator.specs.Relaying as relaying
use Rattle.dnp_controls.specs.Panel.{Panel}
use Rattle.dnp_eventbuf.specs.Archive.{numbered, with_events}
use Rattle.dnp_eventbuf.specs.EventBuffer.{row_of}
use Rattle.dnp_line.specs.Lines.{LineState, delivered_on, front_of, repeated_on}
use Rattle.dnp_line.specs.Ports.{PortState}
use Rattle.dnp_line.specs.Ways.{HearsIfAny}
use Rattle.dnp_master.specs.Calls.{Taking, receive_of}
use Rattle.dnp_master.specs.declared.fault.MasterFault.{MasterFault}
use Rattle.dnp_objects.specs.declared.row.Row.{Row}
use Rattle.dnp_world.specs.declared.event.Link.TheVariants as link
use Rattle.dnp_world.specs.declared.link_event.LinkEvent.{LinkEvent}
use Rattle.dnp_world.specs.declared.link_event.LinkEvent.TheVariants as event
use Rattle.dnp_world.specs.declared.link_event.Way.TheVariants as way
use Rattle.dnp_world.specs.Behind.{Elsewhere, rows_of}
use Rattle.dnp_world.specs.Channels.{ChannelState}
use Rattle.dnp_world.specs.Joined.{rows_made_by}
use Rattle.dnp_world.specs.LawLink.{LawLink}
use Rattle.dnp_world.specs.OneLinkEvents as one
use Rattle.dnp_world.specs.OneLinkEvents.{HappensOn, LinkState, Receives, Takes}
use Rattle.dnp_world.specs.SystemEvents.{ComesUp, MasterReceives, MasterTakes}
use Rattle.dnp_world.specs.SystemStanding.{RowLists, lists_of, no_sink, seen_above, IsStanding, Keeps}
use Rattle.dnp_world.specs.Systems.{System, middle_of, middle_panel}
use Rattle.dnp_world.proofs.AboveEvents.{quiet_above}
use Rattle.dnp_world.proofs.AboveKeeps.{Above, above_keeps, changed_above}
use Rattle.dnp_world.proofs.BelowEvents.{none_behind}
use Rattle.dnp_world.proofs.BelowKeeps.{Grounds, none_used}

-- rows of a journal under their ids
rows_numbered : (last : ℕ) (rows : List Row) → map row_of (numbered last rows) ≡ rows
rows_numbered last [] = refl
rows_numbered last (row ∷ rows) = ap (λ (xs : List Row). row ∷ xs) (rows_numbered (last + 1) rows)

-- the lines once the front unit came to the centre's port
abbrev heard_lines : (LineState → LineState) → PortState → System → ChannelState
heard_lines left port s = record s.above { up = left s.above.up; master_port = port }

-- what makes an event of the link by itself of what comes up
abbrev IsComing : (LineState → LineState) → LinkEvent → Type 0
IsComing left e = (s s' : LinkState ⊤) (panel : Panel) → one.ComesUp no_sink (left s.channel.up) s s' → HappensOn no_sink panel s e s'

-- nothing is taken
untaken : Grounds → (left : LineState → LineState) (e : LinkEvent) → IsComing left e
    → (old new : System) {el : Elsewhere} (h : IsStanding el old) (substation : ℕ)
    → (port : PortState) (given : List (List ℕ)) → HearsIfAny (front_of old.above.up) old.above.master_port port [] given
    → rows_made_by old.concentrator.core.points (e ∷ []) ≡ []
    → (let base : LinkState ⊤ = seen_above (record old { above = heard_lines left port old }) (lists_of h.links.above) in one.ComeUp no_sink given base base)
    → new ≡ record old { above = heard_lines left port old } → Keeps el substation [] old new
untaken grounds left e as_event old new h substation port given heard made came after =
    let lists : RowLists = lists_of h.links.above in
    quiet_above grounds old new h substation (middle_of old.concentrator) old.centre.link (heard_lines left port old) e refl made
    (as_event (seen_above old lists) (seen_above (record old { above = heard_lines left port old }) lists) (middle_panel old.concentrator old.now)
    (record { port = port; given = given; heard = heard; came = came }))
    after

-- the centre takes the fragment, or refuses it
received : Grounds → (left : LineState → LineState) (e : LinkEvent) → IsComing left e
    → (centre : ℕ) (old new : System) {el : Elsewhere} (h : IsStanding el old) (substation : ℕ)
    → (port : PortState) (fragment : List ℕ) (others : List (List ℕ))
    → HearsIfAny (front_of old.above.up) old.above.master_port port [] (fragment ∷ others)
    → rows_made_by old.concentrator.core.points (e ∷ []) ≡ []
    → (r : Result Taking MasterFault) → receive_of old.centre.link.master old.now fragment ≡ r
    → MasterReceives (link.Above centre) r (record old { above = heard_lines left port old }) new → Keeps el substation [] old new
received grounds left e as_event centre old new h substation port fragment others heard made (Ok t) is (room, (down, after)) =
    let l : LawLink = h.links.above in
    let lines : ChannelState = heard_lines left port old in
    let base : LinkState ⊤ = seen_above (record old { above = lines }) (lists_of l) in
    let a : Above = record {
      core = old.concentrator.core;
      queue = old.concentrator.queue;
      commands = [];
      link = relaying.received old.centre.link t;
      journal = with_events old.centre.journal t.events;
      lines = new.above;
    } in
    let lists : RowLists = record (lists_of l) { taken = rows_of l.took ++ t.events } in
    let s' : LinkState ⊤ = seen_above (changed_above a old) lists in
    let takes : Takes no_sink t base s' = record {
      rows = record { given = λ some. ([], tt); spared = λ none. refl };
      goes = down;
      after = refl;
    } in
    above_keeps grounds old new h substation a t.events [] lists e
    (record {
      lost = refl;
      journal = map-append row_of old.centre.journal.rows (numbered old.centre.journal.last_id t.events)
          ∙ ap (λ (xs : List Row). map row_of old.centre.journal.rows ++ xs) (rows_numbered old.centre.journal.last_id t.events);
      performs = none_behind _;
      used = none_used _;
      same = refl;
    })
    (record { taken_is = refl; released_is = none_behind _; left_is = refl })
    made
    (as_event (seen_above old (lists_of l)) s' (middle_panel old.concentrator old.now)
    (record {
      port = port;
      given = fragment ∷ others;
      heard = heard;
      came = subst (λ (x : Result Taking MasterFault). Receives no_sink x base s') (sym is) takes;
    }))
    after
received grounds left e as_event centre old new h substation port fragment others heard made (Err fault) is after =
    let base : LinkState ⊤ = seen_above (record old { above = heard_lines left port old }) (lists_of h.links.above) in
    untaken grounds left e as_event old new h substation port (fragment ∷ others) heard made
    (subst (λ (x : Result Taking MasterFault). Receives no_sink x base base) (sym is) refl) after

taken_in : Grounds → (left : LineState → LineState) (e : LinkEvent) → IsComing left e
    → (centre : ℕ) (old new : System) {el : Elsewhere} (h : IsStanding el old) (substation : ℕ)
    → (port : PortState) (given : List (List ℕ)) → HearsIfAny (front_of old.above.up) old.above.master_port port [] given
    → rows_made_by old.concentrator.core.points (e ∷ []) ≡ []
    → MasterTakes (link.Above centre) given (record old { above = heard_lines left port old }) new → Keeps el substation [] old new
taken_in grounds left e as_event centre old new h substation port [] heard made came =
    untaken grounds left e as_event old new h substation port [] heard made refl came
taken_in grounds left e as_event centre old new h substation port (fragment ∷ others) heard made came =
    received grounds left e as_event centre old new h substation port fragment others heard made (receive_of old.centre.link.master old.now fragment) refl came

comes : Grounds → (left : LineState → LineState) (e : LinkEvent) → IsComing left e
    → (centre : ℕ) (old new : System) {el : Elsewhere} (substation : ℕ) → IsStanding el old
    → rows_made_by old.concentrator.core.points (e ∷ []) ≡ [] → ComesUp left (link.Above centre) old new → Keeps el substation [] old new
comes grounds left e as_event centre old new substation h made c =
    let port : PortState = c.between.above.master_port in
    let is : c.between ≡ record old { above = heard_lines left port old } =
    c.heard.1 ∙ ap (λ (lines : ChannelState). record old { above = lines }) c.heard.0.after in
    taken_in grounds left e as_event centre old new h substation port c.given c.heard.0.heard made
    (subst (λ (s : System). MasterTakes (link.Above centre) c.given s new) is c.came)

pub delivers_to_centre : Grounds → (centre : ℕ) (old new : System) {el : Elsewhere} (substation : ℕ) → IsStanding el old
    → ComesUp delivered_on (link.Above centre) old new
    → Keeps el substation [] old new
delivers_to_centre grounds centre old new substation h c =
    comes grounds delivered_on (event.Deliver way.Up) (λ s s' panel come. come) centre old new substation h refl c

pub repeats_to_centre : Grounds → (centre : ℕ) (old new : System) {el : Elsewhere} (substation : ℕ) → IsStanding el old
    → ComesUp repeated_on (link.Above centre) old new
    → Keeps el substation [] old new
repeats_to_centre grounds centre old new substation h c =
    comes grounds repeated_on (event.Repeat way.Up) (λ s s' panel come. come) centre old new substation h refl c
