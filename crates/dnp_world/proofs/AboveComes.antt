-- What comes to the concentrator from above keeps what stands behind the system: what a confirm releases leaves the queue, and the
-- commands that are performed come into the book.
use Rattle.std.proofs.Common.{◌≡◌, ℕ, List, [], ◌∷◌, ◌++◌, map, refl, sym, ap, ◌∙◌}
use Rattle.std.specs.Prelude.{⊤}
use Rattle.dnp_concentrator.specs.BookOutputs.{ordered}
use Rattle.dnp_concentrator.specs.declared.span.Spans.{Spans}
use Rattle.dnp_controls.specs.Book.{Ledger}
use Rattle.dnp_controls.specs.Panel.{Panel}
use Rattle.dnp_line.specs.Lines.{LineState, delivered_on, front_of, repeated_on}
use Rattle.dnp_line.specs.Ports.{PortState}
use Rattle.dnp_line.specs.Ways.{HearsIfAny}
use Rattle.dnp_objects.specs.declared.command.Command.{Command}
use Rattle.dnp_objects.specs.declared.row.Row.{Row}
use Rattle.dnp_outstation.specs.Calls.{connection_after, performed_in}
use Rattle.dnp_outstation.specs.State.{State, Step}
use Rattle.dnp_world.specs.declared.link_event.LinkEvent.{LinkEvent}
use Rattle.dnp_world.specs.declared.link_event.LinkEvent.TheVariants as event
use Rattle.dnp_world.specs.declared.link_event.Way.TheVariants as way
use Rattle.dnp_world.specs.Behind.{Elsewhere, rows_of}
use Rattle.dnp_world.specs.Channels.{ChannelState}
use Rattle.dnp_world.specs.Joined.{rows_made_by}
use Rattle.dnp_world.specs.LawLink.{LawLink}
use Rattle.dnp_world.specs.OneLinkEvents.{ComesDown, HappensOn, LinkState, Steps}
use Rattle.dnp_world.specs.Systems.{System, middle_of, middle_panel}
use Rattle.dnp_world.specs.SystemEvents.{ComesDownAbove, MiddleAnswers}
use Rattle.dnp_world.specs.SystemStanding.{RowLists, lists_of, no_sink, seen, seen_above, IsStanding, Keeps}
use Rattle.dnp_world.proofs.AboveSteps.{ComingLaws, all_relayed, lost_same, ordered_all, performs_as}
use Rattle.dnp_world.proofs.AboveEvents.{quiet_above}
use Rattle.dnp_world.proofs.AboveKeeps.{Above, above_keeps, book_with, changed_above}
use Rattle.dnp_world.proofs.BelowEvents.{none_behind}
use Rattle.dnp_world.proofs.BelowKeeps.{Grounds, none_used}

-- ---- the front unit comes to it

-- the lines once the unit came to the concentrator's port
abbrev heard_lines : (LineState → LineState) → PortState → System → ChannelState
heard_lines left port s = record s.above { down = left s.above.down; outstation_port = port }

abbrev IsComing : (LineState → LineState) → LinkEvent → Type 0
IsComing left e = (s s' : LinkState ⊤) (panel : Panel) → ComesDown panel (left s.channel.down) s s' → HappensOn no_sink panel s e s'

answered : Grounds → ComingLaws → (left : LineState → LineState) (e : LinkEvent) → IsComing left e → (old new : System) {el : Elsewhere} (h : IsStanding el old)
    → (substation : ℕ) (port : PortState) (given : List (List ℕ)) → HearsIfAny (front_of old.above.down) old.above.outstation_port port [] given
    → rows_made_by old.concentrator.core.points (e ∷ []) ≡ []
    → MiddleAnswers given (record old { above = heard_lines left port old }) new → Keeps el substation [] old new
answered grounds laws left e as_event old new h substation port [] heard made came =
    let lists : RowLists = lists_of h.links.above in
    quiet_above grounds old new h substation (middle_of old.concentrator) old.centre.link (heard_lines left port old) e refl made
    (as_event (seen_above old lists) (seen_above (record old { above = heard_lines left port old }) lists) (middle_panel old.concentrator old.now)
    (record { port = port; given = []; heard = heard; came = refl }))
    came
answered grounds laws left e as_event old new h substation port (fragment ∷ others) heard made came =
    let l : LawLink = h.links.above in
    let s : State = middle_of old.concentrator in
    let panel : Panel = middle_panel old.concentrator old.now in
    let spans : List Spans = old.concentrator.indices in
    let book : Ledger = old.concentrator.controls in
    let step : Step = connection_after s panel old.now fragment in
    let commands : List Command = performed_in old.concentrator.core panel old.now fragment in
    let released : List Row = step.does.discarded in
    let lines : ChannelState = heard_lines left port old in
    let a : Above = record {
      core = step.state.core;
      queue = step.state.lanes;
      commands = commands;
      link = old.centre.link;
      journal = old.centre.journal;
      lines = new.above;
    } in
    let performs : map (ordered spans) (book_with old commands).entries ≡ map (ordered spans) book.entries ++ commands =
    ordered_all laws spans book commands (all_relayed spans (old.concentrator.reserved old.now) book old.concentrator.core old.now fragment) in
    let base : LinkState ⊤ = seen_above (record old { above = lines }) (lists_of l) in
    let lists : RowLists = record (lists_of l) { released = rows_of l.released ++ released } in
    let s' : LinkState ⊤ = seen_above (changed_above a old) lists in
    let seen_on : List Command → LinkState ⊤ = λ performed.
    seen (record step.state { performed = performed }) old.centre.link.master new.above old.now lists in
    let steps : Steps step base s' =
    record { goes = came.sent; after = ap (λ (xs : List Command). seen_on xs) (performs ∙ sym (performs_as laws s panel old.now fragment)) } in
    above_keeps grounds old new h substation a [] released lists e
    (record {
      lost = lost_same laws s panel old.now fragment;
      journal = none_behind _;
      performs = performs;
      used = none_used _;
      same = refl;
    })
    (record { taken_is = none_behind _; released_is = refl; left_is = refl })
    made
    (as_event (seen_above old (lists_of l)) s' panel (record { port = port; given = fragment ∷ others; heard = heard; came = steps }))
    came.after

comes : Grounds → ComingLaws → (left : LineState → LineState) (e : LinkEvent) → IsComing left e → (old new : System) {el : Elsewhere} (substation : ℕ)
    → IsStanding el old → rows_made_by old.concentrator.core.points (e ∷ []) ≡ [] → ComesDownAbove left old new → Keeps el substation [] old new
comes grounds laws left e as_event old new substation h made c =
    answered grounds laws left e as_event old new h substation c.port c.given c.heard made c.came

pub delivers_to_concentrator : Grounds → ComingLaws → (old new : System) {el : Elsewhere} (substation : ℕ) → IsStanding el old
    → ComesDownAbove delivered_on old new → Keeps el substation [] old new
delivers_to_concentrator grounds laws old new substation h c =
    comes grounds laws delivered_on (event.Deliver way.Down) (λ s s' panel come. come) old new substation h refl c

pub repeats_to_concentrator : Grounds → ComingLaws → (old new : System) {el : Elsewhere} (substation : ℕ) → IsStanding el old
    → ComesDownAbove repeated_on old new
    → Keeps el substation [] old new
repeats_to_concentrator grounds laws old new substation h c =
    comes grounds laws repeated_on (event.Repeat way.Down) (λ s s' panel come. come) old new substation h refl c
