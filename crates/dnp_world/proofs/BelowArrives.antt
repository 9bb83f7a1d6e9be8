-- What comes from a substation to the concentrator keeps what stands behind the system.
use Rattle.std.proofs.Common.{◌≡◌, ℕ, ◌<◌, true, List, [], ◌∷◌, ◌++◌, length, Some, Result, Ok, Err, IfOk, refl, sym, ap, ◌∙◌, subst}
use Rattle.std.specs.Prelude.{nat_lt, option_to_list, slice_get, ⊤}
use Rattle.std.proofs.lemmas.Bool.{and_parts, ltb-true}
use Rattle.std.proofs.lemmas.Option.{same_Some}
use Rattle.std.proofs.lemmas.List.{set-set}
use Rattle.dnp_concentrator.specs.Below.{link_in}
use Rattle.dnp_concentrator.specs.IndexMap.{IsMap}
use Rattle.dnp_concentrator.specs.Mapped.{queued_rows}
use Rattle.dnp_concentrator.specs.Plan.{map_of}
use Rattle.dnp_concentrator.specs.PointsAbove.{points_above}
use Rattle.dnp_concentrator.specs.Relaying as relaying
use Rattle.dnp_concentrator.specs.Relaying.{Relaying}
use Rattle.dnp_concentrator.specs.declared.span.Spans.{Spans}
use Rattle.dnp_controls.specs.Panel.{Panel}
use Rattle.dnp_line.specs.Lines.{LineState, delivered_on, front_of, repeated_on}
use Rattle.dnp_line.specs.Ports.{PortState}
use Rattle.dnp_line.specs.Ways.{HearsIfAny}
use Rattle.dnp_master.specs.Calls.{Taking, receive_of}
use Rattle.dnp_master.specs.declared.fault.MasterFault.{MasterFault}
use Rattle.dnp_objects.specs.declared.row.Row.{Row}
use Rattle.dnp_pointdb.specs.Plan as points
use Rattle.dnp_world.specs.declared.event.Link.TheVariants.{Below}
use Rattle.dnp_world.specs.declared.link_event.LinkEvent.{LinkEvent}
use Rattle.dnp_world.specs.declared.link_event.LinkEvent.TheVariants as event
use Rattle.dnp_world.specs.declared.link_event.Way.TheVariants as way
use Rattle.dnp_world.specs.Behind.{Elsewhere, rows_of}
use Rattle.dnp_world.specs.Channels.{ChannelState, GoDown}
use Rattle.dnp_world.specs.Happened.{HappenedAsEvents}
use Rattle.dnp_world.specs.Joined.{rows_made_by}
use Rattle.dnp_world.specs.LawLink.{LawLink}
use Rattle.dnp_world.specs.OneLinkEvents as one
use Rattle.dnp_world.specs.OneLinkEvents.{HappensOn, LinkState, Receives, Takes}
use Rattle.dnp_world.specs.Systems.{SubstationState, System, has_substation, panel_of}
use Rattle.dnp_world.specs.SystemEvents.{ComesUp, MasterReceives, MasterTakes, taken_below, with_substation}
use Rattle.dnp_world.specs.SystemStanding.{RowLists, lists_of, no_sink, seen_below, IsStanding, Keeps}
use Rattle.dnp_world.proofs.BelowEvents.{few_outputs, quiet, seen_at, shown_with}
use Rattle.dnp_world.proofs.BelowKeeps.{Grounds}
use Rattle.dnp_world.proofs.BelowTakes.{ArrivalLaws, queued_for, taken_with, takes_keep}
use Rattle.dnp_world.proofs.ListedAt.{set_here}
use Rattle.dnp_world.proofs.TakenPlans.{IsMasterOf, master_there, receiving_keeps_plan}

-- ---- the lines and the list of substations

-- the substation once the front unit came to its master's port
abbrev pub heard_at : (LineState → LineState) → PortState → SubstationState → SubstationState
heard_at left port s = record s { channel = record s.channel { up = left s.channel.up; master_port = port } }

-- what makes an event of the link by itself of what comes up
abbrev pub IsComing : (LineState → LineState) → LinkEvent → Type 0
IsComing left e = (s s' : LinkState ⊤) (panel : Panel) → one.ComesUp no_sink (left s.channel.up) s s' → HappensOn no_sink panel s e s'

has_link_to : (s : System) (substation : ℕ) → has_substation s substation ≡ true → substation < length s.concentrator.links
has_link_to s substation has =
    ltb-true substation (length s.concentrator.links)
    ((and_parts (nat_lt substation (length s.substations)) (nat_lt substation (length s.concentrator.links)) has).1)

-- ---- a unit comes to the master of a substation

-- what was heard there
record Comes (left : LineState → LineState) (e : LinkEvent) (old : System) (substation : ℕ) : Type 0 where
  is_event : IsComing left e
  has : has_substation old substation ≡ true
  was : SubstationState
  there : slice_get old.substations substation ≡ Some was
  port : PortState
  given : List (List ℕ)
  heard : HearsIfAny (front_of was.channel.up) was.channel.master_port port [] given
  made : rows_made_by was.core.points (e ∷ []) ≡ []

-- nothing is taken
untaken : Grounds → (left : LineState → LineState) (e : LinkEvent) (old new : System) {el : Elsewhere} (h : IsStanding el old) (substation : ℕ)
    (c : Comes left e old substation)
    → (let base : LinkState ⊤ = seen_at old substation (heard_at left c.port c.was) (lists_of (h.links.below substation)) in
    one.ComeUp no_sink c.given base base)
    → new ≡ with_substation old substation (heard_at left c.port c.was) → Keeps el substation [] old new
untaken grounds left e old new {el = el} h substation c came after =
    let lists : RowLists = lists_of (h.links.below substation) in
    let is : SubstationState = heard_at left c.port c.was in
    subst (λ (rows : List Row). Keeps el substation rows old new) c.made
    (quiet grounds old new h substation c.was is e c.there refl
    (c.is_event (seen_at old substation c.was lists) (seen_at old substation is lists) (panel_of c.was)
    (record { port = c.port; given = c.given; heard = c.heard; came = came })) after)

-- the events that the concentrator takes are all queued
taken_queued : ArrivalLaws → (old : System) {el : Elsewhere} (h : IsStanding el old) (substation : ℕ) → has_substation old substation ≡ true
    → (fragment : List ℕ) (t : Taking) → receive_of (link_in old.concentrator.links substation).master old.now fragment ≡ Ok t
    → length (queued_for old substation t.events) ≡ length t.events
taken_queued laws old h substation has fragment t is =
    let r : Relaying = link_in old.concentrator.links substation in
    let m : IsMasterOf h.plan.substations substation r =
    master_there old.concentrator.links h.plan.substations substation (has_link_to old substation has) h.of_plan.masters in
    let spans : old.concentrator.indices ≡ map_of h.plan = h.of_plan.middle_indices ∙ h.of_plan.indices in
    let AllQueued : List Spans → points.Plan → Taking → Type 0 = λ xs plan t. length (queued_rows xs plan substation t.events) ≡ length t.events in
    let all : AllQueued (map_of h.plan) (points_above h.plan) t =
    subst (λ (x : Result Taking MasterFault). IfOk x (AllQueued (map_of h.plan) (points_above h.plan))) is
    (laws.queued h.plan substation m.planned r.master old.now fragment h.of_plan.limits
    (subst (λ (xs : List Spans). IsMap xs) h.of_plan.indices h.of_plan.is_map) m.there m.asks) in
    subst (λ (xs : List Spans). AllQueued xs old.concentrator.points t) (sym spans)
    (subst (λ (plan : points.Plan). AllQueued (map_of h.plan) plan t) (sym h.of_plan.middle_points) all)

-- the concentrator takes the fragment, or refuses it
received : Grounds → ArrivalLaws
    → (left : LineState → LineState) (e : LinkEvent) (old new : System) {el : Elsewhere} (h : IsStanding el old) (substation : ℕ)
    (c : Comes left e old substation)
    → HappenedAsEvents old → (fragment : List ℕ) (others : List (List ℕ)) → c.given ≡ fragment ∷ others → (r : Result Taking MasterFault)
    → receive_of (link_in old.concentrator.links substation).master old.now fragment ≡ r
    → MasterReceives (Below substation) r (with_substation old substation (heard_at left c.port c.was)) new → Keeps el substation [] old new
received grounds laws left e old new h substation c events fragment others given (Ok t) is (room, change) =
    let l : LawLink = h.links.below substation in
    let r : Relaying = link_in old.concentrator.links substation in
    let mid : SubstationState = heard_at left c.port c.was in
    let between : System = with_substation old substation mid in
    let same : change.was ≡ mid =
    same_Some change.was mid (sym change.there ∙ set_here old.substations substation c.was mid c.there) in
    let lines : ChannelState = change.is.channel in
    let is_now : SubstationState = record mid { channel = lines } in
    let down : GoDown (option_to_list t.confirm) mid.channel lines =
    subst (λ (x : SubstationState). GoDown (option_to_list t.confirm) x.channel lines) same change.changed.0 in
    let after : new ≡ taken_with substation is_now t old =
    change.after
    ∙ ap (λ (x : SubstationState). with_substation (taken_below between substation t) substation x)
    (change.changed.1 ∙ ap (λ (x : SubstationState). record x { channel = lines }) same)
    ∙ ap (λ (xs : List SubstationState). record (taken_below between substation t) { substations = xs })
    (set-set old.substations substation mid is_now) in
    let lists : RowLists = record (lists_of l) { taken = rows_of l.took ++ t.events } in
    let base : LinkState ⊤ = seen_at old substation mid (lists_of l) in
    let s' : LinkState ⊤ = seen_below old.now (relaying.received r t) is_now lists in
    let takes : Takes no_sink t base s' = record {
      rows = record { given = λ some. ([], tt); spared = λ none. refl };
      goes = down;
      after = refl;
    } in
    takes_keep grounds laws old new h substation c.was is_now t e events (has_link_to old substation c.has) c.there refl
    (shown_with c.was is_now (few_outputs old h substation c.was c.there) refl)
    (taken_queued laws old h substation c.has fragment t is) room
    (subst (λ (x : Result Taking MasterFault). IfOk x (λ t. t.state.plan ≡ r.master.plan)) is (receiving_keeps_plan r.master old.now fragment))
    c.made
    (c.is_event (seen_at old substation c.was (lists_of l)) s' (panel_of c.was)
    (record {
      port = c.port;
      given = c.given;
      heard = c.heard;
      came = subst (λ (xs : List (List ℕ)). one.ComeUp no_sink xs base s') (sym given)
          (subst (λ (x : Result Taking MasterFault). Receives no_sink x base s') (sym is) takes);
    }))
    after
received grounds laws left e old new h substation c events fragment others given (Err fault) is after =
    let base : LinkState ⊤ = seen_at old substation (heard_at left c.port c.was) (lists_of (h.links.below substation)) in
    untaken grounds left e old new h substation c
    (subst (λ (xs : List (List ℕ)). one.ComeUp no_sink xs base base) (sym given)
    (subst (λ (x : Result Taking MasterFault). Receives no_sink x base base) (sym is) refl)) after

taken_in : Grounds → ArrivalLaws
    → (left : LineState → LineState) (e : LinkEvent) (old new : System) {el : Elsewhere} (h : IsStanding el old) (substation : ℕ)
    (c : Comes left e old substation)
    → HappenedAsEvents old → (given : List (List ℕ)) → c.given ≡ given
    → MasterTakes (Below substation) given (with_substation old substation (heard_at left c.port c.was)) new → Keeps el substation [] old new
taken_in grounds laws left e old new h substation c events [] given after =
    let base : LinkState ⊤ = seen_at old substation (heard_at left c.port c.was) (lists_of (h.links.below substation)) in
    untaken grounds left e old new h substation c (subst (λ (xs : List (List ℕ)). one.ComeUp no_sink xs base base) (sym given) refl) after
taken_in grounds laws left e old new h substation c events (fragment ∷ others) given came =
    received grounds laws left e old new h substation c events fragment others given
    (receive_of (link_in old.concentrator.links substation).master old.now fragment) refl came

comes : Grounds → ArrivalLaws → (left : LineState → LineState) (e : LinkEvent) → IsComing left e → (old new : System) {el : Elsewhere} (substation : ℕ)
    → has_substation old substation ≡ true → IsStanding el old → HappenedAsEvents old
    → ((was : SubstationState) → rows_made_by was.core.points (e ∷ []) ≡ []) → ComesUp left (Below substation) old new → Keeps el substation [] old new
comes grounds laws left e is_event old new substation has h events made c =
    let was : SubstationState = c.heard.was in
    let port : PortState = c.heard.is.channel.master_port in
    let is : c.between ≡ with_substation old substation (heard_at left port was) =
    c.heard.after
    ∙ ap (λ (s : SubstationState). with_substation old substation s)
    (c.heard.changed.1 ∙ ap (λ (lines : ChannelState). record was { channel = lines }) c.heard.changed.0.after) in
    taken_in grounds laws left e old new h substation
    (record {
      is_event = is_event;
      has = has;
      was = was;
      there = c.heard.there;
      port = port;
      given = c.given;
      heard = c.heard.changed.0.heard;
      made = made was;
    })
    events c.given refl
    (subst (λ (s : System). MasterTakes (Below substation) c.given s new) is c.came)

pub delivers_below : Grounds → ArrivalLaws → (old new : System) {el : Elsewhere} (substation : ℕ) → has_substation old substation ≡ true → IsStanding el old
    → HappenedAsEvents old → ComesUp delivered_on (Below substation) old new → Keeps el substation [] old new
delivers_below grounds laws old new substation has h events c =
    comes grounds laws delivered_on (event.Deliver way.Up) (λ s s' panel come. come) old new substation has h events (λ was. refl) c

pub repeats_below : Grounds → ArrivalLaws → (old new : System) {el : Elsewhere} (substation : ℕ) → has_substation old substation ≡ true → IsStanding el old
    → HappenedAsEvents old → ComesUp repeated_on (Below substation) old new → Keeps el substation [] old new
repeats_below grounds laws old new substation has h events c =
    comes grounds laws repeated_on (event.Repeat way.Up) (λ s s' panel come. come) old new substation has h events (λ was. refl) c
