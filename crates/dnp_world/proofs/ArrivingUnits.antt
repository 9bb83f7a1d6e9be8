-- Units that stand on a line of a system come to the port at its end, one delivery each, and the last of a fragment's gives it.
use Rattle.std.proofs.Common.{◌≡◌, ℕ, suc, Bool, true, List, [], ◌∷◌, ◌++◌, length, drop, Some, refl, sym, ap, ◌∙◌, subst, append-nil}
use Rattle.std.specs.Prelude.{slice_get}
use Rattle.std.proofs.lemmas.List.{set-set}
use Rattle.dnp_linkframe.specs.Frames.{Spells}
use Rattle.dnp_linkframe.specs.declared.frame.Frame.{Frame}
use Rattle.dnp_linkstation.specs.Station.{ends, AreHeard as Answers}
use Rattle.dnp_controls.specs.Latches.{PlainState}
use Rattle.dnp_objects.specs.declared.command.Command.{Command}
use Rattle.dnp_objects.specs.declared.row.Row.{Row}
use Rattle.dnp_transport.specs.Assembly.{ArePushed}
use Rattle.dnp_transport.specs.Cuts.{cuts}
use Rattle.dnp_line.specs.Flows.{AreFacing}
use Rattle.dnp_line.specs.Lines.{LineState, delivered_on, front_of}
use Rattle.dnp_line.specs.Lines.{line_of as line_with}
use Rattle.dnp_line.specs.Ports.{PortState, HasHistory, data_frame, has_data}
use Rattle.dnp_line.specs.Ways.{AreSpelled, HearsIfAny}
use Rattle.dnp_line.specs.steps.Lower.{Lower}
use Rattle.dnp_world.specs.Arriving.{IsInUnits, TakesOn, channel_on}
use Rattle.dnp_world.specs.Channels.{ChannelState, line_of}
use Rattle.dnp_world.specs.Rounds.{deliveries}
use Rattle.dnp_world.specs.SystemEvents.{ComesDownAbove, ComesDownBelow, ComesOn, ComesUp, IsHeardUp, LinesChange, MasterTakes, MiddleAnswers, SubstationAnswers, with_substation}
use Rattle.dnp_world.specs.SystemRuns.{Happens, IfThere, RunsTo}
use Rattle.dnp_world.specs.Systems.{SubstationState, System, at_substation}
use Rattle.dnp_world.specs.declared.event.Event.TheVariants.{Deliver}
use Rattle.dnp_world.specs.declared.event.Link.{Link}
use Rattle.dnp_world.specs.declared.event.Link.TheVariants.{Below, Above}
use Rattle.dnp_world.specs.declared.link_event.Way.{Way}
use Rattle.dnp_world.specs.declared.link_event.Way.TheVariants.{Down, Up}
use Rattle.dnp_world.proofs.ArrivingLines.{spelled_length}
use Rattle.dnp_world.proofs.ArrivingLinks.{LinesGo, WentTo, heard_again, heard_at, line_heard, linked, lines_as, lines_both, lines_go, receiver_at}
use Rattle.dnp_world.proofs.ArrivingPorts.{HasTaken, WillGive, cuts_will_give, delivered_from, has_taken, heard_front}
use Rattle.dnp_world.proofs.BelowEvents.{no_performs}
use Rattle.dnp_world.proofs.ListedAt.{set_here}

-- ---- one delivery

-- what the front unit of the way is to the port at its end
abbrev pub IsHeard : Way → List (List ℕ) → ChannelState → ChannelState → Type 0
IsHeard way given was is =
    HearsIfAny (front_of (line_of way was)) (receiver_at way was) (receiver_at way is) [] given
    × (is ≡ heard_at way was (delivered_on (line_of way was)) (receiver_at way is))

-- what the port gives is taken
abbrev pub TakesAll : Link → Way → List (List ℕ) → System → System → Type 0
TakesAll on way [] old new = new ≡ old
TakesAll on way (fragment ∷ others) old new = TakesOn on way fragment old new

record Heard (on : Link) (way : Way) (old new : System) : Type 0 where
  given : List (List ℕ)
  heard : System
  hears : LinesChange on (IsHeard way given) old heard
  took : TakesAll on way given heard new

-- a substation
abbrev listed : ℕ → List Row → SubstationState → SubstationState → System → System
listed substation released was is s = record s {
  history = record s.history {
    confirmed = s.history.confirmed ++ at_substation substation released;
    operated = s.history.operated ++ at_substation substation (drop (length was.outputs.performed) is.outputs.performed);
  };
}

nothing_listed : (substation : ℕ) (released : List Row) (was middle is : SubstationState) (s : System) → released ≡ [] → is ≡ middle
    → middle.outputs ≡ was.outputs → listed substation released was is (with_substation s substation is) ≡ with_substation s substation middle
nothing_listed substation released was middle is s none same outputs =
    let set : System = with_substation s substation middle in
    let with_history : List (ℕ × Row) → List (ℕ × Command) → System = λ rows commands. record set {
      history = record s.history { confirmed = rows; operated = commands };
    } in
    let performed : drop (length was.outputs.performed) middle.outputs.performed ≡ [] =
    no_performs was middle (ap (λ (o : PlainState). o.performed) outputs) in
    ap (λ (x : SubstationState). listed substation released was x (with_substation s substation x)) same
    ∙ ap (λ (rows : List Row). listed substation rows was middle set) none
    ∙ ap (λ (xs : List Command). with_history (s.history.confirmed ++ []) (s.history.operated ++ at_substation substation xs)) performed
    ∙ ap (λ (xs : List (ℕ × Row)). with_history xs (s.history.operated ++ [])) (append-nil s.history.confirmed)
    ∙ ap (λ (xs : List (ℕ × Command)). with_history s.history.confirmed xs) (append-nil s.history.operated)

came_below : (substation : ℕ) (released : List Row) (given : List (List ℕ)) (old new : System) (was is : SubstationState) (lines : ChannelState)
    → slice_get old.substations substation ≡ Some was → SubstationAnswers given old.now released (record was { channel = lines }) is
    → new ≡ listed substation released was is (with_substation old substation is)
    → TakesAll (Below substation) Down given (with_substation old substation (record was { channel = lines })) new
came_below substation released [] old new was is lines there came after =
    after ∙ nothing_listed substation released was (record was { channel = lines }) is old came.0 came.1 refl
came_below substation released (fragment ∷ others) old new was is lines there came after =
    let middle : SubstationState = record was { channel = lines } in
    let with_list : List SubstationState → System = λ xs. listed substation released was is (record old { substations = xs }) in
    record {
      released = released;
      answers = record {
        was = middle;
        is = is;
        there = set_here old.substations substation was middle there;
        changed = came;
        after = after ∙ ap with_list (sym (set-set old.substations substation middle is));
      };
    }

heard_below : (substation : ℕ) (old new : System) → ComesDownBelow delivered_on substation old new → Heard (Below substation) Down old new
heard_below substation old new h =
    let e = h.came in
    let c = e.changed in
    let lines : ChannelState = record e.was.channel { down = delivered_on e.was.channel.down; outstation_port = c.port } in
    let middle : SubstationState = record e.was { channel = lines } in
    record {
      given = c.given;
      heard = with_substation old substation middle;
      hears = record { was = e.was; is = middle; there = e.there; changed = ((c.heard, refl), refl); after = refl };
      took = came_below substation h.released c.given old new e.was e.is lines e.there c.came e.after;
    }

-- the concentrator
came_above : (centre : ℕ) (given : List (List ℕ)) (old new : System) → MiddleAnswers given old new → TakesAll (Above centre) Down given old new
came_above centre [] old new h = h
came_above centre (fragment ∷ others) old new h = h

heard_above : (centre : ℕ) (old new : System) → ComesDownAbove delivered_on old new → Heard (Above centre) Down old new
heard_above centre old new h =
    let lines : ChannelState = record old.above { down = delivered_on old.above.down; outstation_port = h.port } in
    let middle : System = record old { above = lines } in
    record { given = h.given; heard = middle; hears = ((h.heard, refl), refl); took = came_above centre h.given middle new h.came }

-- a master
taken_below : (substation : ℕ) (given : List (List ℕ)) (old new : System) → MasterTakes (Below substation) given old new
    → TakesAll (Below substation) Up given old new
taken_below substation [] old new h = h
taken_below substation (fragment ∷ others) old new h = h

taken_above : (centre : ℕ) (given : List (List ℕ)) (old new : System) → MasterTakes (Above centre) given old new → TakesAll (Above centre) Up given old new
taken_above centre [] old new h = h
taken_above centre (fragment ∷ others) old new h = h

is_heard_up : (given : List (List ℕ)) (was is : ChannelState) → IsHeardUp delivered_on given was is → IsHeard Up given was is
is_heard_up given was is h = (h.heard, h.after)

heard_by_master : (on : Link) (old new : System) → ComesUp delivered_on on old new → Heard on Up old new
heard_by_master (Below substation) old new h = record {
  given = h.given;
  heard = h.between;
  hears = lines_as (Below substation) (IsHeardUp delivered_on h.given) (IsHeard Up h.given) old h.between (is_heard_up h.given) h.heard;
  took = taken_below substation h.given h.between new h.came;
}
heard_by_master (Above centre) old new h = record {
  given = h.given;
  heard = h.between;
  hears = lines_as (Above centre) (IsHeardUp delivered_on h.given) (IsHeard Up h.given) old h.between (is_heard_up h.given) h.heard;
  took = taken_above centre h.given h.between new h.came;
}

comes_on : (on : Link) (way : Way) (old new : System) → ComesOn delivered_on on way old new → Heard on way old new
comes_on (Below substation) Down old new h = heard_below substation old new h
comes_on (Above centre) Down old new h = heard_above centre old new h
comes_on (Below substation) Up old new h = heard_by_master (Below substation) old new h
comes_on (Above centre) Up old new h = heard_by_master (Above centre) old new h

-- the lines before and after it
record Delivery (on : Link) (way : Way) (c : ChannelState) (old new : System) : Type 0 where
  given : List (List ℕ)
  lines : ChannelState
  heard : System
  go : LinesGo on c lines old heard
  hears : IsHeard way given c lines
  took : TakesAll on way given heard new

delivery : (on : Link) (way : Way) (c : ChannelState) (old new : System) → channel_on old on ≡ Some c → Happens old (Deliver on way) new
    → Delivery on way c old new
delivery on way c old new there happens =
    let h : Heard on way old new =
    comes_on on way old new (subst (λ (b : Bool). IfThere b (ComesOn delivered_on on way) old new) (linked on old c there) happens) in
    let went : WentTo on (IsHeard way h.given) c old h.heard = lines_go on (IsHeard way h.given) c old h.heard there h.hears in
    record { given = h.given; lines = went.lines; heard = h.heard; go = went.go; hears = went.changed; took = h.took }

-- ---- the units of a fragment

-- the line is left with these units, and the port has heard some
pub record IsLeft (way : Way) (tail : List (List ℕ)) (was is : ChannelState) : Type 0 where
  pub after : is ≡ heard_at way was (line_with tail 0) (receiver_at way is)
  pub same_ends : ends (receiver_at way is).link ≡ ends (receiver_at way was).link
  pub history : HasHistory (receiver_at way is)

-- so it is, and the fragment was taken then
pub record Reached (on : Link) (way : Way) (f : List ℕ) (tail : List (List ℕ)) (c : ChannelState) (old new : System) : Type 0 where
  pub lines : ChannelState
  pub heard : System
  pub go : LinesGo on c lines old heard
  pub left : IsLeft way tail c lines
  pub took : TakesOn on way f heard new

-- a unit that comes, and what the port has of it
record OneCame (on : Link) (way : Way) (sender : PortState) (x : List ℕ) (pushed us : List (List ℕ)) (c : ChannelState) (old new : System) : Type 0 where
  delivered : Delivery on way c old new
  taken : HasTaken sender (receiver_at way c) (receiver_at way delivered.lines) x pushed delivered.given
  after : delivered.lines ≡ heard_at way c (line_with us 0) (receiver_at way delivered.lines)

one_comes : Lower → (on : Link) (way : Way) (sender : PortState) (u x : List ℕ) (pushed us : List (List ℕ)) (c : ChannelState) (old new : System)
    (heard : List Frame) → channel_on old on ≡ Some c → has_data x ≡ true → (line_of way c).units ≡ u ∷ us → Spells u (data_frame sender x)
    → AreFacing sender (receiver_at way c) → Answers heard (receiver_at way c).link → ArePushed pushed (receiver_at way c).assembly
    → Happens old (Deliver on way) new → OneCame on way sender x pushed us c old new
one_comes low on way sender u x pushed us c old new heard there some units spells facing answers stands happens =
    let d : Delivery on way c old new = delivery on way c old new there happens in
    let port : PortState = receiver_at way d.lines in
    record {
      delivered = d;
      taken = has_taken low sender (receiver_at way c) port u x heard pushed d.given some facing answers stands spells
          (heard_front (line_of way c) u us (receiver_at way c) port [] d.given units d.hears.0);
      after = d.hears.1 ∙ ap (λ (l : LineState). heard_at way c l port) (delivered_from (line_of way c) u us units);
    }

segments_come : Lower → (on : Link) (way : Way) (sender : PortState) (f : List ℕ) (pushed : List (List ℕ)) (x : List ℕ)
    (segs units tail : List (List ℕ)) (c : ChannelState) (old new : System) (heard : List Frame)
    → channel_on old on ≡ Some c → WillGive f pushed (x ∷ segs) → (line_of way c).units ≡ units ++ tail → AreSpelled sender (x ∷ segs) units
    → AreFacing sender (receiver_at way c) → Answers heard (receiver_at way c).link → ArePushed pushed (receiver_at way c).assembly
    → RunsTo Happens old (deliveries (suc (length segs)) on way) new → Reached on way f tail c old new
segments_come low on way sender f pushed x [] units tail c old new heard there will line spelled facing answers stands runs =
    let us : List (List ℕ) = spelled.1 in
    let units_is : (line_of way c).units ≡ spelled.0 ∷ (us ++ tail) = line ∙ ap (λ (l : List (List ℕ)). l ++ tail) spelled.4 in
    let o : OneCame on way sender x pushed (us ++ tail) c old runs.0 =
    one_comes low on way sender spelled.0 x pushed (us ++ tail) c old runs.0 heard there will.0 units_is spelled.2 facing answers stands runs.1 in
    let d : Delivery on way c old runs.0 = o.delivered in
    let port : PortState = receiver_at way d.lines in
    let took : TakesOn on way f d.heard runs.0 =
    subst (λ (given : List (List ℕ)). TakesAll on way given d.heard runs.0) (o.taken.one f will.1) d.took in
    record {
      lines = d.lines;
      heard = d.heard;
      go = d.go;
      left = record {
        after = o.after ∙ ap (λ (l : List (List ℕ)). heard_at way c (line_with (l ++ tail) 0) port) spelled.3;
        same_ends = o.taken.same_ends;
        history = record { heard = o.taken.heard; answers = o.taken.answers; pushed = x ∷ pushed; stands = o.taken.stands };
      };
      took = subst (λ (s : System). TakesOn on way f d.heard s) (sym runs.2) took;
    }
segments_come low on way sender f pushed x (y ∷ segs) units tail c old new heard there will line spelled facing answers stands runs =
    let us : List (List ℕ) = spelled.1 in
    let units_is : (line_of way c).units ≡ spelled.0 ∷ (us ++ tail) = line ∙ ap (λ (l : List (List ℕ)). l ++ tail) spelled.4 in
    let o : OneCame on way sender x pushed (us ++ tail) c old runs.0 =
    one_comes low on way sender spelled.0 x pushed (us ++ tail) c old runs.0 heard there will.0 units_is spelled.2 facing answers stands runs.1 in
    let d : Delivery on way c old runs.0 = o.delivered in
    let port : PortState = receiver_at way d.lines in
    let still : runs.0 ≡ d.heard = subst (λ (given : List (List ℕ)). TakesAll on way given d.heard runs.0) (o.taken.none will.1) d.took in
    let line_is : line_of way d.lines ≡ line_with (us ++ tail) 0 =
    ap (λ (l : ChannelState). line_of way l) o.after ∙ line_heard way c (line_with (us ++ tail) 0) port in
    let r : Reached on way f tail d.lines d.heard new =
    segments_come low on way sender f (x ∷ pushed) y segs us tail d.lines d.heard new o.taken.heard d.go.after will.2
    (ap (λ (l : LineState). l.units) line_is) spelled.3 (o.taken.same_ends ∙ facing) o.taken.answers o.taken.stands
    (subst (λ (s : System). RunsTo Happens s (deliveries (suc (length segs)) on way) new) still runs.2) in
    let last : PortState = receiver_at way r.lines in
    record {
      lines = r.lines;
      heard = r.heard;
      go = lines_both on c d.lines r.lines old d.heard r.heard d.go r.go;
      left = record {
        after = r.left.after ∙ ap (λ (l : ChannelState). heard_at way l (line_with tail 0) last) o.after
            ∙ heard_again way c (line_with (us ++ tail) 0) (line_with tail 0) port last;
        same_ends = r.left.same_ends ∙ o.taken.same_ends;
        history = r.left.history;
      };
      took = r.took;
    }

-- the units of a fragment at the front of the line
pub fragment_comes : Lower → (on : Link) (way : Way) (sender : PortState) (f : List ℕ) (first tail : List (List ℕ)) (c : ChannelState) (old new : System)
    → channel_on old on ≡ Some c → IsInUnits sender f first → (line_of way c).units ≡ first ++ tail → AreFacing sender (receiver_at way c)
    → HasHistory (receiver_at way c) → RunsTo Happens old (deliveries (length first) on way) new → Reached on way f tail c old new
fragment_comes low on way sender f first tail c old new there units line facing history runs =
    from (cuts f units.number) (cuts_will_give low f units.number history.pushed units.some units.fits) units.spelled
  where
    from : (cs : List (List ℕ)) → WillGive f history.pushed cs → AreSpelled sender cs first → Reached on way f tail c old new
    from [] will spelled = absurd will
    from (x ∷ segs) will spelled =
        let count : length first ≡ suc (length segs) = spelled_length sender (x ∷ segs) first spelled in
        segments_come low on way sender f history.pushed x segs first tail c old new history.heard there will line spelled facing history.answers
        history.stands (subst (λ (n : ℕ). RunsTo Happens old (deliveries n on way) new) count runs)
