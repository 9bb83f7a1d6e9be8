-- Definition: what events of each kind make of a system: the stations by their functions, the lines and ports by those of
-- `dnp_line`, the lists of what became of rows and commands by what the stations did, and nothing else (IEEE Std 1815-2012:
-- application layer, transport function and data link layer together).
use Rattle.std.specs.Prelude.{◌≡◌, ◌≢◌, ℕ, ◌<◌, Bool, true, false, not, if◌then◌else◌, ◌⊎◌, List, [], ◌∷◌, ◌++◌, length, map, drop, slice_get, slice_set, Option, Some, None, IfSome, option_to_list, Result, Ok, Err, ⊤}
use Rattle.dnp_objects.specs.declared.row.Row.{Row}
use Rattle.dnp_objects.specs.declared.row.Kind.{Kind}
use Rattle.dnp_objects.specs.declared.command.Command.{Command}
use Rattle.dnp_objects.specs.declared.lane.LaneRow.{LaneRow}
use Rattle.dnp_objects.specs.declared.limits.TheConstants.{MAX_ID}
use Rattle.dnp_pointdb.specs.declared.reading.Reading.{Reading}
use Rattle.dnp_pointdb.specs.declared.fault.ChangeFault.{ChangeFault}
use Rattle.dnp_pointdb.specs.Database.{answer_of}
use Rattle.dnp_controls.specs.Book.{added, entry_of, Has, is_finished, is_pending}
use Rattle.dnp_controls.specs.declared.book.Entry.{Entry}
use Rattle.dnp_eventbuf.specs.Archive.{with_events}
use Rattle.dnp_eventbuf.specs.EventBuffer.{exhausts, with_rows, dropped_by, without_all, rows_in}
use Rattle.dnp_line.specs.Lines.{LineState, front_of}
use Rattle.dnp_line.specs.Ports.{PortState}
use Rattle.dnp_line.specs.Ways.{HearsIfAny}
use Rattle.dnp_master.specs.declared.fault.AskFault.{AskFault}
use Rattle.dnp_master.specs.declared.fault.MasterFault.{MasterFault}
use Rattle.dnp_master.specs.declared.task.Task.{Task}
use Rattle.dnp_master.specs.declared.task.Task.TheVariants as task
use Rattle.dnp_master.specs.State as master
use Rattle.dnp_master.specs.Calls.{Taking, ask_answer, receive_of}
use Rattle.dnp_outstation.specs.State.{Step}
use Rattle.dnp_outstation.specs.Calls.{connection_after, tick_of, change_of, opened_of, performed_in, restarted_core}
use Rattle.dnp_outstation.specs.Connection.{closed}
use Rattle.dnp_outstation.specs.Station.{with_points}
use Rattle.dnp_concentrator.specs.Below.{readings_set}
use Rattle.dnp_concentrator.specs.BookOutputs.{all_added}
use Rattle.dnp_concentrator.specs.Concentrator.{without_link}
use Rattle.dnp_concentrator.specs.Reserving.{none_reserved}
use Rattle.dnp_concentrator.specs.Mapped.{queued_rows}
use Rattle.dnp_appfragment.specs.Fragments.{request_octets}
use Rattle.dnp_master.specs.Requests.{request_for}
use Rattle.dnp_concentrator.specs.Relaying as relaying
use Rattle.dnp_concentrator.specs.Relaying.{Relaying}
use Rattle.dnp_world.specs.Channels.{ChannelState, GoDown, GoUp, cleared, hung_up_at, lost_at}
use Rattle.dnp_world.specs.CommandWidths.{HasWidths}
use Rattle.dnp_world.specs.Systems.{SubstationState, CentreState, ConcentratorState, System, station_of, panel_of, in_state, middle_of, middle_panel, link_at, at_substation}
use Rattle.dnp_world.specs.declared.event.Link.{Link}
use Rattle.dnp_world.specs.declared.event.Link.TheVariants.{Below, Above}
use Rattle.dnp_world.specs.declared.link_event.End.{End}
use Rattle.dnp_world.specs.declared.link_event.End.TheVariants as end
use Rattle.dnp_world.specs.declared.link_event.Way.{Way}
use Rattle.dnp_world.specs.declared.link_event.Way.TheVariants as way

-- ---- parts that change

abbrev pub with_substation : System → ℕ → SubstationState → System
with_substation s substation is = record s { substations = slice_set s.substations substation is }

abbrev pub with_middle : System → ConcentratorState → System
with_middle s concentrator = record s { concentrator = concentrator }

-- the concentrator's link to a substation
abbrev pub with_link : System → ℕ → Relaying → System
with_link s substation link = with_middle s (record s.concentrator { links = slice_set s.concentrator.links substation link })

abbrev pub with_centre_link : System → Relaying → System
with_centre_link s link = record s { centre = record s.centre { link = link } }

-- the readings above of a substation that can't be reached any more
abbrev pub with_lost : System → ℕ → System
with_lost s substation = with_middle s (record s.concentrator { core = without_link s.concentrator.core substation })

-- One substation changes so, and no other; by what it was and is, `rest` says what else becomes of the system.
pub record ChangesAt (substation : ℕ) (Change : SubstationState → SubstationState → Type 0)
    (rest : SubstationState → SubstationState → System → System) (old new : System) : Type 0 where
  pub was : SubstationState
  pub is : SubstationState
  pub there : slice_get old.substations substation ≡ Some was
  pub changed : Change was is
  pub after : new ≡ rest was is (with_substation old substation is)

-- nothing else
abbrev pub same_rest : SubstationState → SubstationState → System → System
same_rest was is s = s

-- the lines of a link change so, and nothing else
abbrev pub LinesChange : Link → (ChannelState → ChannelState → Type 0) → System → System → Type 0
LinesChange (Below substation) Change old new =
    ChangesAt substation (λ was is. Change was.channel is.channel × (is ≡ record was { channel = is.channel })) same_rest old new
LinesChange (Above centre) Change old new = Change old.above new.above × (new ≡ record old { above = new.above })

-- the master of a link, with the control in progress there
abbrev pub relaying_at : System → Link → Relaying
relaying_at s (Below substation) = link_at s.concentrator substation
relaying_at s (Above centre) = s.centre.link

abbrev pub with_relaying : System → Link → Relaying → System
with_relaying s (Below substation) link = with_link s substation link
with_relaying s (Above centre) link = with_centre_link s link

-- the master of a link becomes this, and these fragments go down
abbrev pub SendsDown : Link → List (List ℕ) → Relaying → System → System → Type 0
SendsDown on fragments link old new = LinesChange on (GoDown fragments) (with_relaying old on link) new

-- ---- calls of the outstations

-- the substation's outstation takes this step, and what it sends goes up from these lines
pub record SubstationSteps (step : Step) (lines : ChannelState) (was is : SubstationState) : Type 0 where
  pub sent : GoUp step.does.send lines is.channel
  pub after : is ≡ record (in_state was step.state) { channel = is.channel }

-- the concentrator's outstation takes this step, and what it sends goes up from these lines; the commands are added to the book
pub record MiddleSteps (step : Step) (commands : List Command) (lines : ChannelState) (old new : System) : Type 0 where
  pub sent : GoUp step.does.send lines new.above
  pub after : new ≡ record old {
    concentrator = record old.concentrator {
      core = step.state.core;
      queue = step.state.lanes;
      controls = all_added old.concentrator.indices old.concentrator.controls commands;
    };
    above = new.above;
  }

-- ---- opening, hanging up and restarts

abbrev pub OpensOn : Link → System → System → Type 0
OpensOn (Below substation) old new =
    ChangesAt substation (λ was is. SubstationSteps (opened_of (station_of was) old.now) (cleared was.channel) was is) same_rest
    (with_link old substation (relaying.opened (link_at old.concentrator substation))) new
OpensOn (Above centre) old new =
    MiddleSteps (opened_of (middle_of old.concentrator) old.now) [] (cleared old.above)
    (with_centre_link old (relaying.opened old.centre.link)) new

-- a substation whose master hangs up
abbrev pub master_gone : SubstationState → SubstationState
master_gone s = record s { channel = hung_up_at end.Master s.channel }

abbrev pub HangsUpOn : Link → End → System → System → Type 0
HangsUpOn (Below substation) end.Master old new =
    ChangesAt substation (λ was is. is ≡ master_gone was) same_rest
    (with_lost (with_link old substation (relaying.hung_up (link_at old.concentrator substation))) substation) new
HangsUpOn (Below substation) end.Outstation old new =
    ChangesAt substation (λ was is. is ≡ record was { core = closed was.core; channel = hung_up_at end.Outstation was.channel }) same_rest old new
HangsUpOn (Above centre) end.Master old new =
    new ≡ record (with_centre_link old (relaying.hung_up old.centre.link)) { above = hung_up_at end.Master old.above }
HangsUpOn (Above centre) end.Outstation old new =
    new ≡ record old {
      concentrator = record old.concentrator { core = closed old.concentrator.core };
      above = hung_up_at end.Outstation old.above;
    }

abbrev pub concentrator_restarted : System → System
concentrator_restarted s = record s {
  substations = map master_gone s.substations;
  concentrator = record s.concentrator {
    core = restarted_core s.concentrator.core;
    reserved = (λ now. none_reserved);
    links = map relaying.hung_up s.concentrator.links;
  };
  above = hung_up_at end.Outstation s.above;
}

-- its lanes are emptied, and what was in them is listed
abbrev pub SubstationRestarts : ℕ → System → System → Type 0
SubstationRestarts substation old new =
    ChangesAt substation
    (λ was is. is ≡ record was {
      core = restarted_core was.core;
      lanes = without_all was.lanes;
      channel = hung_up_at end.Outstation was.channel;
    })
    (λ was is s. record s { history = record s.history { gone = s.history.gone ++ at_substation substation (rows_in was.lanes) } }) old new

-- ---- what comes over the lines

-- a fragment, if the port gives one, is answered by a substation; these rows are released
abbrev pub SubstationAnswers : List (List ℕ) → ℕ → List Row → SubstationState → SubstationState → Type 0
SubstationAnswers [] now released was is = (released ≡ []) × (is ≡ was)
SubstationAnswers (fragment ∷ others) now released was is =
    let step = connection_after (station_of was) (panel_of was) now fragment in
    (released ≡ step.does.discarded) × SubstationSteps step was.channel was is

-- the front unit comes to a substation, and the line is left so
pub record ComesToSubstation (left : LineState → LineState) (now : ℕ) (released : List Row) (was is : SubstationState) : Type 0 where
  pub port : PortState
  pub given : List (List ℕ)
  pub heard : HearsIfAny (front_of was.channel.down) was.channel.outstation_port port [] given
  pub came : SubstationAnswers given now released
      (record was { channel = record was.channel { down = left was.channel.down; outstation_port = port } }) is

-- what is released is listed as confirmed, and what is performed as operated
pub record ComesDownBelow (left : LineState → LineState) (substation : ℕ) (old new : System) : Type 0 where
  pub released : List Row
  pub came : ChangesAt substation (ComesToSubstation left old.now released)
      (λ was is s. record s {
        history = record s.history {
          confirmed = s.history.confirmed ++ at_substation substation released;
          operated = s.history.operated ++ at_substation substation (drop (length was.outputs.performed) is.outputs.performed);
        };
      }) old new

abbrev pub MiddleAnswers : List (List ℕ) → System → System → Type 0
MiddleAnswers [] old new = new ≡ old
MiddleAnswers (fragment ∷ others) old new =
    let c = old.concentrator in
    MiddleSteps (connection_after (middle_of c) (middle_panel c old.now) old.now fragment) (performed_in c.core (middle_panel c old.now) old.now fragment)
    old.above old new

-- the front unit comes to the concentrator from above
pub record ComesDownAbove (left : LineState → LineState) (old new : System) : Type 0 where
  pub port : PortState
  pub given : List (List ℕ)
  pub heard : HearsIfAny (front_of old.above.down) old.above.outstation_port port [] given
  pub came : MiddleAnswers given (record old { above = record old.above { down = left old.above.down; outstation_port = port } }) new

-- a substation's rows are taken: its events are queued, readings above are set, and the link goes on
abbrev pub concentrator_taken : ConcentratorState → ℕ → Taking → ConcentratorState
concentrator_taken c substation t = record c {
  core = with_points c.core (readings_set c.indices substation (readings_set c.indices substation c.core.points t.events) t.statics);
  queue = with_rows c.queue (queued_rows c.indices c.points substation t.events);
  links = slice_set c.links substation (relaying.received (link_at c substation) t);
}

-- the rows that full lanes of the queue drop for the events
abbrev pub dropped_for : ConcentratorState → ℕ → Taking → List Row
dropped_for c substation t = dropped_by c.queue (queued_rows c.indices c.points substation t.events)

abbrev pub taken_below : System → ℕ → Taking → System
taken_below s substation t = record s {
  concentrator = concentrator_taken s.concentrator substation t;
  history = record s.history { dropped = s.history.dropped ++ dropped_for s.concentrator substation t };
}

-- the centre puts the events into its journal
abbrev pub centre_taken : CentreState → Taking → CentreState
centre_taken c t = record c { link = relaying.received c.link t; journal = with_events c.journal t.events }

abbrev pub taken_above : System → Taking → System
taken_above s t = record s { centre = centre_taken s.centre t }

abbrev pub taken_on : System → Link → Taking → System
taken_on s (Below substation) t = taken_below s substation t
taken_on s (Above centre) t = taken_above s t

-- the queue has numbers left for a substation's events
abbrev pub HasNumbers : ConcentratorState → ℕ → Taking → Type 0
HasNumbers c substation t = t.events ≢ [] → exhausts c.queue (queued_rows c.indices c.points substation t.events) ≡ false

abbrev pub HasNumbersOn : System → Link → Taking → Type 0
HasNumbersOn s (Below substation) t = HasNumbers s.concentrator substation t
HasNumbersOn s (Above centre) t = ⊤

-- the confirm goes down; what the master refuses for itself is lost
abbrev pub MasterReceives : Link → Result Taking MasterFault → System → System → Type 0
MasterReceives on (Ok t) old new = HasNumbersOn old on t × LinesChange on (GoDown (option_to_list t.confirm)) (taken_on old on t) new
MasterReceives on (Err fault) old new = new ≡ old

abbrev pub MasterTakes : Link → List (List ℕ) → System → System → Type 0
MasterTakes on [] old new = new ≡ old
MasterTakes on (fragment ∷ others) old new = MasterReceives on (receive_of (relaying_at old on).master old.now fragment) old new

-- what the front unit of the line up is to the master's port
pub record IsHeardUp (left : LineState → LineState) (given : List (List ℕ)) (old new : ChannelState) : Type 0 where
  pub heard : HearsIfAny (front_of old.up) old.master_port new.master_port [] given
  pub after : new ≡ record old { up = left old.up; master_port = new.master_port }

-- the front unit comes to a master
pub record ComesUp (left : LineState → LineState) (on : Link) (old new : System) : Type 0 where
  pub given : List (List ℕ)
  pub between : System
  pub heard : LinesChange on (IsHeardUp left given) old between
  pub came : MasterTakes on given between new

abbrev pub ComesOn : (LineState → LineState) → Link → Way → System → System → Type 0
ComesOn left (Below substation) way.Down old new = ComesDownBelow left substation old new
ComesOn left (Above centre) way.Down old new = ComesDownAbove left old new
ComesOn left on way.Up old new = ComesUp left on old new

-- ---- losses

abbrev pub LosesOn : Link → Way → System → System → Type 0
LosesOn on way old new = LinesChange on (λ was is. is ≡ lost_at way was) old new

-- ---- readings, tasks and commands

-- what a full lane dropped for the row that the change makes is listed; a reading that the points refuse does nothing
abbrev pub ReadsBy : Result (Option LaneRow) ChangeFault → ℕ → Kind → ℕ → Reading → SubstationState → System → System → Type 0
ReadsBy (Ok made) substation kind index reading was old new =
    let step = change_of (station_of was) old.now kind index reading made in
    IfSome made (λ row. exhausts was.lanes (row ∷ []) ≡ false)
    × ChangesAt substation (SubstationSteps step was.channel)
    (λ was is s. record s { history = record s.history { overwritten = s.history.overwritten ++ at_substation substation step.does.overwritten } })
    old new
ReadsBy (Err fault) substation kind index reading was old new = new ≡ old

pub record Reads (substation : ℕ) (kind : Kind) (index : ℕ) (reading : Reading) (old new : System) : Type 0 where
  pub was : SubstationState
  pub there : slice_get old.substations substation ≡ Some was
  pub reads : ReadsBy (answer_of was.core.points kind index reading) substation kind index reading was old new

abbrev pub request_of : Result (List ℕ) AskFault → List (List ℕ)
request_of (Ok octets) = octets ∷ []
request_of (Err fault) = []

-- a task that the master refuses does nothing; a command is none of the events' own tasks
abbrev pub AsksOn : Bool → Link → Task → System → System → Type 0
AsksOn true on task old new =
    SendsDown on (request_of (ask_answer (relaying_at old on).master task)) (relaying.asking (relaying_at old on) old.now task) old new
AsksOn false on task old new = new ≡ old

-- the request that a step of relaying sends, if it sends one
abbrev pub requests_of : relaying.Step → ℕ → List (List ℕ)
requests_of relaying.Waits seq = []
requests_of (relaying.Selects id command) seq = request_octets (request_for seq (task.Select command)) ∷ []
requests_of (relaying.Operates id command) seq = request_octets (request_for seq (task.Operate command)) ∷ []
requests_of (relaying.Finishes id status) seq = []

-- the step over a link by the book that keeps its controls: that of the concentrator below, and that of the centre above, whose
-- one target is the station below
abbrev pub step_on : System → Link → relaying.Step
step_on s (Below substation) = relaying.step_of (link_at s.concentrator substation) s.concentrator.controls.entries substation
step_on s (Above centre) = relaying.step_of s.centre.link s.centre.orders.entries 0

abbrev pub told : System → Link → relaying.Step → System
told s (Below substation) step =
    with_middle s (record s.concentrator { controls = relaying.ledger_after s.concentrator.controls step })
told s (Above centre) step = record s { centre = record s.centre { orders = relaying.ledger_after s.centre.orders step } }

-- the entries of the book that keeps the link's controls
abbrev pub entries_on : System → Link → List Entry
entries_on s (Below substation) = s.concentrator.controls.entries
entries_on s (Above centre) = s.centre.orders.entries

-- The book grants the step: an OPERATE for a control that is pending, what becomes of a control for one that isn't finished, and what
-- it isn't asked for.
abbrev pub IsGranted : List Entry → relaying.Step → Type 0
IsGranted entries relaying.Waits = ⊤
IsGranted entries (relaying.Selects id command) = ⊤
IsGranted entries (relaying.Operates id command) = Has entries id is_pending
IsGranted entries (relaying.Finishes id status) = Has entries id (λ state. not (is_finished state))

-- the book has not this control
abbrev pub IsMissing : List Entry → ℕ → Type 0
IsMissing entries id = entry_of entries id ≡ None

-- The book refuses the step, which it is asked for an OPERATE and for what becomes of a control: it has no such control, or has it past
-- the step, spent or finished.
abbrev pub IsRefused : List Entry → relaying.Step → Type 0
IsRefused entries relaying.Waits = ⊥
IsRefused entries (relaying.Selects id command) = ⊥
IsRefused entries (relaying.Operates id command) = IsMissing entries id ⊎ Has entries id (λ state. not (is_pending state))
IsRefused entries (relaying.Finishes id status) = IsMissing entries id ⊎ Has entries id is_finished

-- a step that the book grants is done, and one that it refuses for its entry does nothing
pub data RelaysOn (on : Link) (old new : System) : Type 0 where
  Steps : IsGranted (entries_on old on) (step_on old on) → SendsDown on (requests_of (step_on old on) (relaying_at old on).master.seq)
      (relaying.relaying_after (relaying_at old on) old.now (step_on old on)) (told old on (step_on old on)) new → RelaysOn on old new
  Refuses : IsRefused (entries_on old on) (step_on old on) → new ≡ old → RelaysOn on old new

-- a command to no output does nothing; what is issued is a command of a program, so its fields have their widths
abbrev pub IssuesBy : Option Command → ℕ → Command → System → System → Type 0
IssuesBy None substation command old new = new ≡ old
IssuesBy (Some above) substation command old new =
    (old.centre.orders.last_id < MAX_ID)
    × HasWidths command
    × (new ≡ record old {
      centre = record old.centre { orders = added old.centre.orders 0 above };
      history = record old.history { issued = old.history.issued ++ (substation, command) ∷ [] };
    })

-- ---- time

abbrev pub MasterTicks : Link → System → System → Type 0
MasterTicks (Below substation) old new =
    let link = link_at old.concentrator substation in
    let ticked = with_link old substation (relaying.ticked link old.now) in
    new ≡ (if master.is_timed_out link.master old.now then with_lost ticked substation else ticked)
MasterTicks (Above centre) old new = new ≡ with_centre_link old (relaying.ticked old.centre.link old.now)

abbrev pub OutstationTicks : Link → System → System → Type 0
OutstationTicks (Below substation) old new =
    ChangesAt substation (λ was is. SubstationSteps (tick_of (station_of was) old.now) was.channel was is) same_rest old new
OutstationTicks (Above centre) old new = MiddleSteps (tick_of (middle_of old.concentrator) old.now) [] old.above old new
