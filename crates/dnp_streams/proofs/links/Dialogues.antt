-- A dialogue under way, step by step.
use Rattle.std.proofs.Common.{◌≡◌, ◌⊎◌, inl, inr, ℕ, ◌+◌, ◌≤◌, ◌<◌, Bool, true, false, List, [], ◌∷◌, ◌++◌, length, Option, Result, Ok, Err, refl, sym, ap, ◌∙◌, subst, append_assoc, append-nil, length-append, arith}
use Rattle.std.specs.Prelude.{⊤, option_to_list}
use Rattle.std.specs.Io.KnownBytes.{Appends, Consumes, IsAtEnd}
use Rattle.std.proofs.KnownBytes.{Appends-nil, Appends-trans, Consumes-nil, Consumes-trans}
use Rattle.arrayvec.specs.ArrayVec.{ArrayVec}
use Rattle.dnp_controls.specs.declared.book.BookFault.{BookFault}
use Rattle.dnp_concentrator.specs.Relayed.{with_request}
use Rattle.dnp_concentrator.specs.declared.relayed.Relayed.{Relayed}
use Rattle.dnp_concentrator.specs.declared.relayed.RelayedStep.{RelayedStep}
use Rattle.dnp_concentrator.specs.declared.relayed.RelayedStep.TheVariants as step
use Rattle.dnp_master.specs.declared.fault.AskFault.{AskFault}
use Rattle.dnp_line.specs.Ports.{PortState}
use Rattle.dnp_linkframe.specs.declared.frame.Frame.{Frame}
use Rattle.dnp_linkframe.specs.Stream.{Gives}
use Rattle.dnp_master.specs.declared.outcome.Outcome.{Outcome}
use Rattle.dnp_master.specs.declared.task.Task.{Task}
use Rattle.dnp_streams.specs.declared.stream.station.StationFault.{StationFault}
use Rattle.dnp_streams.specs.declared.writing.NotWritten.{NotWritten}
use Rattle.dnp_streams.specs.streams.Counts.{most}
use Rattle.dnp_streams.specs.streams.Dialogues as old
use Rattle.dnp_streams.specs.streams.Dialogues.{Begins, Goes, Dialogue, HearsAsking, Makes, MakesAll, Step, Going, Hearing, answered, heard_in, is_nothing, refused, unbegun}
use Rattle.std.proofs.lemmas.Bool.{false≢true}
use Rattle.dnp_streams.specs.declared.stream.asked.Asked.{Asked}
use Rattle.dnp_streams.specs.declared.stream.serve.ServeFault.{ServeFault}
use Rattle.dnp_streams.specs.declared.stream.serve.ServeFault.TheVariants.{WriteFailed, Memory}
use Rattle.dnp_streams.specs.streams.Stations.{Answer, Endpoint, endpoint}
use Rattle.dnp_streams.specs.streams.Talking.{Talk, Talks, TalkEnds}
use Rattle.dnp_streams.specs.declared.stream.ask.Gone.{Gone}
use Rattle.dnp_streams.specs.declared.stream.ask.Gone.TheVariants as gone
use Rattle.dnp_streams.specs.streams.Spelled.{AreSpelled, port_after}
use Rattle.dnp_streams.specs.declared.link.answering.Heard.{Heard}
use Rattle.dnp_streams.specs.declared.link.answering.Told.{Told}
use Rattle.dnp_streams.specs.declared.stream.agenda.Agenda.{Agenda}
use Rattle.dnp_streams.specs.steps.Asking.{IsAnswered, IsFresh, IsRefused, fault_by, IsTold, IsToldAsked, IsToldHeard, IsToldRelayed, Steps, Talking, dialogue_of}
use Rattle.dnp_streams.specs.links.Deeds.{Asked as AskedDeed, Came, Deed, Joined, Part, Whole, Opened, Relaid, Reply, Ways, done_of, frames_of, heard_of, relaid_of, told_in, told_of}
use Rattle.dnp_streams.specs.links.Links.{Does, Feeds, LinkState, new_link, Makes as MakesStep}
use Rattle.dnp_streams.specs.steps.Serving.{WritesOut, left_with}
use Rattle.dnp_streams.proofs.streams.Spelling.{spelled_joined, spelled_none}

-- ---- steps

-- a dialogue is as its parts are
dialogue_is : {S : Type 0} {station station' : S} {port port' : PortState} {left left' : List Task} {rows rows' : ℕ} {outcomes outcomes' : List Outcome}
    {faults faults' : ℕ} {begun begun' over over' : Bool}
    → station ≡ station' → port ≡ port' → left ≡ left' → rows ≡ rows' → outcomes ≡ outcomes' → faults ≡ faults' → begun ≡ begun' → over ≡ over'
    → ◌≡◌ {A = Dialogue S}
    record { station = station; port = port; left = left; rows = rows; outcomes = outcomes; faults = faults; is_begun = begun; is_over = over }
    record { station = station'; port = port'; left = left'; rows = rows'; outcomes = outcomes'; faults = faults'; is_begun = begun'; is_over = over' }
dialogue_is a b c d e f g h = cc

-- what the station answered was told, or that it refused
answered_is : {S : Type 0} (s s' : S) (p port p' : PortState) (answer : Answer) (c c' : Agenda) → p' ≡ port_after port answer.send → IsAnswered c (told_in answer) c'
    → dialogue_of s' p' c' ≡ answered (dialogue_of s p c) s' port answer
answered_is s s' p port p' answer c c' moved t = dialogue_is refl moved (ap (λ l. l.now) t.left) t.rows t.outcomes t.faults t.begun t.over

refused_is : {S : Type 0} (s s' : S) (p p' : PortState) (c c' : Agenda) → s' ≡ s → p' ≡ p → IsRefused c c' → dialogue_of s' p' c' ≡ refused (dialogue_of s p c)
refused_is s s' p p' c c' same moved t = dialogue_is same moved (ap (λ l. l.now) t.left) t.rows t.outcomes t.faults t.begun t.over

-- a step of the link is one of the dialogue
step_of : {S : Type 0} {Made : Dialogue S → List Frame → Dialogue S → Type 0} {d d' : Dialogue S} {link link' : LinkState} (deed : Deed) (does : Does link deed link')
    → Made d does.frames d' → Steps Made (frames_of deed) d link d' link'
step_of deed does made = record { sent = does.frames; made = made; put = does.put; partial = does.partial; waiting = does.waiting }

-- the station was opened
pub begins_by : {S : Type 0} (w : Ways S) (honest : Type 0) (s s' : S) (link link' : LinkState) (now : ℕ) (reply : Reply) (result : Result Told StationFault) (c c' : Agenda)
    → honest → result ≡ told_of reply → MakesStep w honest link s (Opened now reply) link' s' → IsTold (record c { is_begun = true }) result c'
    → Steps (λ d sent d'. Begins w.opens now d sent d') [] (dialogue_of s link.port c) link (dialogue_of s' link'.port c') link'
begins_by w honest s s' link link' now (Ok answer) result c c' is_honest is made told =
    let t = subst (λ (r : Result Told StationFault). IsTold (record c { is_begun = true }) r c') is told in
    let (are, moved) = made.does.carries in
    step_of (Opened now (Ok answer)) made.does
    (old.Opened answer s' (made.acts is_honest) are (answered_is s s' link.port link.port link'.port answer (record c { is_begun = true }) c' moved t))
begins_by w honest s s' link link' now (Err fault) result c c' is_honest is made told =
    let t = subst (λ (r : Result Told StationFault). IsTold (record c { is_begun = true }) r c') is told in
    let (are, moved) = made.does.carries in
    let (refuses, same) = made.acts is_honest in
    step_of (Opened now (Err fault)) made.does
    (old.Unopened fault refuses are (refused_is s s' link.port link'.port (record c { is_begun = true }) c' same moved t))

-- a frame came
pub hears_by : {S : Type 0} (w : Ways S) (honest : Type 0) (s s' : S) (link link' : LinkState) (now : ℕ) (frame : Frame) (joined : Joined) (result : Heard) (c c' : Agenda)
    → honest → c.is_over ≡ false → result ≡ heard_of joined → MakesStep w honest link s (Came now frame joined) link' s' → IsToldHeard c result c'
    → Steps (λ d sent d'. HearsAsking w.receives now d frame sent d') (frame ∷ []) (dialogue_of s link.port c) link (dialogue_of s' link'.port c') link'
hears_by w honest s s' link link' now frame Part result c c' is_honest goes_on is made told =
    let t : c' ≡ c = subst (λ (r : Heard). IsToldHeard c r c') is told in
    let (taken, takes, part, are) = made.does.carries in
    step_of (Came now frame Part) made.does (old.Unfinished taken link'.port takes part are (cc (t, made.acts is_honest)))
hears_by w honest s s' link link' now frame (Whole fragment (Ok answer)) result c c' is_honest goes_on is made told =
    let t = subst (λ (r : Heard). IsToldHeard c r c') is told in
    let (taken, heard, sent, takes, whole, shown, (are, moved), both) = made.does.carries in
    step_of (Came now frame (Whole fragment (Ok answer))) made.does
    (old.Answered taken heard fragment takes whole shown answer s' (made.acts is_honest) (both ∙ ap (λ (fs : List Frame). option_to_list taken.reply ++ fs) are)
    (answered_is s s' link.port heard link'.port answer c c' moved t))
hears_by w honest s s' link link' now frame (Whole fragment (Err fault)) result c c' is_honest goes_on is made told =
    let t = subst (λ (r : Heard). IsToldHeard c r c') is told in
    let (taken, heard, sent, takes, whole, shown, (are, moved), both) = made.does.carries in
    let (refuses, same) = made.acts is_honest in
    step_of (Came now frame (Whole fragment (Err fault))) made.does
    (old.Unanswered taken heard fragment takes whole shown fault refuses
    (both ∙ ap (λ (fs : List Frame). option_to_list taken.reply ++ fs) are ∙ append-nil (option_to_list taken.reply)) (refused_is s s' heard link'.port c c' same moved t))

-- the idle station asked a task, or refused it; where that is one of those that were left, d is the agenda without it
pub asks_by : {S : Type 0} (w : Ways S) (honest : Type 0) (s s' : S) (link link' : LinkState) (now : ℕ) (task : Task) (left : List Task) (reply : Result (List ℕ) AskFault)
    (result : Result ⊤ AskFault) (c d c' : Agenda)
    → honest → c.left.now ≡ task ∷ left → ((x : S) (p : PortState) → dialogue_of x p d ≡ record (dialogue_of x p c) { left = left })
    → result ≡ done_of reply → MakesStep w honest link s (AskedDeed now task reply) link' s' → IsToldAsked d result c'
    → Steps (λ a sent b. Goes w.asking now a sent b) [] (dialogue_of s link.port c) link (dialogue_of s' link'.port c') link'
asks_by {S} w honest s s' link link' now task left (Ok request) result c d c' is_honest first rest is made told =
    let t : c' ≡ d = subst (λ (r : Result ⊤ AskFault). IsToldAsked d r c') is told in
    let (are, moved) = made.does.carries in
    step_of (AskedDeed now task (Ok request)) made.does
    (old.Asked task left first request s' (made.acts is_honest) are
    (ap (λ (x : Agenda). dialogue_of s' link'.port x) t ∙ rest s' link'.port ∙ ap (λ (p : PortState). record (dialogue_of s' p c) { left = left }) moved))
asks_by {S} w honest s s' link link' now task left (Err fault) result c d c' is_honest first rest is made told =
    let t = subst (λ (r : Result ⊤ AskFault). IsToldAsked d r c') is told in
    let (are, moved) = made.does.carries in
    let (refuses, same) = made.acts is_honest in
    step_of (AskedDeed now task (Err fault)) made.does
    (old.Unasked task left first fault refuses are
    (refused_is s s' link.port link'.port d c' same moved t ∙ ap (λ (x : Dialogue S). refused x) (rest s link.port)))

-- it relayed, or refused to
relays_to : {S : Type 0} (w : Ways S) (honest : Type 0) (s s' : S) (link link' : LinkState) (now : ℕ) (relayed : Relayed) (c c' : Agenda)
    → honest → c.left.now ≡ [] → MakesStep w honest link s (Relaid now (Ok relayed)) link' s' → c' ≡ record c { is_over = is_nothing relayed }
    → Steps (λ a sent b. Goes w.asking now a sent b) [] (dialogue_of s link.port c) link (dialogue_of s' link'.port c') link'
relays_to w honest s s' link link' now relayed c c' is_honest none made t =
    let (are, moved) = made.does.carries in
    step_of (Relaid now (Ok relayed)) made.does
    (old.Relays none relayed s' (made.acts is_honest) are
    (ap (λ (x : Agenda). dialogue_of s' link'.port x) t ∙ ap (λ (p : PortState). dialogue_of s' p (record c { is_over = is_nothing relayed })) moved))

pub relays_by : {S : Type 0} (w : Ways S) (honest : Type 0) (s s' : S) (link link' : LinkState) (now : ℕ) (result : Result RelayedStep BookFault) (request : ArrayVec ℕ)
    (c c' : Agenda) → honest → c.left.now ≡ [] → c.is_over ≡ false
    → MakesStep w honest link s (Relaid now (relaid_of result request)) link' s' → IsToldRelayed c result c'
    → Steps (λ a sent b. Goes w.asking now a sent b) [] (dialogue_of s link.port c) link (dialogue_of s' link'.port c') link'
relays_by w honest s s' link link' now (Ok step.Nothing) request c c' is_honest none goes_on made t =
    relays_to w honest s s' link link' now (with_request step.Nothing request) c c' is_honest none made t
relays_by w honest s s' link link' now (Ok step) request c c' is_honest none goes_on made t =
    relays_to w honest s s' link link' now (with_request step request) c c' is_honest none made (t ∙ ap (λ (over : Bool). record c { is_over = over }) goes_on)
relays_by w honest s s' link link' now (Err fault) request c c' is_honest none goes_on made t =
    let (are, moved) = made.does.carries in
    let (refuses, same) = made.acts is_honest in
    step_of (Relaid now (Err fault)) made.does
    (old.Unrelayed none fault refuses are (refused_is s s' link.port link'.port (record c { is_over = true }) c' same moved t))

-- ---- one step more

makes_more : {S : Type 0} (w : Ways S) (now : ℕ) (began d d' : Dialogue S) (steps : List Step) (step : Step) (sent more : List Frame)
    → MakesAll w.opens w.receives w.asking now began steps sent d → d.is_over ≡ false → Makes w.opens w.receives w.asking now d step more d'
    → MakesAll w.opens w.receives w.asking now began (steps ++ step ∷ []) (sent ++ more) d'
makes_more {S} w now began d d' [] step sent more (none, same) goes_on one = (
  more,
  d',
  [],
  subst (λ (x : Dialogue S). x.is_over ≡ false) same goes_on,
  subst (λ (x : Dialogue S). Makes w.opens w.receives w.asking now x step more d') same one,
  (refl, refl),
  ap (λ (t : List Frame). t ++ more) none ∙ sym (append-nil more),
)
makes_more w now began d d' (s ∷ steps) step sent more (first, next, later, here, made, all, both) goes_on one = (
  first,
  next,
  later ++ more,
  here,
  made,
  makes_more w now next d d' steps step later more all goes_on one,
  ap (λ (t : List Frame). t ++ more) both ∙ append_assoc first later more,
)

heard_more : (steps : List Step) (step : Step) → heard_in (steps ++ step ∷ []) ≡ heard_in steps ++ heard_in (step ∷ [])
heard_more [] step = refl
heard_more (Hearing frame ∷ steps) step = ap (λ (fs : List Frame). frame ∷ fs) (heard_more steps step)
heard_more (s ∷ steps) step = heard_more steps step

-- ---- a dialogue under way

pub talking_more : {S : Type 0} {Made : Dialogue S → List Frame → Dialogue S → Type 0} (w : Ways S) (now reads : ℕ) (began : Dialogue S)
    (left left' held held' : Option (List ℕ)) (d d' : Dialogue S) (link link' : LinkState) (step : Step) → d.is_over ≡ false
    → (one : Steps Made (heard_in (step ∷ [])) d link d' link') → Makes w.opens w.receives w.asking now d step one.sent d' → (t : Talking w now reads began left left' held held' d link)
    → (t' : Talking w now reads began left left' held held' d' link') × (length t'.steps ≡ length t.steps + 1)
talking_more w now reads began left left' held held' d d' link link' step goes_on one made t = (
  record {
    steps = t.steps ++ step ∷ [];
    sent = t.sent ++ one.sent;
    received = t.received;
    handed = t.handed;
    makes = makes_more w now began d d' t.steps step t.sent one.sent t.makes goes_on made;
    spelled =
        subst (λ (o : List ℕ). AreSpelled (t.sent ++ one.sent) o)
        (append_assoc t.handed link.pending one.put.octets ∙ ap (λ (o : List ℕ). t.handed ++ o) (sym one.put.whole))
        (spelled_joined t.sent one.sent (t.handed ++ link.pending) one.put.octets t.spelled one.put.spelled);
    gives =
        let here : heard_in t.steps ++ link.waiting ≡ heard_in (t.steps ++ step ∷ []) ++ link'.waiting =
        ap (λ (fs : List Frame). heard_in t.steps ++ fs) one.waiting ∙ sym (append_assoc (heard_in t.steps) (heard_in (step ∷ [])) link'.waiting)
        ∙ ap (λ (fs : List Frame). fs ++ link'.waiting) (sym (heard_more t.steps step)) in
        subst (λ (fs : List Frame). Gives t.received fs link'.partial) here
        (subst (λ (o : List ℕ). Gives t.received (heard_in t.steps ++ link.waiting) o) (sym one.partial) t.gives);
    often = t.often;
    read = t.read;
    written = t.written;
  },
  length-append t.steps (step ∷ []),
)

-- what waited was written, or a beginning of it
talking_written : {S : Type 0} (w : Ways S) (now reads : ℕ) (began : Dialogue S) (left left' held held' held'' : Option (List ℕ)) (d : Dialogue S) (link : LinkState)
    (part rest : List ℕ) → link.pending ≡ part ++ rest → Appends held' held'' part → (t : Talking w now reads began left left' held held' d link)
    → (t' : Talking w now reads began left left' held held'' d (left_with link rest)) × (length t'.steps ≡ length t.steps)
talking_written w now reads began left left' held held' held'' d link part rest split appended t = (
  record {
    steps = t.steps;
    sent = t.sent;
    received = t.received;
    handed = t.handed ++ part;
    makes = t.makes;
    spelled =
        subst (λ (o : List ℕ). AreSpelled t.sent o) (ap (λ (o : List ℕ). t.handed ++ o) split ∙ sym (append_assoc t.handed part rest)) t.spelled;
    gives = t.gives;
    often = t.often;
    read = t.read;
    written = Appends-trans held held' held'' t.handed part t.written appended;
  },
  refl,
)

pub talking_sent : {S : Type 0} (w : Ways S) (now reads : ℕ) (began : Dialogue S) (left left' held held' held'' : Option (List ℕ)) (s : S) (c : Agenda)
    (link link' : LinkState) (result : Result ⊤ NotWritten) → WritesOut link held' result link' held''
    → (t : Talking w now reads began left left' held held' (dialogue_of s link.port c) link)
    → (t' : Talking w now reads began left left' held held'' (dialogue_of s link'.port c) link') × (length t'.steps ≡ length t.steps)
talking_sent w now reads began left left' held held' held'' s c link link' (Ok done) (same, appended) t =
    subst (λ (l : LinkState). (t' : Talking w now reads began left left' held held'' (dialogue_of s l.port c) l) × (length t'.steps ≡ length t.steps)) (sym same)
    (talking_written w now reads began left left' held held' held'' (dialogue_of s link.port c) link link.pending [] (sym (append-nil link.pending)) appended t)
talking_sent w now reads began left left' held held' held'' s c link link' (Err fault) (part, rest, split, same, appended) t =
    subst (λ (l : LinkState). (t' : Talking w now reads began left left' held held'' (dialogue_of s l.port c) l) × (length t'.steps ≡ length t.steps)) (sym same)
    (talking_written w now reads began left left' held held' held'' (dialogue_of s link.port c) link part rest split appended t)

-- octets came
pub talking_fed : {S : Type 0} (w : Ways S) (now reads : ℕ) (began : Dialogue S) (left left' left'' held held' : Option (List ℕ)) (s : S) (c : Agenda)
    (link link' : LinkState) (octets : List ℕ) → Feeds link octets link' → Consumes left' left'' octets → 0 < length octets
    → Talking w now reads began left left' held held' (dialogue_of s link.port c) link
    → Talking w now (reads + 1) began left left'' held held' (dialogue_of s link'.port c) link'
talking_fed w now reads began left left' left'' held held' s c link link' octets feeds consumed some t =
    subst (λ (l : LinkState). Talking w now (reads + 1) began left left'' held held' (dialogue_of s l.port c) l) (sym feeds.after) record {
      steps = t.steps;
      sent = t.sent;
      received = t.received ++ octets;
      handed = t.handed;
      makes = t.makes;
      spelled = t.spelled;
      gives =
          subst (λ (fs : List Frame). Gives (t.received ++ octets) fs feeds.partial) (append_assoc (heard_in t.steps) link.waiting feeds.frames)
          (feeds.gives t.received (heard_in t.steps ++ link.waiting) t.gives);
      often = omega (arith, t.often, some, length-append t.received octets);
      read = Consumes-trans left left' left'' t.received octets t.read consumed;
      written = t.written;
    }

-- ---- turns

pub none_left : (left : List Task) → length left ≡ 0 → left ≡ []
none_left [] none = refl
none_left (task ∷ left) none = absurd (omega (arith, none))

-- the idle station made a step, and what it sent was written, or a beginning of it
pub talking_goes : {S : Type 0} (w : Ways S) (now reads : ℕ) (began : Dialogue S) (left left' from held held' : Option (List ℕ)) (s s' : S) (c c' : Agenda)
    (link link' link'' : LinkState) (result : Result ⊤ NotWritten) → c.is_begun ≡ true → w.asking.is_idle s ≡ true → c.is_over ≡ false
    → Steps (λ a sent b. Goes w.asking now a sent b) [] (dialogue_of s link.port c) link (dialogue_of s' link'.port c') link' → WritesOut link' held result link'' held'
    → (t : Talking w now reads began left left' from held (dialogue_of s link.port c) link)
    → (t' : Talking w now reads began left left' from held' (dialogue_of s' link''.port c') link'') × (length t'.steps ≡ length t.steps + 1)
talking_goes w now reads began left left' from held held' s s' c c' link link' link'' result begun idle goes_on one written t =
    let (t', n) = talking_more w now reads began left left' from held (dialogue_of s link.port c) (dialogue_of s' link'.port c') link link' Going goes_on one
    (begun, idle, one.made) t in
    let (t'', m) = talking_sent w now reads began left left' from held held' s' c' link' link'' result written t' in
    (t'', m ∙ n)

-- room was made for an outcome
pub talking_room : {S : Type 0} (w : Ways S) (now reads : ℕ) (began : Dialogue S) (left left' from held : Option (List ℕ)) (s : S) (c c' : Agenda) (link : LinkState)
    → c'.left ≡ c.left → c'.asked.rows ≡ c.asked.rows → c'.asked.outcomes.items ≡ c.asked.outcomes.items → c'.asked.faults ≡ c.asked.faults
    → c'.is_begun ≡ c.is_begun → c'.is_over ≡ c.is_over
    → Talking w now reads began left left' from held (dialogue_of s link.port c) link → Talking w now reads began left left' from held (dialogue_of s link.port c') link
talking_room {S} w now reads began left left' from held s c c' link a b e f g h t =
    subst (λ (d : Dialogue S). Talking w now reads began left left' from held d link)
    (dialogue_is refl refl (sym (ap (λ l. l.now) a)) (sym b) (sym e) (sym f) (sym g) (sym h)) t

-- from the beginning
pub talking_unbegun : {S : Type 0} (w : Ways S) (now : ℕ) (s : S) (c : Agenda) (left held : Option (List ℕ)) (link : LinkState) → IsFresh c → link ≡ new_link link.port
    → Talking w now 0 (unbegun (endpoint s link.port) c.left.now) left left held held (dialogue_of s link.port c) link
talking_unbegun {S} w now s c left held link fresh new =
    subst (λ (l : LinkState). Talking w now 0 (unbegun (endpoint s link.port) c.left.now) left left held held (dialogue_of s l.port c) l) (sym new) record {
      steps = [];
      sent = [];
      received = [];
      handed = [];
      makes = (refl, dialogue_is refl refl refl fresh.rows fresh.outcomes fresh.faults fresh.begun fresh.over);
      spelled = spelled_none;
      gives = record { decisions = 0; after = (refl, refl); waits = λ ten. absurd (omega (arith, ten)) };
      often = omega arith;
      read = Consumes-nil left;
      written = Appends-nil held;
    }

-- ---- how it ends

-- what went through the stream
abbrev pub talk_by : {S : Type 0} (w : Ways S) (now reads : ℕ) (began : Dialogue S) (left left' held held' : Option (List ℕ)) (d : Dialogue S) (link : LinkState)
    → Talking w now reads began left left' held held' d link → List ℕ → Talk S
talk_by w now reads began left left' held held' d link t refused = record {
  octets = t.received;
  refused = refused;
  steps = t.steps;
  sent = t.sent;
  ended = d;
  unheard = link.waiting;
  written = t.handed;
  unwritten = link.pending;
}

pub talks_by : {S : Type 0} (w : Ways S) (now reads turns : ℕ) (old : Endpoint S) (tasks : List Task) (left left' left'' held held' : Option (List ℕ)) (s : S) (c : Agenda)
    (link : LinkState) (refused : List ℕ) (result : Result Asked ServeFault)
    → (t : Talking w now reads (unbegun old tasks) left left' held held' (dialogue_of s link.port c) link) → Consumes left' left'' refused
    → TalkEnds w.asking.is_idle turns (talk_by w now reads (unbegun old tasks) left left' held held' (dialogue_of s link.port c) link t refused) (IsAtEnd left'') result
    → Talks w.opens w.receives w.asking now turns old tasks left left'' held held' result (endpoint s link.port)
talks_by w now reads turns old tasks left left' left'' held held' s c link refused result t last ends = record {
  talk = talk_by w now reads (unbegun old tasks) left left' held held' (dialogue_of s link.port c) link t refused;
  read = Consumes-trans left left' left'' t.received refused t.read last;
  waiting = link.partial;
  gives = t.gives;
  makes = t.makes;
  spelled = t.spelled;
  appended = t.written;
  ends = ends;
  came_to = refl;
}

-- it can't go on
pub talks_gone : {S : Type 0} (w : Ways S) (now reads turns : ℕ) (old : Endpoint S) (tasks : List Task) (left left' held held' : Option (List ℕ)) (s : S) (c : Agenda)
    (link : LinkState) (fault : Gone) (told : ServeFault) → told ≡ fault_by fault → (fault ≡ gone.Memory → (c.is_over ≡ false) × (link.pending ≡ []))
    → Talking w now reads (unbegun old tasks) left left' held held' (dialogue_of s link.port c) link
    → Talks w.opens w.receives w.asking now turns old tasks left left' held held' (Err told) (endpoint s link.port)
talks_gone w now reads turns old tasks left left' held held' s c link gone.Unwritten told is wanting t =
    subst (λ (f : ServeFault). Talks w.opens w.receives w.asking now turns old tasks left left' held held' (Err f) (endpoint s link.port)) (sym is)
    (talks_by w now reads turns old tasks left left' left' held held' s c link [] (Err WriteFailed) t (Consumes-nil left') refl)
talks_gone w now reads turns old tasks left left' held held' s c link gone.Memory told is wanting t =
    subst (λ (f : ServeFault). Talks w.opens w.receives w.asking now turns old tasks left left' held held' (Err f) (endpoint s link.port)) (sym is)
    (talks_by w now reads turns old tasks left left' left' held held' s c link [] (Err Memory) t (Consumes-nil left')
    record { goes_on = (wanting refl).0; answered = (wanting refl).1; short = inr refl })

-- all was over
pub talks_over : {S : Type 0} (w : Ways S) (now reads turns : ℕ) (old : Endpoint S) (tasks : List Task) (left left' held held' : Option (List ℕ)) (s : S) (c : Agenda)
    (link : LinkState) → link.pending ≡ [] → (t : Talking w now reads (unbegun old tasks) left left' held held' (dialogue_of s link.port c) link)
    → (c.is_over ≡ true) ⊎ (most ≤ length t.steps)
    → Talks w.opens w.receives w.asking now turns old tasks left left' held held' (Ok c.asked) (endpoint s link.port)
talks_over w now reads turns old tasks left left' held held' s c link none t over =
    talks_by w now reads turns old tasks left left' left' held held' s c link [] (Ok c.asked) t (Consumes-nil left') record {
      rows = refl;
      outcomes = refl;
      faults = refl;
      looked_at = refl;
      answered = none;
      ended = λ goes_on. elim over [ inl is ↦ absurd (false≢true (sym goes_on ∙ is)) | inr many ↦ inr many ];
    }

-- the link is what it was
pub talking_same : {S : Type 0} (w : Ways S) (now reads : ℕ) (began : Dialogue S) (left left' held held' : Option (List ℕ)) (s : S) (c : Agenda) (link link' : LinkState)
    → link ≡ link' → Talking w now reads began left left' held held' (dialogue_of s link.port c) link
    → Talking w now reads began left left' held held' (dialogue_of s link'.port c) link'
talking_same w now reads began left left' held held' s c link link' same t =
    subst (λ (l : LinkState). Talking w now reads began left left' held held' (dialogue_of s l.port c) l) same t
