-- A stream under way, step by step, and how it ends.
use Rattle.std.proofs.Common.{◌≡◌, ℕ, ◌+◌, ◌≤◌, min, Bool, true, false, ◌||◌, List, [], ◌∷◌, ◌++◌, length, Option, Result, Ok, Err, ◌<◌, refl, sym, ap, ◌∙◌, subst, append_assoc, append-nil, length-append, arith, take, drop, take-append-drop}
use Rattle.std.specs.Prelude.{⊤, option_to_list}
use Rattle.std.proofs.lemmas.Bool.{false≢true}
use Rattle.std.specs.Io.KnownBytes.{Appends, Consumes, IsAtEnd}
use Rattle.std.proofs.KnownBytes.{Appends-nil, Appends-trans, Consumes-nil, Consumes-trans}
use Rattle.dnp_line.specs.Ports.{PortState, Takes, IsShown}
use Rattle.dnp_linkframe.specs.declared.frame.Frame.{Frame}
use Rattle.dnp_streams.specs.declared.stream.serve.ServeFault.{ServeFault}
use Rattle.dnp_streams.specs.declared.stream.served.Served.{Served}
use Rattle.dnp_streams.specs.declared.stream.station.StationFault.{StationFault}
use Rattle.dnp_streams.specs.declared.writing.NotWritten.{NotWritten}
use Rattle.dnp_streams.specs.streams.Counts.{Counts, most, none_served}
use Rattle.dnp_streams.specs.streams.Exchanges as old
use Rattle.dnp_streams.specs.streams.Exchanges.{Output, Opens, HearsAll, no_output, output_with}
use Rattle.dnp_streams.specs.streams.Serving.{Serves, StreamEndsBy, Traffic}
use Rattle.dnp_streams.specs.streams.Spelled.{AreSpelled}
use Rattle.dnp_streams.specs.streams.Stations.{Endpoint, Opening, Receiving, endpoint}
use Rattle.dnp_streams.specs.declared.link.answering.Heard.{Heard}
use Rattle.dnp_streams.specs.declared.link.answering.Told.{Told}
use Rattle.dnp_streams.specs.links.Counts.{AreComings, StopsLast, closed_in, closes, faults_in, faults_of, fragments_in, fragments_of, is_closing, is_refusal}
use Rattle.dnp_streams.specs.links.Deeds.{ActsAll, CarriesAll, Deed, Hears, Joined, Joins, Part, Whole, Opened, Came, Replies, Reply, Sends, Ways, frames_in, sends, told_of, heard_of}
use Rattle.dnp_streams.specs.links.Laws.{Stands}
use Rattle.dnp_streams.specs.links.Links.{Feeds, LinkState, Makes, after_sent, new_link}
use Rattle.dnp_streams.specs.steps.Serving.{Runs, Tells, TellsHeard, WritesOut, closed_told, faults_told, left_with}
use Rattle.dnp_streams.proofs.links.Standing.{acts_more, stands_fed, stands_made, stands_new, stands_written}

-- ---- numbers, one step more

or_none : (b : Bool) → (b || false) ≡ b
or_none true = refl
or_none false = refl

or_assoc : (a b c : Bool) → ((a || b) || c) ≡ (a || (b || c))
or_assoc true b c = refl
or_assoc false b c = refl

or_left : (a b : Bool) → (a || b) ≡ false → a ≡ false
or_left true b open_still = open_still
or_left false b open_still = refl

or_right : (a b : Bool) → (a || b) ≡ false → b ≡ false
or_right true true open_still = open_still
or_right true false open_still = refl
or_right false b open_still = open_still

closed_more : (deeds : List Deed) (deed : Deed) → closed_in (deeds ++ deed ∷ []) ≡ (closed_in deeds || closes deed)
closed_more [] deed = or_none (closes deed)
closed_more (d ∷ deeds) deed = ap (λ (b : Bool). closes d || b) (closed_more deeds deed) ∙ sym (or_assoc (closes d) (closed_in deeds) (closes deed))

faults_more : (deeds : List Deed) (deed : Deed) → faults_in (deeds ++ deed ∷ []) ≡ faults_in deeds + faults_of deed
faults_more [] deed = omega arith
faults_more (d ∷ deeds) deed = omega (arith, faults_more deeds deed)

fragments_more : (deeds : List Deed) (deed : Deed) → fragments_in (deeds ++ deed ∷ []) ≡ fragments_in deeds + fragments_of deed
fragments_more [] deed = omega arith
fragments_more (d ∷ deeds) deed = omega (arith, fragments_more deeds deed)

stops_more : (deeds : List Deed) (deed : Deed) → closed_in deeds ≡ false → StopsLast (deeds ++ deed ∷ [])
stops_more [] deed open_still = (λ _. refl, tt)
stops_more (d ∷ deeds) deed open_still = (
  λ closed. absurd (false≢true (sym (or_left (closes d) (closed_in deeds) open_still) ∙ closed)),
  stops_more deeds deed (or_right (closes d) (closed_in deeds) open_still),
)

comings_more : (now : ℕ) (deeds : List Deed) (frame : Frame) (joined : Joined) → AreComings now deeds → AreComings now (deeds ++ Came now frame joined ∷ [])
comings_more now [] frame joined only = (refl, tt)
comings_more now (Came moment f j ∷ deeds) frame joined only = (only.0, comings_more now deeds frame joined only.1)
comings_more now (deed ∷ deeds) frame joined only = absurd only

min_more : (a b m : ℕ) → min (min a m + b) m ≡ min (a + b) m
min_more a b m = grind arith

-- ---- what a reply brings

closed_of : (reply : Reply) → closed_told (told_of reply) ≡ is_closing reply
closed_of (Ok answer) = refl
closed_of (Err fault) = refl

faults_are : (reply : Reply) → faults_told (told_of reply) ≡ is_refusal reply
faults_are (Ok answer) = refl
faults_are (Err fault) = refl

-- ---- a stream under way

pub runs_first : {S : Type 0} (w : Ways S) (now : ℕ) (s s' : S) (left held : Option (List ℕ)) (link link' : LinkState) (reply : Reply) (result : Result Told StationFault)
    (honest : Type 0) (served served' : Served) → link ≡ new_link link.port → served ≡ none_served → honest → result ≡ told_of reply
    → Makes w honest link s (Opened now reply) link' s' → Tells served 0 result served'
    → Runs w now 0 (endpoint s link.port) left left held held s' link' served'
runs_first w now s s' left held link link' reply result honest served served' fresh none is_honest is made tells =
    let deed : Deed = Opened now reply in
    let first : Stands link.port [] [] [] link = subst (λ (l : LinkState). Stands link.port [] [] [] l) (sym fresh) (stands_new link.port) in
    record {
      reply = reply;
      deeds = [];
      received = [];
      handed = [];
      only = tt;
      stops = (λ _. refl, tt);
      acts = (s', made.acts is_honest, refl);
      stands = stands_made link.port [] [] [] deed link link' made.does first;
      fragments = tells.fragments ∙ ap (λ (v : Served). min (v.fragments + 0) most) none;
      faults =
          tells.faults ∙ ap (λ (v : Served). min (v.faults + faults_told result) most) none
          ∙ ap (λ (n : ℕ). min n most) (omega (arith, ap faults_told is, faults_are reply));
      closed = tells.closed ∙ ap (λ (v : Served). v.closed || closed_told result) none ∙ ap closed_told is ∙ closed_of reply ∙ sym (or_none (is_closing reply));
      silent = λ _. refl;
      often = omega arith;
      read = Consumes-nil left;
      written = Appends-nil held;
    }

-- octets were handed out
runs_written : {S : Type 0} (w : Ways S) (now reads : ℕ) (began : Endpoint S) (left left' held held' held'' : Option (List ℕ)) (s : S) (link : LinkState) (served : Served)
    (part rest : List ℕ) → link.pending ≡ part ++ rest → Appends held' held'' part → Runs w now reads began left left' held held' s link served
    → Runs w now reads began left left' held held'' s (left_with link rest) served
runs_written w now reads began left left' held held' held'' s link served part rest split appended r = record {
  reply = r.reply;
  deeds = r.deeds;
  received = r.received;
  handed = r.handed ++ part;
  only = r.only;
  stops = r.stops;
  acts = r.acts;
  stands = stands_written began.port (Opened now r.reply ∷ r.deeds) r.received r.handed part rest link split r.stands;
  fragments = r.fragments;
  faults = r.faults;
  closed = r.closed;
  silent = r.silent;
  often = r.often;
  read = r.read;
  written = Appends-trans held held' held'' r.handed part r.written appended;
}

-- what waited was written, or a beginning of it
pub runs_sent : {S : Type 0} (w : Ways S) (now reads : ℕ) (began : Endpoint S) (left left' held held' held'' : Option (List ℕ)) (s : S) (link link' : LinkState) (served : Served)
    (result : Result ⊤ NotWritten) → WritesOut link held' result link' held'' → Runs w now reads began left left' held held' s link served
    → Runs w now reads began left left' held held'' s link' served
runs_sent w now reads began left left' held held' held'' s link link' served (Ok done) (same, appended) r =
    subst (λ (l : LinkState). Runs w now reads began left left' held held'' s l served) (sym same)
    (runs_written w now reads began left left' held held' held'' s link served link.pending [] (sym (append-nil link.pending)) appended r)
runs_sent w now reads began left left' held held' held'' s link link' served (Err fault) (part, rest, split, same, appended) r =
    subst (λ (l : LinkState). Runs w now reads began left left' held held'' s l served) (sym same)
    (runs_written w now reads began left left' held held' held'' s link served part rest split appended r)

-- octets came
pub runs_fed : {S : Type 0} (w : Ways S) (now reads : ℕ) (began : Endpoint S) (left left' left'' held held' : Option (List ℕ)) (s : S) (link link' : LinkState) (served : Served)
    (octets : List ℕ) → Feeds link octets link' → Consumes left' left'' octets → 0 < length octets → served.closed ≡ false → Runs w now reads began left left' held held' s link served
    → Runs w now (reads + 1) began left left'' held held' s link' served
runs_fed w now reads began left left' left'' held held' s link link' served octets feeds consumed some open_still r = record {
  reply = r.reply;
  deeds = r.deeds;
  received = r.received ++ octets;
  handed = r.handed;
  only = r.only;
  stops = r.stops;
  acts = r.acts;
  stands = stands_fed began.port (Opened now r.reply ∷ r.deeds) r.received r.handed octets link link' feeds r.stands;
  fragments = r.fragments;
  faults = r.faults;
  closed = r.closed;
  silent = λ closing. absurd (false≢true (sym (or_left (is_closing r.reply) (closed_in r.deeds) (sym r.closed ∙ open_still)) ∙ closing));
  often = omega (arith, r.often, some, length-append r.received octets);
  read = Consumes-trans left left' left'' r.received octets r.read consumed;
  written = r.written;
}

-- a frame came
runs_came : {S : Type 0} (w : Ways S) (now reads : ℕ) (began : Endpoint S) (left left' held held' : Option (List ℕ)) (s s' : S) (link link' : LinkState) (served served' : Served)
    (frame : Frame) (joined : Joined) (honest : Type 0) → served.closed ≡ false → honest → Makes w honest link s (Came now frame joined) link' s'
    → served'.fragments ≡ min (served.fragments + fragments_of (Came now frame joined)) most → served'.faults ≡ min (served.faults + faults_of (Came now frame joined)) most
    → served'.closed ≡ (served.closed || closes (Came now frame joined))
    → Runs w now reads began left left' held held' s link served → Runs w now reads began left left' held held' s' link' served'
runs_came w now reads began left left' held held' s s' link link' served served' frame joined honest open_still is_honest made more wrong ends r =
    let deed : Deed = Came now frame joined in
    let all : List Deed = Opened now r.reply ∷ r.deeds in
    record {
      reply = r.reply;
      deeds = r.deeds ++ deed ∷ [];
      received = r.received;
      handed = r.handed;
      only = comings_more now r.deeds frame joined r.only;
      stops = stops_more all deed (sym r.closed ∙ open_still);
      acts = acts_more w began.station s s' all deed r.acts (made.acts is_honest);
      stands = stands_made began.port all r.received r.handed deed link link' made.does r.stands;
      fragments =
          more ∙ ap (λ (k : ℕ). min (k + fragments_of deed) most) r.fragments ∙ min_more (fragments_in r.deeds) (fragments_of deed) most
          ∙ ap (λ (k : ℕ). min k most) (sym (fragments_more r.deeds deed));
      faults =
          wrong ∙ ap (λ (k : ℕ). min (k + faults_of deed) most) r.faults ∙ min_more (faults_in all) (faults_of deed) most
          ∙ ap (λ (k : ℕ). min k most) (sym (faults_more all deed));
      closed = ends ∙ ap (λ (k : Bool). k || closes deed) r.closed ∙ sym (closed_more all deed);
      silent = r.silent;
      often = r.often;
      read = r.read;
      written = r.written;
    }

-- a frame came, and what it brought was told
pub runs_heard : {S : Type 0} (w : Ways S) (now reads : ℕ) (began : Endpoint S) (left left' held held' : Option (List ℕ)) (s s' : S) (link link' : LinkState) (served served' : Served)
    (frame : Frame) (joined : Joined) (result : Heard) (honest : Type 0) → served.closed ≡ false → honest → result ≡ heard_of joined
    → Makes w honest link s (Came now frame joined) link' s' → TellsHeard served result served'
    → Runs w now reads began left left' held held' s link served → Runs w now reads began left left' held held' s' link' served'
runs_heard w now reads began left left' held held' s s' link link' served served' frame Part result honest open_still is_honest is made tells r =
    let same : served' ≡ served = subst (λ (h : Heard). TellsHeard served h served') is tells in
    let below : (n : ℕ) → n ≡ min n most → n ≡ min (n + 0) most = λ n e. e ∙ ap (λ (k : ℕ). min k most) (omega arith) in
    runs_came w now reads began left left' held held' s s' link link' served served' frame Part honest open_still is_honest made
    (ap (λ (v : Served). v.fragments) same ∙ below served.fragments (subst (λ (k : ℕ). k ≡ min k most) (sym r.fragments) (grind arith)))
    (ap (λ (v : Served). v.faults) same ∙ below served.faults (subst (λ (k : ℕ). k ≡ min k most) (sym r.faults) (grind arith)))
    (ap (λ (v : Served). v.closed) same ∙ sym (or_none served.closed)) r
runs_heard w now reads began left left' held held' s s' link link' served served' frame (Whole fragment reply) result honest open_still is_honest is made tells r =
    let t = subst (λ (h : Heard). TellsHeard served h served') is tells in
    runs_came w now reads began left left' held held' s s' link link' served served' frame (Whole fragment reply) honest open_still is_honest made t.fragments
    (t.faults ∙ ap (λ (n : ℕ). min (served.faults + n) most) (faults_are reply)) (t.closed ∙ ap (λ (b : Bool). served.closed || b) (closed_of reply)) r

-- ---- writing

-- some octets more were written
pub writes_more : (start link link' : LinkState) (octets : List ℕ) (n : ℕ) (held held' held'' : Option (List ℕ))
    → ((part : List ℕ) × (start.pending ≡ part ++ link.pending) × (link ≡ left_with start link.pending) × Appends held held' part)
    → octets ≡ link.pending → Appends held' held'' (take n octets) → link' ≡ after_sent link n
    → (part : List ℕ) × (start.pending ≡ part ++ link'.pending) × (link' ≡ left_with start link'.pending) × Appends held held'' part
writes_more start link link' octets n held held' held'' (part, split, same, appended) are written after =
    let rest : link'.pending ≡ drop n link.pending = ap (λ (l : LinkState). l.pending) after in (
      part ++ take n octets,
      split ∙ ap (λ (t : List ℕ). part ++ t) (sym (take-append-drop n link.pending)) ∙ sym (append_assoc part (take n link.pending) (drop n link.pending))
          ∙ ap (λ (t : List ℕ). (part ++ take n t) ++ drop n link.pending) (sym are) ∙ ap (λ (t : List ℕ). (part ++ take n octets) ++ t) (sym rest),
      after ∙ ap (λ (l : LinkState). record l { pending = drop n link.pending }) same ∙ ap (λ (t : List ℕ). left_with start t) (sym rest),
      Appends-trans held held' held'' part (take n octets) appended written,
    )

-- ---- the end

abbrev pub output_of : Deed → List Frame → Output
output_of deed frames = record { frames = frames; fragments = fragments_of deed; faults = faults_of deed; closed = closes deed }

pub opens_of : {S : Type 0} (opens : Opening S) (now : ℕ) (s s' : S) (p p' : PortState) (reply : Reply) (frames : List Frame)
    → Replies opens s now reply s' → Sends p (sends reply) frames p'
    → Opens opens now (endpoint s p) (record { frames = frames; fragments = 0; faults = is_refusal reply; closed = is_closing reply }) (endpoint s' p')
opens_of opens now s s' p p' (Ok answer) frames answers (are, moved) =
    old.Opened answer answers (ap (λ (fs : List Frame). record { frames = fs; fragments = 0; faults = 0; closed = answer.close }) are) moved
opens_of opens now s s' p p' (Err fault) frames (refuses, same) (are, moved) =
    old.Unopened fault refuses (ap (λ (fs : List Frame). record { frames = fs; fragments = 0; faults = 1; closed = false }) are) (cc (same, moved))

pub hears_of : {S : Type 0} (receives : Receiving S) (now : ℕ) (s s' : S) (p p' : PortState) (frame : Frame) (joined : Joined) (frames : List Frame)
    → Hears receives s now joined s' → Joins p frame joined frames p'
    → old.Hears receives now (endpoint s p) frame (output_of (Came now frame joined) frames) (endpoint s' p')
hears_of receives now s s' p p' frame Part frames same (taken, takes, part, are) =
    old.Unfinished taken takes part (ap (λ (fs : List Frame). record { frames = fs; fragments = 0; faults = 0; closed = false }) are) same
hears_of receives now s s' p p' frame (Whole fragment (Ok answer)) frames answers (taken, mid, answered, takes, whole, shown, (sent, moved), are) =
    old.Answered taken mid fragment takes whole shown answer answers
    (ap (λ (fs : List Frame). record { frames = fs; fragments = 1; faults = 0; closed = answer.close }) (are ∙ ap (λ (fs : List Frame). option_to_list taken.reply ++ fs) sent))
    moved
hears_of receives now s s' p p' frame (Whole fragment (Err fault)) frames (refuses, same) (taken, mid, answered, takes, whole, shown, (sent, moved), are) =
    old.Refused taken fragment (subst (λ (q : PortState). Takes p frame q taken) (sym moved) takes) whole
    (subst (λ (q : PortState). IsShown q fragment) (sym moved) shown) fault refuses
    (ap (λ (fs : List Frame). record { frames = fs; fragments = 1; faults = 1; closed = false })
    (are ∙ ap (λ (fs : List Frame). option_to_list taken.reply ++ fs) sent ∙ append-nil (option_to_list taken.reply)))
    same

-- frames that came, as the stream law has them
record HeardAs {S : Type 0} (receives : Receiving S) (now : ℕ) (began ended : Endpoint S) (deeds : List Deed) (sent : List Frame) : Type 0 where
  output : Output
  hears : HearsAll receives now began (frames_in deeds) output ended
  frames : output.frames ≡ sent
  fragments : output.fragments ≡ fragments_in deeds
  faults : output.faults ≡ faults_in deeds
  closed : output.closed ≡ closed_in deeds

hears_all : {S : Type 0} (w : Ways S) (now : ℕ) (s s' : S) (p p' : PortState) (deeds : List Deed) (sent : List Frame) → AreComings now deeds → StopsLast deeds
    → ActsAll w s deeds s' → CarriesAll p deeds sent p' → HeardAs w.receives now (endpoint s p) (endpoint s' p') deeds sent
hears_all w now s s' p p' [] sent only stops same (none, still) =
    record { output = no_output; hears = (refl, cc (same, still)); frames = sym none; fragments = refl; faults = refl; closed = refl }
hears_all {S} w now s s' p p' (Came moment frame joined ∷ deeds) sent only stops (next, here, all) (first, mid, more, carries, others, both) =
    let deed : Deed = Came moment frame joined in
    let rest = hears_all w now next s' mid p' deeds more only.1 stops.1 all others in
    let one : old.Hears w.receives now (endpoint s p) frame (output_of deed first) (endpoint next mid) =
    subst (λ (m : ℕ). old.Hears w.receives m (endpoint s p) frame (output_of deed first) (endpoint next mid)) only.0
    (hears_of w.receives moment s next p mid frame joined first here carries) in
    record {
      output = output_with (output_of deed first) rest.output;
      hears = (output_of deed first, endpoint next mid, rest.output, one, rest.hears, refl, λ closing. ap frames_in (stops.0 closing));
      frames = ap (λ (fs : List Frame). first ++ fs) rest.frames ∙ sym both;
      fragments = ap (λ (n : ℕ). fragments_of deed + n) rest.fragments;
      faults = ap (λ (n : ℕ). faults_of deed + n) rest.faults;
      closed = ap (λ (b : Bool). closes deed || b) rest.closed;
    }
hears_all w now s s' p p' (deed ∷ deeds) sent only stops acts carries = absurd only

-- what went through it, as the stream law has it
pub record IsTraffic (reads : ℕ) (refused : List ℕ) (link : LinkState) (served : Served) (t : Traffic) : Type 0 where
  pub often : reads ≤ length t.octets
  pub refused_is : t.refused ≡ refused
  pub unheard : t.unheard ≡ link.waiting
  pub unwritten : t.unwritten ≡ link.pending
  pub counted : Counts none_served t.output served

pub runs_serves : {S : Type 0} (w : Ways S) (now reads turns : ℕ) (began : Endpoint S) (left left' left'' held held' : Option (List ℕ)) (s : S) (link : LinkState) (served : Served)
    (refused : List ℕ) (result : Result Served ServeFault) → Runs w now reads began left left' held held' s link served → Consumes left' left'' refused
    → ((t : Traffic) → IsTraffic reads refused link served t → StreamEndsBy turns t (IsAtEnd left'') result)
    → Serves w.opens w.receives now turns began left left'' held held' result (endpoint s link.port)
runs_serves w now reads turns began left left' left'' held held' s link served refused result r consumed ends =
    let (next, opening, acts) = r.acts in
    let (first, mid, more, carries, others, both) = r.stands.carries in
    let greeting : Output = record { frames = first; fragments = 0; faults = is_refusal r.reply; closed = is_closing r.reply } in
    let h = hears_all w now next s mid link.port r.deeds more r.only r.stops.1 acts others in
    let t : Traffic = record {
      octets = r.received;
      refused = refused;
      output = output_with greeting h.output;
      unheard = link.waiting;
      written = r.handed;
      unwritten = link.pending;
    } in
    record {
      traffic = t;
      read = Consumes-trans left left' left'' r.received refused r.read consumed;
      converses = record {
        greeting = greeting;
        opened = endpoint next mid;
        opening = opens_of w.opens now began.station next began.port mid r.reply first opening carries;
        silent = r.silent;
        frames = frames_in r.deeds;
        waiting = link.partial;
        gives = r.stands.gives;
        answers = h.output;
        hears = h.hears;
        both = refl;
      };
      spelled =
          subst (λ (fs : List Frame). AreSpelled fs (r.handed ++ link.pending))
          (both ∙ ap (λ (fs : List Frame). first ++ fs) (sym h.frames)) r.stands.spelled;
      appended = r.written;
      ends = ends t record {
        often = r.often;
        refused_is = refl;
        unheard = refl;
        unwritten = refl;
        counted = record {
          fragments = r.fragments ∙ ap (λ (n : ℕ). min n most) (omega (arith, h.fragments));
          faults = r.faults ∙ ap (λ (n : ℕ). min n most) (omega (arith, h.faults));
          closed = r.closed ∙ ap (λ (b : Bool). is_closing r.reply || b) (sym h.closed);
        };
      };
    }

-- the link is what it was
pub runs_same : {S : Type 0} (w : Ways S) (now reads : ℕ) (began : Endpoint S) (left left' held held' : Option (List ℕ)) (s : S) (link link' : LinkState) (served : Served)
    → link ≡ link' → Runs w now reads began left left' held held' s link served → Runs w now reads began left left' held held' s link' served
runs_same w now reads began left left' held held' s link link' served same r = subst (λ (l : LinkState). Runs w now reads began left left' held held' s l served) same r
