-- One step of a link, from what its station and its port made.
use Rattle.std.proofs.lemmas.List.{drop-append-le}
use Rattle.std.proofs.Common.{◌≡◌, ◌≤◌, length, drop, ℕ, List, [], ◌∷◌, ◌++◌, Result, Ok, Err, refl, sym, ap, ◌∙◌, subst}
use Rattle.std.specs.Prelude.{⊤, true, false, option_to_list, OnOk}
use Rattle.std.specs.declared.alloc.AllocError.{AllocError}
use Rattle.arrayvec.specs.ArrayVec.{ArrayVec}
use Rattle.dnp_controls.specs.declared.book.BookFault.{BookFault}
use Rattle.std.proofs.lemmas.Bool.{false≢true}
use Rattle.dnp_streams.specs.streams.Dialogues.{sendable}
use Rattle.dnp_concentrator.specs.Relayed.{has_request}
use Rattle.dnp_concentrator.specs.declared.relayed.RelayedStep.{RelayedStep}
use Rattle.dnp_concentrator.specs.declared.relayed.RelayedStep.TheVariants as step
use Rattle.dnp_line.specs.Ports.{PortState, Takes, IsShown}
use Rattle.dnp_line.specs.declared.port.Taken.{Taken}
use Rattle.dnp_linkframe.specs.declared.frame.Frame.{Frame}
use Rattle.dnp_master.specs.declared.fault.AskFault.{AskFault}
use Rattle.dnp_master.specs.declared.task.Task.{Task}
use Rattle.dnp_streams.specs.declared.stream.change.Change.{Change}
use Rattle.dnp_streams.specs.declared.stream.station.StationFault.{StationFault}
use Rattle.dnp_streams.specs.streams.Spelled.{sent_frames, port_after}
use Rattle.dnp_streams.specs.streams.Stations.{Opening, Receiving}
use Rattle.dnp_streams.specs.declared.link.answering.Heard.{Heard}
use Rattle.dnp_streams.specs.declared.link.answering.Heard.TheVariants as heard
use Rattle.dnp_streams.specs.declared.link.answering.Told.{Told}
use Rattle.dnp_streams.specs.links.Deeds.{Acts, Carries, Deed, frames_of}
use Rattle.dnp_streams.specs.links.Deeds.{Joined, Part, Whole, Reply, Ways, Opened, Came, Ticked, Changed, Asked, Relaid, taking, sends, sends_relaying, told_of, heard_of, done_of, relaid_of}
use Rattle.dnp_linkframe.specs.Stream.{Gives}
use Rattle.dnp_streams.specs.links.Links.{LinkState, Feeds, Makes, Calls, TakesIn, AsksFor, RelaysOn}
use Rattle.dnp_streams.specs.links.Outputs.{ArePut, Puts}
use Rattle.dnp_streams.proofs.streams.Spelling.{put_more, put_none}

-- ---- what is put

-- a call that was refused puts nothing
pub puts_none : (port : PortState) (before : List ℕ) → Puts port [] before port before
puts_none port before = record { put = put_none before; moved = refl }

pub call_refused : {S : Type 0} (honest : Type 0) (opens : Opening S) (s s' : S) (now : ℕ) (fault : StationFault) (port : PortState) (before : List ℕ)
    → (honest → opens.refuses s now fault) → (honest → s' ≡ s) → Calls honest opens s now (Err fault) s' port before port before
call_refused honest opens s s' now fault port before refuses same =
    record { reply = Err fault; is = refl; acts = λ is_honest. (refuses is_honest, same is_honest); puts = puts_none port before }

-- a step of relaying without a request
pub relays_nothing : (step : RelayedStep) (request : ArrayVec ℕ) (port : PortState) (before : List ℕ) → has_request step ≡ false
    → Puts port (sends_relaying (relaid_of (Ok step) request)) before port before
relays_nothing step.Nothing request port before none = puts_none port before
relays_nothing (step.Finished id status) request port before none = puts_none port before
relays_nothing step request port before none = absurd (false≢true (sym none))

-- one with a request
pub relays_request : (step : RelayedStep) (request : ArrayVec ℕ) (port : PortState) (before : List ℕ) (port' : PortState) (after : List ℕ) → has_request step ≡ true
    → ArePut before (sent_frames port (sendable request.items)) after → port' ≡ port_after port (sendable request.items)
    → Puts port (sends_relaying (relaid_of (Ok step) request)) before port' after
relays_request (step.Selecting id) request port before port' after has put moved = record { put = put; moved = moved }
relays_request (step.Sent id) request port before port' after has put moved = record { put = put; moved = moved }
relays_request step request port before port' after has put moved = absurd (false≢true has)

-- ---- a frame

-- it completes no fragment
pub heard_part : {S : Type 0} (honest : Type 0) (receives : Receiving S) (s s' : S) (now : ℕ) (frame : Frame) (p p' : PortState) (before after : List ℕ) (taken : Taken)
    → (honest → s' ≡ s) → Takes p frame p' taken → taken.whole ≡ false → ArePut before (option_to_list taken.reply) after
    → TakesIn honest receives s now frame heard.Part s' p before p' after
heard_part honest receives s s' now frame p p' before after taken same takes part put = record {
  joined = Part;
  is = refl;
  acts = same;
  frames = option_to_list taken.reply;
  joins = (taken, takes, part, refl);
  put = put;
}

-- it completes one, and the station replied to that
pub heard_whole : {S : Type 0} (honest : Type 0) (receives : Receiving S) (s s' : S) (now : ℕ) (frame : Frame) (p mid p' : PortState) (before between after : List ℕ)
    (taken : Taken) (result : Result Told StationFault) (fragment : List ℕ)
    → Takes p frame mid taken → taken.whole ≡ true → ArePut before (option_to_list taken.reply) between
    → IsShown mid fragment → Calls honest (taking receives fragment) s now result s' mid between p' after
    → TakesIn honest receives s now frame (heard.Whole result) s' p before p' after
heard_whole honest receives s s' now frame p mid p' before between after taken result fragment takes whole replied shown call = record {
  joined = Whole fragment call.reply;
  is = ap (λ (r : Result Told StationFault). heard.Whole r) call.is;
  acts = call.acts;
  frames = option_to_list taken.reply ++ sent_frames mid (sends call.reply);
  joins = (taken, mid, sent_frames mid (sends call.reply), takes, whole, shown, (refl, call.puts.moved), refl);
  put = put_more before between after (option_to_list taken.reply) (sent_frames mid (sends call.reply)) replied call.puts.put;
}

-- ---- of links

-- what a link is after a step: the link as it was, whose parts are these
abbrev pub after_step : LinkState → PortState → List ℕ → LinkState
after_step l port pending = record l { port = port; pending = pending }

-- a step in which no frame comes, of the link inside or of the one that is the same
made_of : {S : Type 0} (w : Ways S) (honest : Type 0) (s s' : S) (deed : Deed) (inside old : LinkState) (port : PortState) (frames : List Frame) (pending : List ℕ)
    → inside ≡ old → frames_of deed ≡ [] → (honest → Acts w s deed s') → Carries inside.port deed frames port → ArePut inside.pending frames pending
    → Makes w honest old s deed (after_step inside port pending) s'
made_of w honest s s' deed inside old port frames pending same none acts carries put =
    subst (λ (l : LinkState). Makes w honest l s deed (after_step inside port pending) s') same record {
      acts = acts;
      does = record { frames = frames; carries = carries; put = put; partial = refl; waiting = ap (λ (fs : List Frame). fs ++ inside.waiting) (sym none) };
    }

pub opened_makes : {S : Type 0} (w : Ways S) (honest : Type 0) (s s' : S) (now : ℕ) (result : Result Told StationFault) (inside old : LinkState) (port : PortState) (pending : List ℕ)
    → inside ≡ old → Calls honest w.opens s now result s' inside.port inside.pending port pending
    → (reply : Reply) × (result ≡ told_of reply) × Makes w honest old s (Opened now reply) (after_step inside port pending) s'
opened_makes w honest s s' now result inside old port pending same call =
    (call.reply, call.is, made_of w honest s s' (Opened now call.reply) inside old port _ pending same refl call.acts (refl, call.puts.moved) call.puts.put)

pub ticked_makes : {S : Type 0} (w : Ways S) (honest : Type 0) (s s' : S) (now : ℕ) (result : Result Told StationFault) (inside old : LinkState) (port : PortState) (pending : List ℕ)
    → inside ≡ old → Calls honest w.life.ticks s now result s' inside.port inside.pending port pending
    → (reply : Reply) × (result ≡ told_of reply) × Makes w honest old s (Ticked now reply) (after_step inside port pending) s'
ticked_makes w honest s s' now result inside old port pending same call =
    (call.reply, call.is, made_of w honest s s' (Ticked now call.reply) inside old port _ pending same refl call.acts (refl, call.puts.moved) call.puts.put)

pub changed_makes : {S : Type 0} (w : Ways S) (honest : Type 0) (s s' : S) (now : ℕ) (change : Change) (result : Result Told StationFault) (inside old : LinkState) (port : PortState) (pending : List ℕ)
    → inside ≡ old → Calls honest (w.life.changes change) s now result s' inside.port inside.pending port pending
    → (reply : Reply) × (result ≡ told_of reply) × Makes w honest old s (Changed now change reply) (after_step inside port pending) s'
changed_makes w honest s s' now change result inside old port pending same call =
    (call.reply, call.is, made_of w honest s s' (Changed now change call.reply) inside old port _ pending same refl call.acts (refl, call.puts.moved) call.puts.put)

pub heard_makes : {S : Type 0} (w : Ways S) (honest : Type 0) (s s' : S) (now : ℕ) (frame : Frame) (result : Heard) (inside old : LinkState) (port : PortState)
    (rest : List Frame) (pending : List ℕ) → inside ≡ old → inside.waiting ≡ frame ∷ rest
    → TakesIn honest w.receives s now frame result s' inside.port inside.pending port pending
    → (f : Frame) × (joined : Joined) × (result ≡ heard_of joined)
    × Makes w honest old s (Came now f joined) (record { port = port; partial = inside.partial; waiting = rest; pending = pending }) s'
heard_makes w honest s s' now frame result inside old port rest pending same first call = (
  frame,
  call.joined,
  call.is,
  subst (λ (l : LinkState). Makes w honest l s (Came now frame call.joined) (record { port = port; partial = inside.partial; waiting = rest; pending = pending }) s') same record {
    acts = call.acts;
    does = record { frames = call.frames; carries = call.joins; put = call.put; partial = refl; waiting = first };
  },
)

pub asked_makes : {S : Type 0} (w : Ways S) (honest : Type 0) (s s' : S) (now : ℕ) (task : Task) (result : Result ⊤ AskFault) (inside old : LinkState) (port : PortState) (pending : List ℕ)
    → inside ≡ old → AsksFor honest w.asking s now task result s' inside.port inside.pending port pending
    → (reply : Result (List ℕ) AskFault) × (result ≡ done_of reply) × Makes w honest old s (Asked now task reply) (after_step inside port pending) s'
asked_makes w honest s s' now task result inside old port pending same call =
    (call.reply, call.is, made_of w honest s s' (Asked now task call.reply) inside old port _ pending same refl call.acts (refl, call.puts.moved) call.puts.put)

pub relaid_makes : {S : Type 0} (w : Ways S) (honest : Type 0) (s s' : S) (now : ℕ) (result : Result RelayedStep BookFault) (inside old : LinkState) (port : PortState) (pending : List ℕ)
    → inside ≡ old → RelaysOn honest w.asking s now result s' inside.port inside.pending port pending
    → (request : ArrayVec ℕ) × Makes w honest old s (Relaid now (relaid_of result request)) (after_step inside port pending) s'
relaid_makes w honest s s' now result inside old port pending same call =
    (call.request, made_of w honest s s' (Relaid now (relaid_of result call.request)) inside old port _ pending same refl call.acts (refl, call.puts.moved) call.puts.put)

-- ---- octets that came

pub fed_if : (result : Result ⊤ AllocError) (inside old : LinkState) (frames all : List Frame) (next : ℕ) (partial octets : List ℕ) → inside ≡ old
    → inside.waiting ≡ drop next frames → next ≤ length frames
    → OnOk result ((given : List Frame) × (all ≡ frames ++ given) × Gives (inside.partial ++ octets) given partial)
    → OnOk result ((stream : List ℕ) (before given : List Frame) → Gives stream before inside.partial → all ≡ frames ++ given → Gives (stream ++ octets) (before ++ given) partial)
    → OnOk result (Feeds old octets (record inside { partial = partial; waiting = drop next all }))
fed_if (Ok done) inside old frames all next partial octets same waits low (given, are, gives) carried =
    subst (λ (l : LinkState). Feeds l octets (record inside { partial = partial; waiting = drop next all })) same record {
      frames = given;
      partial = partial;
      after =
          ap (λ (fs : List Frame). record inside { partial = partial; waiting = fs })
          (ap (λ (fs : List Frame). drop next fs) are ∙ drop-append-le next frames given low ∙ ap (λ (fs : List Frame). fs ++ given) (sym waits));
      gives = λ stream before held. carried stream before given held are;
    }
fed_if (Err error) inside old frames all next partial octets same waits low none carried = tt
