-- Definition: a link between an outstation and its master as its law sees it: the two stations without clocks and points, the
-- lanes of events, what may still come on either way, and what has happened so far.
use Rattle.std.specs.Prelude.{ℕ, Bool, List, [], ◌∷◌, Option}
use Rattle.dnp_objects.specs.declared.command.Command.{Command}
use Rattle.dnp_eventbuf.specs.Buffered.{Buffered}
use Rattle.dnp_world.specs.Octets.{seq_in, con_in, fin_in}

-- ---- fragments

-- A response that the outstation sent: its octets; of each lane, by its number, the last id in it; and the events in
-- it. Only the octets go over the line (IEEE Std 1815-2012, application layer: responses).
pub record SentFragment : Type 0 where
  pub octets : List ℕ
  pub upto : List ℕ
  pub rows : List Buffered

-- its sequence number, CON and FIN are what its octets say
abbrev pub seq_of : SentFragment → ℕ
seq_of f = seq_in f.octets

abbrev pub con_of : SentFragment → Bool
con_of f = con_in f.octets

abbrev pub fin_of : SentFragment → Bool
fin_of f = fin_in f.octets

-- What goes down, to the outstation: a request, a confirm of a solicited response, a confirm of an unsolicited one
-- (IEEE Std 1815-2012, application layer: requests, CONFIRM and the bit UNS).
pub data Down : Type 0 where
  Asks : (request : List ℕ) → Down
  Confirms : (seq : ℕ) → Down
  ConfirmsReport : (seq : ℕ) → Down

-- What goes up, to the master: a response, and a report, which is an unsolicited response (IEEE Std 1815-2012,
-- application layer: solicited and unsolicited responses).
pub data Up : Type 0 where
  Responds : (fragment : SentFragment) → Up
  Reports : (fragment : SentFragment) → Up

abbrev pub fragment_of : Up → SentFragment
fragment_of (Responds fragment) = fragment
fragment_of (Reports fragment) = fragment

-- the requests and solicited confirms that go down, the numbers of the unsolicited confirms, the solicited responses
-- that go up, and the reports
abbrev pub solicited_down : Down → List Down
solicited_down (Asks request) = Asks request ∷ []
solicited_down (Confirms seq) = Confirms seq ∷ []
solicited_down (ConfirmsReport seq) = []

abbrev pub report_down : Down → List ℕ
report_down (Asks request) = []
report_down (Confirms seq) = []
report_down (ConfirmsReport seq) = seq ∷ []

abbrev pub solicited_up : Up → List SentFragment
solicited_up (Responds fragment) = fragment ∷ []
solicited_up (Reports fragment) = []

abbrev pub report_up : Up → List SentFragment
report_up (Responds fragment) = []
report_up (Reports fragment) = fragment ∷ []

-- ---- the outstation

-- What was sent for the last request: nothing so far (it is being executed, or is a READ that is held until a report
-- is confirmed, or is to have no response), the first fragment, which is kept, or a further one (own rule: what an
-- outstation keeps for a request that comes again).
pub data Reply : Type 0 where
  NothingSent : Reply
  FirstSent : (octets upto : List ℕ) → Reply
  FurtherSent : Reply

-- the last request, what was sent for it, and whether there is more to send
pub record LastRequest : Type 0 where
  pub request : List ℕ
  pub reply : Reply
  pub more : Bool

-- a solicited response whose confirm is awaited (IEEE Std 1815-2012, application layer: confirmation)
pub record Awaited : Type 0 where
  pub seq : ℕ
  pub upto : List ℕ

-- a report whose confirm is awaited; its octets are kept, for a repeat
pub record AwaitedReport : Type 0 where
  pub octets : List ℕ
  pub seq : ℕ
  pub upto : List ℕ

pub record LawOutstation : Type 0 where
  pub is_open : Bool
  pub last : Option LastRequest
  pub awaited : Option Awaited
  pub report : Option AwaitedReport
  -- the sequence number of the next report
  pub next : ℕ

-- ---- the master

pub record LawMaster : Type 0 where
  pub is_open : Bool
  -- a request is open
  pub is_busy : Bool
  -- the sequence number that it awaits, or would ask with
  pub seq : ℕ

-- ---- the link

-- How far the two have come with the master's requests (own rule). The master is idle; it has asked; the outstation
-- has received the request and sent nothing for it so far; the master has not taken what was sent last; it has, and
-- the outstation has not sent the next fragment so far.
pub data Phase : Type 0 where
  Idle : Phase
  Requested : (request : List ℕ) → Phase
  Received : (request : List ℕ) → Phase
  Responding : Phase
  Continuing : Phase

pub record LawLink : Type 0 where
  pub outstation : LawOutstation
  pub master : LawMaster
  -- the events of the nine lanes in any order, and the last id used
  pub lanes : List Buffered
  pub last_id : ℕ
  -- What may still come on either way. The first of them may have come before, and may come again.
  pub down : List Down
  pub up : List Up
  -- Over all connections: the events that ever stood in the lanes, that the master's sink took, that confirms released
  -- and that left the lanes unconfirmed (dropped by a full lane, or at a restart); the commands that were asked for
  -- and that were performed.
  pub stood : List Buffered
  pub took : List Buffered
  pub released : List Buffered
  pub left : List Buffered
  pub asked : List Command
  pub performed : List Command
  -- Of this connection: how far it has come; the last solicited and the last unsolicited response sent; what made the
  -- outstation send the solicited one.
  pub phase : Phase
  pub trigger : Down
  pub current : SentFragment
  pub reported : SentFragment
