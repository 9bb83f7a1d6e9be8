-- Definition: what holds of a link at every moment, in five parts, each over its own view of the link: a move that leaves a view
-- alone leaves its part alone. The solicited and the unsolicited half share the events and nothing else.
--
-- With each clause stands what would go wrong without it. All of it is an own rule: the standard says what stations do,
-- and this is what comes of it.
use Rattle.std.specs.Prelude.{◌≡◌, ℕ, ◌≤◌, Bool, true, false, List, [], ◌∷◌, ◌++◌, map, Option, Some, None, IfSome, All, Contains, count_by, ⊤}
use Rattle.std.specs.List.Sorted.{IsPermutation}
use Rattle.dnp_objects.specs.declared.command.Command.{Command}
use Rattle.dnp_objects.specs.Counts.{IsCoveredBy}
use Rattle.dnp_eventbuf.specs.Buffered.{Buffered, is_named, id_limit}
use Rattle.dnp_world.specs.Lists.{IsEnd, Each, Turns, picked}
use Rattle.dnp_world.specs.Octets.{after, seq_in, commands_in}
use Rattle.dnp_world.specs.LawLink.{SentFragment, seq_of, fin_of, Down, Asks, Confirms, ConfirmsReport, Up, Responds, Reports, solicited_down, report_down, solicited_up, report_up, Phase, Idle, Requested, Received, Responding, Continuing, Reply, NothingSent, FirstSent, FurtherSent, LastRequest, Awaited, AwaitedReport, LawMaster, LawLink}
use Rattle.dnp_world.specs.Moves.{confirm_of, MayAwait, nothing_sent, nothing_reported, Says}

-- each of these events is one of those
abbrev pub AllIn : List Buffered → List Buffered → Type 0
AllIn xs ys = All (Contains ys) xs

-- ---- what was asked for

-- what the solicited half speaks of
pub record Conversation : Type 0 where
  pub last : Option LastRequest
  pub awaited : Option Awaited
  pub phase : Phase
  pub trigger : Down
  pub current : SentFragment
  pub down : List Down
  pub up : List SentFragment
  pub took : List Buffered

abbrev pub conversation : LawLink → Conversation
conversation l = record {
  last = l.outstation.last;
  awaited = l.outstation.awaited;
  phase = l.phase;
  trigger = l.trigger;
  current = l.current;
  down = picked solicited_down l.down;
  up = picked solicited_up l.up;
  took = l.took;
}

-- what was sent for the last request is the current fragment, or a fragment before it
abbrev pub IsReply : Phase → SentFragment → List ℕ → Bool → Reply → Type 0
IsReply phase c q more NothingSent = phase ≡ Received q
IsReply phase c q more (FirstSent octets upto) =
    (octets ≡ c.octets) × (upto ≡ c.upto) × (seq_of c ≡ seq_in q) × (more ≡ true → fin_of c ≡ false)
IsReply phase c q more FurtherSent = more ≡ true → fin_of c ≡ false

abbrev pub IsLast : List ℕ → Option LastRequest → Type 0
IsLast q None = ⊥
IsLast q (Some a) = a.request ≡ q

-- the current fragment was sent for the last request, or for the confirm of the fragment before
abbrev pub IsTrigger : Down → Option LastRequest → SentFragment → Type 0
IsTrigger (Asks q) last c = IsLast q last
IsTrigger (Confirms seq) last c = after seq ≡ seq_of c
IsTrigger (ConfirmsReport seq) last c = ⊥

-- what a phase says of the trigger, of FIN and of the numbers
abbrev pub FitsPhase : Phase → Down → Option LastRequest → SentFragment → Type 0
FitsPhase Idle trigger last c = (fin_of c ≡ true) × IsTrigger trigger last c
FitsPhase (Requested q) trigger last c = (fin_of c ≡ true) × IsTrigger trigger last c × (seq_in q ≡ after (seq_of c))
FitsPhase (Received q) trigger last c = IsLast q last × (seq_in q ≡ after (seq_of c))
FitsPhase Responding trigger last c = IsTrigger trigger last c
FitsPhase Continuing trigger last c = IsTrigger trigger last c

-- the requests and confirms that the master has sent since the trigger, with that one in front
abbrev pub expected : Phase → Down → SentFragment → List Down
expected Idle trigger c = trigger ∷ confirm_of c (Confirms (seq_of c))
expected (Requested q) trigger c = trigger ∷ (confirm_of c (Confirms (seq_of c)) ++ Asks q ∷ [])
expected (Received q) trigger c = Asks q ∷ []
expected Responding trigger c = trigger ∷ []
expected Continuing trigger c = trigger ∷ confirm_of c (Confirms (seq_of c))

-- the sink took the current fragment, unless the master has not taken it so far
abbrev pub IsTaken : Phase → SentFragment → List Buffered → Type 0
IsTaken Idle c took = AllIn c.rows took
IsTaken (Requested q) c took = AllIn c.rows took
IsTaken (Received q) c took = AllIn c.rows took
IsTaken Responding c took = ⊤
IsTaken Continuing c took = AllIn c.rows took

-- only copies of the current fragment may come, and, where the master has not taken it so far, fragments with the
-- number before in front of them
abbrev pub IsOnItsWay : Phase → SentFragment → List SentFragment → Type 0
IsOnItsWay Idle c up = Each (λ f. f ≡ c) up
IsOnItsWay (Requested q) c up = Each (λ f. f ≡ c) up
IsOnItsWay (Received q) c up = Each (λ f. f ≡ c) up
IsOnItsWay Responding c up = Turns (λ f. after (seq_of f) ≡ seq_of c) (λ f. f ≡ c) up
IsOnItsWay Continuing c up = Each (λ f. f ≡ c) up

pub record Solicited (v : Conversation) : Type 0 where
  -- Else a confirm would release the events of another fragment than the one that it confirms.
  pub wait : MayAwait v.current v.awaited
  -- Else a request that comes again would be answered with a fragment that the sink may not have taken under that
  -- number, and a response that has ended would go on.
  pub reply : IfSome v.last (λ a. IsReply v.phase v.current a.request a.more a.reply)
  -- Else an old copy of a request would pass for a new one and be executed again, and a confirm of the fragment before
  -- for one of the current fragment.
  pub cause : FitsPhase v.phase v.trigger v.last v.current
  -- Else an old confirm, 16 numbers late, could come and release what nobody took.
  pub down : IsEnd v.down (expected v.phase v.trigger v.current)
  -- Else what a confirm releases might never have reached the sink.
  pub taken : IsTaken v.phase v.current v.took
  -- Else the master would take an old fragment under the number that it awaits, and confirm the current one by it.
  pub up : IsOnItsWay v.phase v.current v.up

-- Where both ends are open: the master is busy and awaits the number that will come. Else it could take an old
-- response, or ask with the number of the last one.
abbrev pub Agrees : Phase → SentFragment → LawMaster → Type 0
Agrees Idle c m = (m.is_busy ≡ false) × (m.seq ≡ after (seq_of c))
Agrees (Requested q) c m = (m.is_busy ≡ true) × (m.seq ≡ seq_in q)
Agrees (Received q) c m = (m.is_busy ≡ true) × (m.seq ≡ seq_in q)
Agrees Responding c m = (m.is_busy ≡ true) × (m.seq ≡ seq_of c)
Agrees Continuing c m = (m.is_busy ≡ true) × (m.seq ≡ after (seq_of c))

-- ---- reports

-- what the unsolicited half speaks of
pub record Reporting : Type 0 where
  pub report : Option AwaitedReport
  pub next : ℕ
  pub reported : SentFragment
  pub down : List ℕ
  pub up : List SentFragment
  pub took : List Buffered

abbrev pub reporting_of : LawLink → Reporting
reporting_of l = record {
  report = l.outstation.report;
  next = l.outstation.next;
  reported = l.reported;
  down = picked report_down l.down;
  up = picked report_up l.up;
  took = l.took;
}

-- of the confirms and then the reports that may come, some have the number before, and after them all have this one;
-- where no confirm is awaited all have this one
abbrev pub IsInOrder : Option AwaitedReport → ℕ → List ℕ → Type 0
IsInOrder None seq numbers = Each (λ n. n ≡ seq) numbers
IsInOrder (Some w) seq numbers = Turns (λ n. after n ≡ seq) (λ n. n ≡ seq) numbers

-- what is kept of a report is that report
abbrev pub IsOfReport : SentFragment → AwaitedReport → Type 0
IsOfReport f w = (w.octets ≡ f.octets) × (w.seq ≡ seq_of f) × (w.upto ≡ f.upto)

pub record Unsolicited (v : Reporting) : Type 0 where
  -- Else a confirm would release the events of another report than the one that it confirms.
  pub wait : IfSome v.report (λ w. IsOfReport v.reported w)
  -- Else a new report could have the number of the last one, whose confirms may still come.
  pub number : v.next ≡ after (seq_of v.reported)
  -- Else the confirm of an old report could come once its number is in use again.
  pub order : IsInOrder v.report (seq_of v.reported) (v.down ++ map seq_of v.up)
  -- Else a confirm that is on its way could release what the sink never took.
  pub taken : Each (λ n. n ≡ seq_of v.reported → AllIn v.reported.rows v.took) v.down
  -- Else the master could take another report under the number of the last one, and confirm the last one by it.
  pub up : Each (λ f. seq_of f ≡ seq_of v.reported → f ≡ v.reported) v.up

-- ---- events

-- a fragment's events stood in the lanes, and those still there that its ids reach are its events
pub record IsOfLanes (uns : Bool) (lanes stood : List Buffered) (last_id : ℕ) (f : SentFragment) : Type 0 where
  -- Else an event that comes later would be under the fragment's ids, and be released unseen.
  pub limits : (lane : ℕ) → id_limit f.upto lane ≤ last_id
  -- Else the sink would take an event that never stood in the lanes.
  pub rows : AllIn f.rows stood
  -- Else a release by ids would release an event that is not in the fragment.
  pub prefix : All (λ x. x.id ≤ id_limit f.upto x.lane → Contains f.rows x) lanes
  -- Else the octets that are sent again would hold other events.
  pub says : Says uns f

-- what is on its way up stood in the lanes, and its octets say what it is
abbrev pub IsOfStood : List Buffered → Up → Type 0
IsOfStood stood (Responds f) = AllIn f.rows stood × Says false f
IsOfStood stood (Reports f) = AllIn f.rows stood × Says true f

-- what the part on events speaks of
pub record Inventory : Type 0 where
  pub lanes : List Buffered
  pub last_id : ℕ
  pub stood : List Buffered
  pub took : List Buffered
  pub released : List Buffered
  pub left : List Buffered
  pub up : List Up
  pub current : SentFragment
  pub reported : SentFragment

abbrev pub inventory : LawLink → Inventory
inventory l = record {
  lanes = l.lanes;
  last_id = l.last_id;
  stood = l.stood;
  took = l.took;
  released = l.released;
  left = l.left;
  up = l.up;
  current = l.current;
  reported = l.reported;
}

pub record Events (v : Inventory) : Type 0 where
  -- What stood in the lanes is there, was released or left. Else an event could leave unseen.
  pub whole : IsPermutation v.stood (v.lanes ++ (v.released ++ v.left))
  -- Each event once. Else two equal events that were released could be covered by one that the sink took.
  pub once : (id lane : ℕ) → count_by (is_named id lane) v.stood ≤ 1
  -- Else an event that comes could have the id of an old one; and the release of nothing, up to id 0, would release.
  pub ids : All (λ x. (1 ≤ x.id) × (x.id ≤ v.last_id)) v.stood
  -- The law: what was released was taken ..
  pub released : AllIn v.released v.took
  -- .. and what was taken stood in the lanes.
  pub took : AllIn v.took v.stood
  -- Else the sink would take what never stood in the lanes.
  pub up : Each (IsOfStood v.stood) v.up
  -- Else the confirm of the last response would release other events than it holds.
  pub current : IsOfLanes false v.lanes v.stood v.last_id v.current
  -- Else that of the last report would.
  pub reported : IsOfLanes true v.lanes v.stood v.last_id v.reported

-- ---- commands

pub record Commands (is_open : Bool) (phase : Phase) (asked performed : List Command) : Type 0 where
  -- The law on operates.
  pub covered : IsCoveredBy performed asked
  -- As long as a request may still come for the first time, its commands were asked for over those performed. Else
  -- there would be none left to perform, and an OPERATE that comes again would act on another's account.
  pub pending : is_open ≡ true → (q : List ℕ) → phase ≡ Requested q → IsCoveredBy (commands_in q ++ performed) asked

-- ---- all of it

-- the law goes on from any link of which this holds
pub record CarriesLaw (l : LawLink) : Type 0 where
  pub rows : Events (inventory l)
  pub commands : Commands l.outstation.is_open l.phase l.asked l.performed
  pub solicited : l.outstation.is_open ≡ true → Solicited (conversation l)
  pub agrees : l.outstation.is_open ≡ true → l.master.is_open ≡ true → Agrees l.phase l.current l.master
  pub unsolicited : l.outstation.is_open ≡ true → Unsolicited (reporting_of l)

-- a link before its first opening: any lanes, nothing on the way, nothing taken
pub record IsFresh (l : LawLink) : Type 0 where
  pub closed : l.outstation.is_open ≡ false
  pub stood : l.stood ≡ l.lanes
  pub once : (id lane : ℕ) → count_by (is_named id lane) l.lanes ≤ 1
  pub ids : All (λ x. (1 ≤ x.id) × (x.id ≤ l.last_id)) l.lanes
  pub took : l.took ≡ []
  pub released : l.released ≡ []
  pub left : l.left ≡ []
  pub performed : l.performed ≡ []
  pub up : l.up ≡ []
  pub current : l.current ≡ nothing_sent
  pub reported : l.reported ≡ nothing_reported
