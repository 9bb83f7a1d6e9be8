-- Definition: what can happen to a link, in moves: each call of a station and each event of a line is a few of them. A fragment
-- that comes is the first of those that may come, and stays there, for it may come again; those before it that never
-- come are lost by a move of their own.
use Rattle.std.specs.Prelude.{◌≡◌, ℕ, ◌≤◌, ◌<◌, Bool, true, false, not, if◌then◌else◌, List, [], ◌∷◌, ◌++◌, drop, filter, map, Option, Some, None, IfSome, ◌⊎◌}
use Rattle.std.specs.List.Sorted.{IsPermutation}
use Rattle.dnp_objects.specs.declared.command.Command.{Command}
use Rattle.dnp_objects.specs.Counts.{IsCoveredBy}
use Rattle.dnp_eventbuf.specs.Buffered.{Buffered, buffered_row, id_limit, is_upto}
use Rattle.dnp_world.specs.Octets.{after, seq_in, uns_in, rows_in, commands_in}
use Rattle.dnp_world.specs.LawLink.{SentFragment, seq_of, con_of, fin_of, Down, Asks, Confirms, ConfirmsReport, Up, Responds, Reports, NothingSent, FirstSent, FurtherSent, LastRequest, Awaited, AwaitedReport, LawOutstation, LawMaster, Idle, Requested, Received, Responding, Continuing, LawLink}

-- ---- the lanes (IEEE Std 1815-2012, application layer: event buffers)

-- an event comes
abbrev pub appended : Buffered → LawLink → LawLink
appended x l = record l { lanes = l.lanes ++ x ∷ []; last_id = x.id; stood = l.stood ++ x ∷ [] }

-- events leave unconfirmed, and these stay
abbrev pub dropped : List Buffered → List Buffered → LawLink → LawLink
dropped stay gone l = record l { lanes = stay; left = l.left ++ gone }

-- a confirm releases the events up to the ids of its fragment
abbrev pub released : List ℕ → LawLink → LawLink
released upto l = record l {
  lanes = filter (λ x. not (is_upto upto x)) l.lanes;
  released = l.released ++ filter (is_upto upto) l.lanes;
}

-- ---- the connection (own rule: both ends start again, and both ways are cleared, in one step)

-- A connection begins as if a last response without events, and a last report, had been taken before it: number 15,
-- FIN, no CON.
abbrev pub nothing_sent : SentFragment
nothing_sent = record { octets = 207 ∷ 129 ∷ 0 ∷ 0 ∷ []; upto = []; rows = [] }

abbrev pub nothing_reported : SentFragment
nothing_reported = record { octets = 223 ∷ 130 ∷ 0 ∷ 0 ∷ []; upto = []; rows = [] }

abbrev pub opened : LawLink → LawLink
opened l = record l {
  outstation = record { is_open = true; last = None; awaited = None; report = None; next = 0 };
  master = record { is_open = true; is_busy = false; seq = 0 };
  down = [];
  up = [];
  phase = Idle;
  trigger = Confirms 14;
  current = nothing_sent;
  reported = nothing_reported;
}

-- an end that is closed may be anything else
abbrev pub with_master : LawMaster → LawLink → LawLink
with_master m l = record l { master = m }

abbrev pub with_outstation : LawOutstation → LawLink → LawLink
with_outstation o l = record l { outstation = o }

-- the first n of what may come never come: a clearing loses all, and a delivery those before the one that comes
abbrev pub lost_down : ℕ → LawLink → LawLink
lost_down n l = record l { down = drop n l.down }

abbrev pub lost_up : ℕ → LawLink → LawLink
lost_up n l = record l { up = drop n l.up }

-- ---- the master (IEEE Std 1815-2012, application layer: the master's side of a transaction)

abbrev pub asking : List ℕ → LawLink → LawLink
asking q l = record l {
  master = record l.master { is_busy = true };
  down = l.down ++ Asks q ∷ [];
  asked = l.asked ++ commands_in q;
  phase = Requested q;
}

-- the confirm of a fragment, where CON asks for one
abbrev pub confirm_of : SentFragment → Down → List Down
confirm_of f confirm = if con_of f then confirm ∷ [] else []

-- the sink takes the events of a response, and then its confirm is sent; after FIN the master is idle
abbrev pub taken : SentFragment → LawLink → LawLink
taken f l = record l {
  master = record l.master { is_busy = not (fin_of f); seq = after l.master.seq };
  down = l.down ++ confirm_of f (Confirms (seq_of f));
  took = l.took ++ f.rows;
  phase = if fin_of f then Idle else Continuing;
}

-- a report is taken at any time
abbrev pub report_taken : SentFragment → LawLink → LawLink
report_taken f l = record l { down = l.down ++ confirm_of f (ConfirmsReport (seq_of f)); took = l.took ++ f.rows }

-- ---- the outstation (IEEE Std 1815-2012, application layer: the outstation's side of a transaction)

-- the request isn't the last one again
abbrev pub IsOther : List ℕ → Option LastRequest → Type 0
IsOther q last = IfSome last (λ a. a.request ≡ q → ⊥)

-- a request came, and was executed: these commands were performed
abbrev pub received : List ℕ → List Command → LawLink → LawLink
received q commands l = record l {
  outstation = record l.outstation { last = Some (record { request = q; reply = NothingSent; more = false }); awaited = None };
  performed = l.performed ++ commands;
  phase = Received q;
}

-- the octets have this UNS, and hold the events in some order
pub record Says (uns : Bool) (f : SentFragment) : Type 0 where
  pub uns_is : uns_in f.octets ≡ uns
  pub rows_are : IsPermutation (rows_in f.octets) (map buffered_row f.rows)

-- a new fragment holds those events of the lanes that its ids reach
pub record IsOffered (uns : Bool) (lanes : List Buffered) (last_id : ℕ) (f : SentFragment) : Type 0 where
  pub limits : (lane : ℕ) → id_limit f.upto lane ≤ last_id
  pub rows : f.rows ≡ filter (is_upto f.upto) lanes
  pub says : Says uns f

-- what is awaited is the confirm of this fragment, if one is
abbrev pub MayAwait : SentFragment → Option Awaited → Type 0
MayAwait f awaited = IfSome awaited (λ w. (w.seq ≡ seq_of f) × (w.upto ≡ f.upto))

-- the first fragment of the response to q
abbrev pub responded : List ℕ → SentFragment → Bool → Option Awaited → LawLink → LawLink
responded q f more awaited l = record l {
  outstation = record l.outstation { last = Some (record { request = q; reply = FirstSent f.octets f.upto; more = more }); awaited = awaited };
  up = l.up ++ Responds f ∷ [];
  phase = Responding;
  trigger = Asks q;
  current = f;
}

-- a further fragment of it
abbrev pub continued : List ℕ → SentFragment → Bool → Option Awaited → LawLink → LawLink
continued q f more awaited l = record l {
  outstation = record l.outstation { last = Some (record { request = q; reply = FurtherSent; more = more }); awaited = awaited };
  up = l.up ++ Responds f ∷ [];
  phase = Responding;
  trigger = Confirms (seq_of l.current);
  current = f;
}

-- the first fragment again
abbrev pub repeated : Option Awaited → LawLink → LawLink
repeated awaited l = record l {
  outstation = record l.outstation { awaited = awaited };
  up = l.up ++ Responds l.current ∷ [];
}

abbrev pub confirmed : Awaited → LawLink → LawLink
confirmed w l = record (released w.upto l) { outstation = record l.outstation { awaited = None } }

abbrev pub report_confirmed : AwaitedReport → LawLink → LawLink
report_confirmed w l = record (released w.upto l) { outstation = record l.outstation { report = None } }

abbrev pub stopped_waiting : LawLink → LawLink
stopped_waiting l = record l { outstation = record l.outstation { awaited = None } }

abbrev pub report_sent : SentFragment → LawLink → LawLink
report_sent f l = record l {
  outstation = record l.outstation { report = Some (record { octets = f.octets; seq = seq_of f; upto = f.upto }); next = after l.outstation.next };
  up = l.up ++ Reports f ∷ [];
  reported = f;
}

abbrev pub report_repeated : LawLink → LawLink
report_repeated l = record l { up = l.up ++ Reports l.reported ∷ [] }

-- ---- the moves

-- from one link to another
pub data Move (old new : LawLink) : Type 0 where
  -- an event comes, under an id over all before
  Append : (x : Buffered) → old.last_id < x.id → new ≡ appended x old → Move old new
  -- events leave the lanes unconfirmed: a full lane's oldest, or all at a restart
  Drop : (stay gone : List Buffered) → IsPermutation old.lanes (stay ++ gone) → new ≡ dropped stay gone old → Move old new
  Open : new ≡ opened old → Move old new
  CloseMaster : (m : LawMaster) → m.is_open ≡ false → new ≡ with_master m old → Move old new
  CloseOutstation : (o : LawOutstation) → o.is_open ≡ false → new ≡ with_outstation o old → Move old new
  LoseDown : (n : ℕ) → new ≡ lost_down n old → Move old new
  LoseUp : (n : ℕ) → new ≡ lost_up n old → Move old new
  -- an idle master asks, with the number that it would ask with
  Ask : (q : List ℕ) → old.master.is_open ≡ true → old.master.is_busy ≡ false → seq_in q ≡ old.master.seq →
      new ≡ asking q old → Move old new
  -- a busy master takes a response with the number that it awaits
  Take : (f : SentFragment) (rest : List Up) → old.up ≡ Responds f ∷ rest → old.master.is_open ≡ true →
      old.master.is_busy ≡ true → seq_of f ≡ old.master.seq → new ≡ taken f old → Move old new
  TakeReport : (f : SentFragment) (rest : List Up) → old.up ≡ Reports f ∷ rest → new ≡ report_taken f old → Move old new
  -- a request comes that isn't the last one again; it performs commands of its own, each at most as often as it names it
  Receive : (q : List ℕ) (rest : List Down) (commands : List Command) → old.down ≡ Asks q ∷ rest →
      old.outstation.is_open ≡ true → IsOther q old.outstation.last → IsCoveredBy commands (commands_in q) →
      new ≡ received q commands old → Move old new
  -- the last request, for which nothing was sent, is answered, at once or later
  Respond : (q : List ℕ) (f : SentFragment) (was_more more : Bool) (awaited : Option Awaited) →
      old.outstation.last ≡ Some (record { request = q; reply = NothingSent; more = was_more }) →
      seq_of f ≡ seq_in q → IsOffered false old.lanes old.last_id f → (more ≡ true → fin_of f ≡ false) → MayAwait f awaited →
      new ≡ responded q f more awaited old → Move old new
  -- the last request came again, and its first fragment is sent again, as long as no further one was sent
  Repeat : (q octets upto : List ℕ) (more : Bool) (awaited : Option Awaited) →
      old.outstation.last ≡ Some (record { request = q; reply = FirstSent octets upto; more = more }) →
      (awaited ≡ old.outstation.awaited) ⊎ (awaited ≡ Some (record { seq = seq_in q; upto = upto })) →
      new ≡ repeated awaited old → Move old new
  -- a solicited confirm comes with the number that is awaited
  Confirm : (w : Awaited) (rest : List Down) → old.down ≡ Confirms w.seq ∷ rest → old.outstation.is_open ≡ true →
      old.outstation.awaited ≡ Some w → new ≡ confirmed w old → Move old new
  -- after it the response goes on, with the number that follows, where there is more to send
  Continue : (a : LastRequest) (rest : List Down) (f : SentFragment) (more : Bool) (awaited : Option Awaited) →
      old.down ≡ Confirms (seq_of old.current) ∷ rest → old.outstation.last ≡ Some a → a.more ≡ true →
      seq_of f ≡ after (seq_of old.current) → IsOffered false old.lanes old.last_id f → (more ≡ true → fin_of f ≡ false) →
      MayAwait f awaited → new ≡ continued a.request f more awaited old → Move old new
  -- an unsolicited confirm comes with the number of the report that is awaited
  ConfirmReport : (w : AwaitedReport) (rest : List Down) → old.down ≡ ConfirmsReport w.seq ∷ rest →
      old.outstation.is_open ≡ true → old.outstation.report ≡ Some w → new ≡ report_confirmed w old → Move old new
  -- the confirm of a response is given up
  StopWaiting : new ≡ stopped_waiting old → Move old new
  -- a report is sent where no other is awaited, with the next number
  StartReport : (f : SentFragment) → old.outstation.report ≡ None → seq_of f ≡ old.outstation.next →
      IsOffered true old.lanes old.last_id f → new ≡ report_sent f old → Move old new
  RepeatReport : (w : AwaitedReport) → old.outstation.report ≡ Some w → new ≡ report_repeated old → Move old new

-- the moves one after the other
pub data Moves (old : LawLink) : LawLink → Type 0 where
  Done : Moves old old
  Then : {next new : LawLink} → Moves old next → Move next new → Moves old new
