-- The calls of a master, over a link of real stations.
use Rattle.std.proofs.Common.{◌≡◌, ◌⊎◌, ℕ, ◌+◌, ◌%◌, ◌<◌, Bool, true, false, inl, inr, if◌then◌else◌, List, [], ◌∷◌, ◌++◌, map, Option, Result, Ok, Err, IfOk, option_to_list, refl, sym, ap, ◌∙◌, subst, append-nil, arith}
use Rattle.std.specs.List.{All}
use Rattle.std.proofs.lemmas.Bool.{both_ways}
use Rattle.std.proofs.lemmas.List.{map-append, drop-map}
use Rattle.std.proofs.lemmas.List.Elements.{All-nil, All-cons, All-append}
use Rattle.std.proofs.lemmas.List.Sorted.{IsPermutation-sym, IsPermutation-trans, IsPermutation-append_left}
use Rattle.dnp_objects.specs.declared.command.Command.{Command}
use Rattle.dnp_objects.specs.declared.row.Row.{Row}
use Rattle.dnp_appfragment.specs.Fragments.{request_octets}
use Rattle.dnp_eventbuf.specs.Buffered.{buffered_row}
use Rattle.dnp_line.specs.Flows.{MayGive, Nothing, One}
use Rattle.dnp_line.specs.Lines.{LineState}
use Rattle.dnp_line.specs.Ports.{PortState}
use Rattle.dnp_master.specs.declared.fault.AskFault.{AskFault}
use Rattle.dnp_master.specs.declared.fault.MasterFault.{MasterFault}
use Rattle.dnp_master.specs.declared.task.Task.{Task}
use Rattle.dnp_master.specs.Calls.{Taking, ask_answer, asked, receive_of, unheeded, confirm_for}
use Rattle.dnp_master.specs.Requests.{request_for}
use Rattle.dnp_master.specs.State as master
use Rattle.dnp_master.specs.LinkCalls.{Asks as MasterAsks, PassesOver, TakesReport, TakesResponse, control_in}
use Rattle.dnp_world.specs.Channels.{ChannelState}
use Rattle.dnp_world.specs.Joined.{Carries, Joined, Follows}
use Rattle.dnp_world.specs.LawLink.{Down, Asks, LawLink}
use Rattle.dnp_world.specs.MasterSeen.{MasterTakes, master_hung_up, with_master_of}
use Rattle.dnp_world.specs.Moves.{Move, Moves, LoseUp, lost_up, asking}
use Rattle.dnp_world.specs.Octets.{commands_in}
use Rattle.dnp_world.specs.OneLinkEvents.{LinkState, ComeUp, Receives, Takes, IsAsked, AsksBy, AsksIfOwn, is_own, master_gone}
use Rattle.dnp_world.specs.OutstationSeen.{down_of, octets_of}
use Rattle.dnp_world.specs.Standing.{CarriesLaw}
use Rattle.dnp_world.specs.steps.MoveLaws.{LineLaws, MasterLaws, MoveLaws}
use Rattle.dnp_world.proofs.AskedCommands.{own_asks_none}
use Rattle.dnp_world.proofs.JoinedOctets.{AreOctets, confirms_octets, asked_octets}
use Rattle.dnp_world.proofs.JoinedSteps.{shows_still, stays_as, moves_before, with_lines}
use Rattle.dnp_world.proofs.JoinedWays.{Came, IsSamePort, carries_still, carries_sent, carries_cleared, carries_mute, back_all_sent, back_came}
use Rattle.dnp_world.proofs.OutstationSteps.{one_move}

-- ---- what a fragment makes of a master

-- its number has four bits, what it sends is octets, and a closed one does nothing
record KeepsBounds (s : master.State) (t : Taking) : Type 0 where
  number : t.state.seq < 16
  octets : All AreOctets (option_to_list t.confirm)

confirm_octets : (s : master.State) (octets : List ℕ) (t : Taking) → t.confirm ≡ confirm_for (control_in octets)
    → All AreOctets (option_to_list t.confirm)
confirm_octets s octets t e =
    subst (λ (o : Option (List ℕ)). All AreOctets (option_to_list o)) (sym e) (confirms_octets (control_in octets) (omega arith))

keeps_bounds : (s : master.State) (octets : List ℕ) (t : Taking) → s.seq < 16
    → PassesOver s t ⊎ (TakesResponse s octets t ⊎ TakesReport s octets t) → KeepsBounds s t
keeps_bounds s octets t low h =
    elim h [
      | inl p ↦ record {
        number = subst (λ (x : master.State). x.seq < 16) (sym p.state) low;
        octets = subst (λ (o : Option (List ℕ)). All AreOctets (option_to_list o)) (sym p.confirm) (All-nil AreOctets);
      }
      | inr k ↦ elim k [
        | inl r ↦ (let follows : t.state.seq ≡ (s.seq + 1) % 16 = r.follows in
            record { number = omega (arith, follows); octets = confirm_octets s octets t r.confirm })
        | inr r ↦ record { number = subst (λ (x : master.State). x.seq < 16) (sym r.state) low; octets = confirm_octets s octets t r.confirm }
      ]
    ]

-- ---- it takes a fragment

-- what was sent down is what goes down
down_is : (ds after : List Down) (going confirms : List (List ℕ)) → ds ≡ map down_of going → after ≡ ds ++ map down_of confirms
    → after ≡ map down_of (going ++ confirms)
down_is ds after going confirms e f = f ∙ ap (λ (xs : List Down). xs ++ map down_of confirms) e ∙ sym (map-append down_of going confirms)

after_taking : {Sink : Type 0} → LineLaws → (takes : Sink → List Row → List Row → List Row → Sink → Type 0) (others : List Row)
    → (s new : LinkState Sink) (l : LawLink) (t : Taking)
    → KeepsBounds s.master t → (s.master.is_open ≡ false → t ≡ unheeded s.master)
    → Joined others s l → MasterTakes t l → Takes takes t s new → Follows others [] [] s.outstation.performed l new
after_taking {Sink = Sink} line takes others s new l t bounds quiet j m h =
    let was : ChannelState = s.channel in
    let is : ChannelState = new.channel in
    let link : LawLink = record l { master = m.link.master; down = m.link.down; took = m.link.took; phase = m.link.phase } in
    let after : LinkState Sink = record s {
      master = t.state;
      sink = new.sink;
      channel = record was { down = is.down; master_port = is.master_port };
      taken = s.taken ++ t.events;
    } in
    let confirms : List (List ℕ) = option_to_list t.confirm in
    let down : Carries is.down is.master_port was.outstation_port s.master.is_open (j.going_down ++ confirms) =
    carries_sent line confirms was.down is.down was.master_port is.master_port was.outstation_port s.master.is_open j.going_down
    (λ closed. ap (λ (x : Taking). option_to_list x.confirm) (quiet closed)) h.goes.sent j.down in
    let joined : Joined others after link = record {
      outstation = shows_still s.outstation l link refl refl refl j.outstation;
      master = m.master;
      number = bounds.number;
      going_down = j.going_down ++ confirms;
      down = carries_still is.down is.master_port was.outstation_port s.master.is_open t.state.is_open (j.going_down ++ confirms)
          (λ closed. ap (λ (x : Taking). x.state.is_open) (quiet closed) ∙ closed) down;
      down_is = down_is l.down m.link.down j.going_down confirms j.down_is m.down;
      octets = All-append AreOctets j.going_down confirms j.octets bounds.octets;
      up = back_all_sent line confirms was.down is.down was.up was.master_port is.master_port was.outstation_port s.outstation.core.is_open (map octets_of l.up)
          h.goes.sent j.up;
      taken = IsPermutation-trans (s.taken ++ t.events) (map buffered_row l.took ++ t.events) (map buffered_row m.link.took)
          (IsPermutation-append_left t.events s.taken (map buffered_row l.took) j.taken)
          (IsPermutation-sym (map buffered_row m.link.took) (map buffered_row l.took ++ t.events) m.took);
      released = j.released;
      left = j.left;
    } in
    record {
      link = link;
      moves = subst (λ (x : LawLink). Moves l x) m.same m.moves;
      joined = subst (λ (x : LinkState Sink). Joined others x link)
          (sym (h.after
          ∙ ap (λ (c : ChannelState). record s { master = t.state; sink = new.sink; channel = c; taken = s.taken ++ t.events }) h.goes.after)) joined;
      stood = sym (append-nil (map buffered_row l.stood));
      asked_is = sym (append-nil l.asked);
      commands = [];
      performed = ap (λ (x : LinkState Sink). x.outstation.performed) h.after ∙ sym (append-nil s.outstation.performed);
      performed_is = sym (append-nil l.performed);
    }

same_ok : (t x : Taking) → (let r : Result Taking MasterFault = Ok t in r) ≡ Ok x → t ≡ x
same_ok t x e = cc

after_receiving : {Sink : Type 0} → LineLaws → (takes : Sink → List Row → List Row → List Row → Sink → Type 0) (others : List Row)
    → (s new : LinkState Sink) (l : LawLink) (octets : List ℕ)
    (r : Result Taking MasterFault) → IfOk r (λ t. PassesOver s.master t ⊎ (TakesResponse s.master octets t ⊎ TakesReport s.master octets t))
    → (s.master.is_open ≡ false → r ≡ Ok (unheeded s.master)) → IfOk r (λ t. MasterTakes t l)
    → Joined others s l → Receives takes r s new → Follows others [] [] s.outstation.performed l new
after_receiving line takes others s new l octets (Ok t) which quiet m j h =
    after_taking line takes others s new l t (keeps_bounds s.master octets t j.number which) (λ closed. same_ok t (unheeded s.master) (quiet closed)) j m h
after_receiving line takes others s new l octets (Err fault) which quiet m j h =
    stays_as others l new s h j

pub came_up : {Sink : Type 0} → MoveLaws → (takes : Sink → List Row → List Row → List Row → Sink → Type 0) (others : List Row)
    → (s new : LinkState Sink) (l : LawLink)
    (line : LineState) (port : PortState) (given : List (List ℕ))
    → CarriesLaw l → (j : Joined others s l) → IsSamePort s.channel.master_port port
    → Came line s.channel.outstation_port port s.outstation.core.is_open (map octets_of l.up) given
    → ComeUp takes given (record s { channel = record s.channel { up = line; master_port = port } }) new → Follows others [] [] s.outstation.performed l new
came_up {Sink = Sink} laws takes others s new l line port given stands j same came h = by came.gives
  where
    base : LinkState Sink
    base = record s { channel = record s.channel { up = line; master_port = port } }

    down : Carries s.channel.down port s.channel.outstation_port s.master.is_open j.going_down
    down =
        back_came laws.line s.channel.down s.channel.master_port s.channel.outstation_port port s.master.is_open j.going_down
        same.same_ends same.number j.down

    by : MayGive (map octets_of l.up) [] came.left given → Follows others [] [] s.outstation.performed l new
    by (Nothing left_is none) =
        stays_as others l new base (subst (λ (fs : List (List ℕ)). ComeUp takes fs base new) none h)
        (with_lines others s l s.channel.down line s.channel.outstation_port port s.now j down
        (subst (λ (fs : List (List ℕ)). Carries line s.channel.outstation_port port s.outstation.core.is_open fs) left_is came.carries))
    by (One n fragment at left_is one) =
        let first : LawLink = lost_up n l in
        let lose : Move l first = LoseUp n refl in
        let joined : Joined others base first = record {
          outstation = shows_still s.outstation l first refl refl refl j.outstation;
          master = j.master;
          number = j.number;
          going_down = j.going_down;
          down = down;
          down_is = j.down_is;
          octets = j.octets;
          up = subst (λ (fs : List (List ℕ)). Carries line s.channel.outstation_port port s.outstation.core.is_open fs)
              (left_is ∙ drop-map octets_of n l.up) came.carries;
          taken = j.taken;
          released = j.released;
          left = j.left;
        } in
        moves_before others [] [] s.outstation.performed l first new (one_move l first lose) refl refl refl
        (after_receiving laws.line takes others base new first fragment (receive_of s.master s.now fragment) (laws.master.takes s.master s.now fragment)
        (laws.master.silent_receives s.master s.now fragment) (laws.master.came s.master s.now l n fragment stands j.master at).1 joined
        (subst (λ (fs : List (List ℕ)). ComeUp takes fs base new) one h))

-- ---- it asks

of_ok : (P : List ℕ → Type 0) (r : Result (List ℕ) AskFault) (octets : List ℕ) → r ≡ Ok octets → IfOk r P → P octets
of_ok P r octets e h = subst (λ (r : Result (List ℕ) AskFault). IfOk r P) e h

pub after_asking : {Sink : Type 0} → LineLaws → MasterLaws → (others : List Row) (s new : LinkState Sink) (l : LawLink) (task : Task) (octets : List ℕ)
    → AreOctets (request_octets (request_for s.master.seq task)) → Joined others s l
    → ask_answer s.master task ≡ Ok octets → IsAsked task octets s new → Follows others [] (commands_in octets) s.outstation.performed l new
after_asking {Sink = Sink} line laws others s new l task octets low j answer h =
    let was : ChannelState = s.channel in
    let is : ChannelState = new.channel in
    let m = laws.asks s.master s.now task octets l j.number j.master answer in
    let law : MasterAsks s.master task octets (asked s.master s.now task) =
    of_ok (λ octets. MasterAsks s.master task octets (asked s.master s.now task)) (ask_answer s.master task) octets answer (laws.asked s.master s.now task) in
    let link : LawLink = asking octets l in
    let after : LinkState Sink = record s {
      master = asked s.master s.now task;
      channel = record was { down = is.down; master_port = is.master_port };
    } in
    let down : Carries is.down is.master_port was.outstation_port s.master.is_open (j.going_down ++ octets ∷ []) =
    carries_sent line (octets ∷ []) was.down is.down was.master_port is.master_port was.outstation_port s.master.is_open j.going_down
    (λ closed. absurd (both_ways s.master.is_open closed law.was_open)) h.goes.sent j.down in
    let joined : Joined others after link = record {
      outstation = shows_still s.outstation l link refl refl refl j.outstation;
      master = m.1;
      number = subst (λ (n : ℕ). n < 16) (sym law.seq) j.number;
      going_down = j.going_down ++ octets ∷ [];
      down = carries_still is.down is.master_port was.outstation_port s.master.is_open (asked s.master s.now task).is_open (j.going_down ++ octets ∷ [])
          (λ closed. absurd (both_ways s.master.is_open closed law.was_open)) down;
      down_is = down_is l.down (l.down ++ Asks octets ∷ []) j.going_down (octets ∷ []) j.down_is (ap (λ (d : Down). l.down ++ d ∷ []) (sym m.2));
      octets = All-append AreOctets j.going_down (octets ∷ []) j.octets
          (All-cons AreOctets octets [] (subst AreOctets (sym law.octets_are) low) (All-nil AreOctets));
      up = back_all_sent line (octets ∷ []) was.down is.down was.up was.master_port is.master_port was.outstation_port s.outstation.core.is_open
          (map octets_of l.up) h.goes.sent j.up;
      taken = j.taken;
      released = j.released;
      left = j.left;
    } in
    record {
      link = link;
      moves = one_move l link m.0;
      joined = subst (λ (x : LinkState Sink). Joined others x link)
          (sym (h.after ∙ ap (λ (c : ChannelState). record s { master = asked s.master s.now task; channel = c }) h.goes.after)) joined;
      stood = sym (append-nil (map buffered_row l.stood));
      asked_is = refl;
      commands = [];
      performed = ap (λ (x : LinkState Sink). x.outstation.performed) h.after ∙ sym (append-nil s.outstation.performed);
      performed_is = sym (append-nil l.performed);
    }

asks_by : {Sink : Type 0} → MoveLaws → (others : List Row) (s new : LinkState Sink) (l : LawLink) (task : Task) (r : Result (List ℕ) AskFault)
    → ask_answer s.master task ≡ r
    → is_own task ≡ true → Joined others s l → AsksBy r task s new → Follows others [] [] s.outstation.performed l new
asks_by laws others s new l task (Ok octets) answer own j h =
    let law : MasterAsks s.master task octets (asked s.master s.now task) =
    of_ok (λ octets. MasterAsks s.master task octets (asked s.master s.now task)) (ask_answer s.master task) octets answer
    (laws.master.asked s.master s.now task) in
    subst (λ (asks : List Command). Follows others [] asks s.outstation.performed l new)
    (ap commands_in law.octets_are ∙ own_asks_none s.master.seq task own)
    (after_asking laws.line laws.master others s new l task octets (asked_octets s.master.seq task j.number own) j answer h)
asks_by laws others s new l task (Err fault) answer own j h = stays_as others l new s h j

asks_if : {Sink : Type 0} → MoveLaws → (others : List Row) (s new : LinkState Sink) (l : LawLink) (task : Task) (own : Bool) → is_own task ≡ own
    → Joined others s l → AsksIfOwn own task s new → Follows others [] [] s.outstation.performed l new
asks_if laws others s new l task true own j h = asks_by laws others s new l task (ask_answer s.master task) refl own j h
asks_if laws others s new l task false own j h = stays_as others l new s h j

pub asks_follow : {Sink : Type 0} → MoveLaws → (others : List Row) (s new : LinkState Sink) (l : LawLink) (task : Task)
    → Joined others s l → AsksIfOwn (is_own task) task s new → Follows others [] [] s.outstation.performed l new
asks_follow laws others s new l task j h = asks_if laws others s new l task (is_own task) refl j h

-- ---- it closes

pub tick_follows : {Sink : Type 0} → MoveLaws → (others : List Row) (s new : LinkState Sink) (l : LawLink) → Joined others s l
    → new ≡ record s { master = master.ticked s.master s.now } → Follows others [] [] s.outstation.performed l new
tick_follows {Sink = Sink} laws others s new l j h =
    let m : master.State = master.ticked s.master s.now in
    let link : LawLink = with_master_of m l in
    let after : LinkState Sink = record s { master = m } in
    let joined : Joined others after link = record {
      outstation = shows_still s.outstation l link refl refl refl j.outstation;
      master = refl;
      number = by_number (master.is_timed_out s.master s.now);
      going_down = j.going_down;
      down = carries_still s.channel.down s.channel.master_port s.channel.outstation_port s.master.is_open m.is_open j.going_down
          (by_open (master.is_timed_out s.master s.now)) j.down;
      down_is = j.down_is;
      octets = j.octets;
      up = j.up;
      taken = j.taken;
      released = j.released;
      left = j.left;
    } in
    record {
      link = link;
      moves = laws.master.ticked s.master s.now l j.master;
      joined = subst (λ (x : LinkState Sink). Joined others x link) (sym h) joined;
      stood = sym (append-nil (map buffered_row l.stood));
      asked_is = sym (append-nil l.asked);
      commands = [];
      performed = ap (λ (x : LinkState Sink). x.outstation.performed) h ∙ sym (append-nil s.outstation.performed);
      performed_is = sym (append-nil l.performed);
    }
  where
    by_number : (b : Bool) → (if b then master.closed s.master else s.master).seq < 16
    by_number true = omega arith
    by_number false = j.number

    by_open : (b : Bool) → s.master.is_open ≡ false → (if b then master.closed s.master else s.master).is_open ≡ false
    by_open true closed = refl
    by_open false closed = closed

pub master_goes : {Sink : Type 0} → MoveLaws → (others : List Row) (s new : LinkState Sink) (l : LawLink) → Joined others s l
    → new ≡ master_gone s → Follows others [] [] s.outstation.performed l new
master_goes {Sink = Sink} laws others s new l j h =
    let link : LawLink = master_hung_up s.master l in
    let joined : Joined others (master_gone s) link = record {
      outstation = shows_still s.outstation l link refl refl refl j.outstation;
      master = refl;
      number = omega arith;
      going_down = j.going_down;
      down = carries_mute laws.line s.channel.down s.channel.master_port s.channel.outstation_port s.master.is_open j.going_down j.down;
      down_is = j.down_is;
      octets = j.octets;
      up = carries_cleared laws.line s.channel.up s.channel.outstation_port s.channel.master_port s.outstation.core.is_open (map octets_of l.up) j.up;
      taken = j.taken;
      released = j.released;
      left = j.left;
    } in
    record {
      link = link;
      moves = laws.master.hung_up s.master l;
      joined = subst (λ (x : LinkState Sink). Joined others x link) (sym h) joined;
      stood = sym (append-nil (map buffered_row l.stood));
      asked_is = sym (append-nil l.asked);
      commands = [];
      performed = ap (λ (x : LinkState Sink). x.outstation.performed) h ∙ sym (append-nil s.outstation.performed);
      performed_is = sym (append-nil l.performed);
    }
