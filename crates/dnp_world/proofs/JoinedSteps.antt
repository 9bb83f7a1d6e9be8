-- The steps of an outstation, over a link of real stations.
use Rattle.std.proofs.Common.{◌≡◌, ℕ, suc, zero, ◌<◌, ◌^◌, Bool, false, List, [], ◌∷◌, ◌++◌, drop, map, Some, refl, sym, ap, ◌∙◌, subst, append_assoc, append-nil}
use Rattle.std.specs.Prelude.{slice_get}
use Rattle.std.specs.List.{All}
use Rattle.std.specs.List.Sorted.{IsPermutation}
use Rattle.std.proofs.lemmas.List.{map-append, drop-map}
use Rattle.std.proofs.lemmas.List.Elements.{All-drop, All-head}
use Rattle.std.proofs.lemmas.List.Sorted.{IsPermutation-trans, IsPermutation-append_left, IsPermutation-append_right, IsPermutation-append_comm}
use Rattle.std.proofs.lemmas.Option.{none-some, same_Some}
use Rattle.dnp_objects.specs.declared.command.Command.{Command}
use Rattle.dnp_objects.specs.declared.row.Row.{Row}
use Rattle.dnp_controls.specs.Panel.{Panel}
use Rattle.dnp_eventbuf.specs.Buffered.{Buffered, buffered_row}
use Rattle.dnp_line.specs.Flows.{MayGive, Nothing, One}
use Rattle.dnp_line.specs.Lines.{LineState}
use Rattle.dnp_line.specs.Ports.{PortState}
use Rattle.dnp_outstation.specs.Calls.{connection_after}
use Rattle.dnp_outstation.specs.State as outstation
use Rattle.dnp_outstation.specs.State.{Step, still}
use Rattle.dnp_world.specs.Channels.{ChannelState}
use Rattle.dnp_world.specs.Joined.{Carries, Joined, Follows}
use Rattle.dnp_world.specs.LawLink.{Down, LawLink}
use Rattle.dnp_world.specs.MasterSeen.{master_of}
use Rattle.dnp_world.specs.Moves.{Moves, Done, LoseDown, lost_down}
use Rattle.dnp_world.specs.OneLinkEvents.{LinkState, Steps, ComeDown}
use Rattle.dnp_world.specs.OutstationSeen.{down_of, octets_of, ShowOctets, Shows, Simulates}
use Rattle.dnp_world.specs.Standing.{CarriesLaw}
use Rattle.dnp_world.specs.steps.MoveLaws.{LineLaws, MoveLaws}
use Rattle.dnp_world.proofs.JoinedPoints.{received_leaves}
use Rattle.dnp_world.proofs.JoinedWays.{Came, carries_still, carries_sent, back_all_sent, back_came, IsSamePort}
use Rattle.dnp_world.proofs.Keeping.{move_stands}
use Rattle.dnp_world.proofs.OutstationSteps.{moves_after, one_move}

-- what is joined but for the outstation: whether it was open before, and what had left the lanes
pub record Beside {Sink : Type 0} (others listed : List Row) (s : LinkState Sink) (was_open : Bool) (l : LawLink) : Type 0 where
  pub master : l.master ≡ master_of s.master
  pub number : s.master.seq < 16
  pub going_down : List (List ℕ)
  pub down : Carries s.channel.down s.channel.master_port s.channel.outstation_port s.master.is_open going_down
  pub down_is : l.down ≡ map down_of going_down
  pub octets : All (All (λ octet. octet < 2 ^ 8)) going_down
  pub up : Carries s.channel.up s.channel.outstation_port s.channel.master_port was_open (map octets_of l.up)
  pub taken : IsPermutation s.taken (map buffered_row l.took)
  pub released : map buffered_row l.released ≡ s.released
  pub left : IsPermutation (map buffered_row l.left) (listed ++ others)

pub beside_of : {Sink : Type 0} (others left : List Row) (s : LinkState Sink) (l : LawLink) → Joined others s l
    → Beside others s.left (record s { left = left }) s.outstation.core.is_open l
beside_of others left s l j = record {
  master = j.master;
  number = j.number;
  going_down = j.going_down;
  down = j.down;
  down_is = j.down_is;
  octets = j.octets;
  up = j.up;
  taken = j.taken;
  released = j.released;
  left = j.left;
}

-- ---- what isn't of the stations changes

-- a line or a port, or the moment
pub with_lines : {Sink : Type 0} (others : List Row) (s : LinkState Sink) (l : LawLink) (down up : LineState) (outstation_port master_port : PortState)
    (now : ℕ) (j : Joined others s l) → Carries down master_port outstation_port s.master.is_open j.going_down
    → Carries up outstation_port master_port s.outstation.core.is_open (map octets_of l.up)
    → Joined others (record s { channel = record { down = down; up = up; outstation_port = outstation_port; master_port = master_port }; now = now }) l
with_lines others s l down up outstation_port master_port now j going_down going_up = record {
  outstation = j.outstation;
  master = j.master;
  number = j.number;
  going_down = j.going_down;
  down = going_down;
  down_is = j.down_is;
  octets = j.octets;
  up = going_up;
  taken = j.taken;
  released = j.released;
  left = j.left;
}

-- the sink, of which the law sees what it took and no more, the moment, or how the rows are listed
pub with_lists : {Sink : Type 0} (others listed : List Row) (s : LinkState Sink) (l : LawLink) (sink : Sink) (now : ℕ) (taken released left : List Row)
    → Joined others s l → IsPermutation taken (map buffered_row l.took) → map buffered_row l.released ≡ released
    → IsPermutation (map buffered_row l.left) (left ++ listed)
    → Joined listed (record s { sink = sink; now = now; taken = taken; released = released; left = left }) l
with_lists others listed s l sink now taken released left j is_taken is_released is_left = record {
  outstation = j.outstation;
  master = j.master;
  number = j.number;
  going_down = j.going_down;
  down = j.down;
  down_is = j.down_is;
  octets = j.octets;
  up = j.up;
  taken = is_taken;
  released = is_released;
  left = is_left;
}

-- a link with the same outstation and lanes
pub shows_still : (s : outstation.State) (l l' : LawLink) → l'.outstation ≡ l.outstation → l'.lanes ≡ l.lanes → l'.last_id ≡ l.last_id → Shows s l → Shows s l'
shows_still s l l' same lanes last_id shows = record {
  outstation = shows.outstation ∙ sym same;
  lanes = record { rows = lanes ∙ shows.lanes.rows; last_id = last_id ∙ shows.lanes.last_id };
  well = shows.well;
}

-- rows that leave go after those that left
pub left_behind : (all first others gone : List Row) → IsPermutation all (first ++ others)
    → IsPermutation (all ++ gone) ((first ++ gone) ++ others)
left_behind all first others gone h =
    let behind : IsPermutation (all ++ gone) ((first ++ others) ++ gone) = IsPermutation-append_left gone all (first ++ others) h in
    let turned : IsPermutation (first ++ (others ++ gone)) (first ++ (gone ++ others)) =
    IsPermutation-append_right first (others ++ gone) (gone ++ others) (IsPermutation-append_comm others gone) in
    IsPermutation-trans (all ++ gone) (first ++ (others ++ gone)) ((first ++ gone) ++ others)
    (subst (λ (xs : List Row). IsPermutation (all ++ gone) xs) (append_assoc first others gone) behind)
    (subst (λ (xs : List Row). IsPermutation (first ++ (others ++ gone)) xs) (sym (append_assoc first gone others)) turned)

-- ---- a step

pub after_step : {Sink : Type 0} → LineLaws → (others listed came : List Row) (s new : LinkState Sink) (was_open : Bool) (l : LawLink)
    → (step : Step)
    → s.left ≡ listed ++ step.does.overwritten
    → (was_open ≡ false → step.does.send ≡ []) → (was_open ≡ false → step.state.core.is_open ≡ false)
    → Beside others listed s was_open l → Simulates s.outstation came step l → Steps step s new
    → Follows others came [] s.outstation.performed l new
after_step {Sink = Sink} line others listed came s new was_open l step grown quiet closes b sim steps =
    let was : ChannelState = s.channel in
    let is : ChannelState = new.channel in
    let after : LinkState Sink = record s {
      outstation = step.state;
      channel = record was { up = is.up; outstation_port = is.outstation_port };
      released = s.released ++ step.does.discarded;
    } in
    let up_is : map octets_of sim.link.up ≡ map octets_of l.up ++ step.does.send =
    ap (map octets_of) sim.up ∙ map-append octets_of l.up sim.sent ∙ ap (λ (fs : List (List ℕ)). map octets_of l.up ++ fs) sim.octets in
    let up : Carries is.up is.outstation_port was.master_port was_open (map octets_of l.up ++ step.does.send) =
    carries_sent line step.does.send was.up is.up was.outstation_port is.outstation_port was.master_port was_open (map octets_of l.up) quiet
    steps.goes.sent b.up in
    let joined : Joined others after sim.link = record {
      outstation = sim.shows;
      master = sim.master.master ∙ b.master;
      number = b.number;
      going_down = b.going_down;
      down = back_all_sent line step.does.send was.up is.up was.down was.outstation_port is.outstation_port was.master_port s.master.is_open b.going_down
          steps.goes.sent b.down;
      down_is = sim.master.down ∙ b.down_is;
      octets = b.octets;
      up = subst (λ (fs : List (List ℕ)). Carries is.up is.outstation_port was.master_port step.state.core.is_open fs) (sym up_is)
          (carries_still is.up is.outstation_port was.master_port was_open step.state.core.is_open (map octets_of l.up ++ step.does.send) closes up);
      taken = subst (λ (xs : List Buffered). IsPermutation s.taken (map buffered_row xs)) (sym sim.master.took) b.taken;
      released = sim.released ∙ ap (λ (xs : List Row). xs ++ step.does.discarded) b.released;
      left = subst (λ (xs : List Row). IsPermutation (map buffered_row sim.link.left) (xs ++ others)) (sym grown)
          (subst (λ (xs : List Row). IsPermutation xs ((listed ++ step.does.overwritten) ++ others)) (sym sim.left)
          (left_behind (map buffered_row l.left) listed others step.does.overwritten b.left));
    } in
    record {
      link = sim.link;
      moves = sim.moves;
      joined = subst (λ (x : LinkState Sink). Joined others x sim.link)
          (sym (steps.after
          ∙ ap (λ (c : ChannelState). record s { outstation = step.state; channel = c; released = s.released ++ step.does.discarded }) steps.goes.after))
          joined;
      stood = sim.stood;
      asked_is = sim.master.asked ∙ sym (append-nil l.asked);
      commands = sim.commands;
      performed = ap (λ (x : LinkState Sink). x.outstation.performed) steps.after ∙ sim.performed;
      performed_is = sim.performed_seen;
    }

-- moves in front
pub moves_before : {Sink : Type 0} (others came : List Row) (asked before : List Command) (l first : LawLink) (new : LinkState Sink) → Moves l first
    → map buffered_row first.stood ≡ map buffered_row l.stood → first.asked ≡ l.asked → first.performed ≡ l.performed
    → Follows others came asked before first new → Follows others came asked before l new
moves_before others came asked before l first new moves same asks performs f = record {
  link = f.link;
  moves = moves_after l first f.link moves f.moves;
  joined = f.joined;
  stood = f.stood ∙ ap (λ (xs : List Row). xs ++ came) same;
  asked_is = f.asked_is ∙ ap (λ (xs : List Command). xs ++ asked) asks;
  commands = f.commands;
  performed = f.performed;
  performed_is = f.performed_is ∙ ap (λ (xs : List Command). xs ++ f.commands) performs;
}

-- nothing comes to the lanes, and no move is made
pub stays_as : {Sink : Type 0} (others : List Row) (l : LawLink) (new after : LinkState Sink) → new ≡ after → Joined others after l
    → Follows others [] [] after.outstation.performed l new
stays_as {Sink = Sink} others l new after e j = record {
  link = l;
  moves = Done;
  joined = subst (λ (x : LinkState Sink). Joined others x l) (sym e) j;
  stood = sym (append-nil (map buffered_row l.stood));
  asked_is = sym (append-nil l.asked);
  commands = [];
  performed = ap (λ (x : LinkState Sink). x.outstation.performed) e ∙ sym (append-nil after.outstation.performed);
  performed_is = sym (append-nil l.performed);
}

-- ---- a fragment comes down

-- the member at a place is the first of what is left there
pub left_at : {X : Type 0} (n : ℕ) (xs : List X) (x : X) → slice_get xs n ≡ Some x → drop n xs ≡ x ∷ drop (suc n) xs
left_at zero [] x e = absurd (none-some x e)
left_at zero (y ∷ xs) x e = let same : y ≡ x = same_Some y x e in ap (λ z. z ∷ xs) same
left_at (suc n) [] x e = absurd (none-some x e)
left_at (suc n) (y ∷ xs) x e = left_at n xs x e

-- a closed outstation does nothing
still_sends : (s : outstation.State) (step : Step) → step ≡ still s → step.does.send ≡ []
still_sends s step e = ap (λ (x : Step). x.does.send) e

still_closed : (s : outstation.State) (step : Step) → step ≡ still s → s.core.is_open ≡ false → step.state.core.is_open ≡ false
still_closed s step e closed = ap (λ (x : Step). x.state.core.is_open) e ∙ closed

-- a step that drops nothing, of an outstation that does nothing where it is closed
pub plain_step : {Sink : Type 0} → LineLaws → (others : List Row) (s new : LinkState Sink) (l : LawLink) (step : Step)
    → step.does.overwritten ≡ [] → (s.outstation.core.is_open ≡ false → step ≡ still s.outstation)
    → Joined others s l → Simulates s.outstation [] step l → Steps step s new → Follows others [] [] s.outstation.performed l new
plain_step line others s new l step none quiet j sim steps =
    after_step line others s.left [] s new s.outstation.core.is_open l step
    (sym (append-nil s.left) ∙ ap (λ (xs : List Row). s.left ++ xs) (sym none))
    (λ closed. still_sends s.outstation step (quiet closed)) (λ closed. still_closed s.outstation step (quiet closed) closed)
    (beside_of others s.left s l j) sim steps

-- what the port gives comes to the outstation
come_down : {Sink : Type 0} → MoveLaws → (panel : Panel) → ShowOctets panel → (others : List Row) (s new : LinkState Sink) (l : LawLink)
    → (fragment : List ℕ) (rest : List Down) → CarriesLaw l → Joined others s l
    → All (λ octet. octet < 2 ^ 8) fragment → l.down ≡ down_of fragment ∷ rest
    → Steps (connection_after s.outstation panel s.now fragment) s new → Follows others [] [] s.outstation.performed l new
come_down laws panel shown others s new l fragment rest stands j small down_is steps =
    plain_step laws.line others s new l (connection_after s.outstation panel s.now fragment)
    (received_leaves laws.points s.outstation panel s.now fragment).none
    (laws.outstation.silent_received s.outstation panel s.now fragment) j
    (laws.outstation.comes s.outstation panel s.now fragment l rest shown small j.outstation stands down_is) steps

pub came_down : {Sink : Type 0} → MoveLaws → (panel : Panel) → ShowOctets panel
    → (others : List Row) (s new : LinkState Sink) (l : LawLink) (line : LineState) (port : PortState)
    → (given : List (List ℕ))
    → CarriesLaw l → (j : Joined others s l) → IsSamePort s.channel.outstation_port port
    → Came line s.channel.master_port port s.master.is_open j.going_down given
    → ComeDown panel given (record s { channel = record s.channel { down = line; outstation_port = port } }) new
    → Follows others [] [] s.outstation.performed l new
came_down {Sink = Sink} laws panel shown others s new l line port given stands j same came h = by came.gives
  where
    base : LinkState Sink
    base = record s { channel = record s.channel { down = line; outstation_port = port } }

    up : Carries s.channel.up port s.channel.master_port s.outstation.core.is_open (map octets_of l.up)
    up =
        back_came laws.line s.channel.up s.channel.outstation_port s.channel.master_port port s.outstation.core.is_open (map octets_of l.up)
        same.same_ends same.number j.up

    by : MayGive j.going_down [] came.left given → Follows others [] [] s.outstation.performed l new
    by (Nothing left_is none) =
        stays_as others l new base (subst (λ (fs : List (List ℕ)). ComeDown panel fs base new) none h)
        (with_lines others s l line s.channel.up port s.channel.master_port s.now j
        (subst (λ (fs : List (List ℕ)). Carries line s.channel.master_port port s.master.is_open fs) left_is came.carries) up)
    by (One n fragment at left_is one) =
        let first : LawLink = lost_down n l in
        let there : drop n j.going_down ≡ fragment ∷ drop (suc n) j.going_down = left_at n j.going_down fragment at in
        let small : All (All (λ octet. octet < 2 ^ 8)) (fragment ∷ drop (suc n) j.going_down) =
        subst (λ (fs : List (List ℕ)). All (All (λ octet. octet < 2 ^ 8)) fs) there (All-drop (All (λ octet. octet < 2 ^ 8)) n j.going_down j.octets) in
        let stands_first : CarriesLaw first = move_stands l first (LoseDown n refl) stands in
        let joined : Joined others base first = record {
          outstation = shows_still s.outstation l first refl refl refl j.outstation;
          master = j.master;
          number = j.number;
          going_down = came.left;
          down = came.carries;
          down_is = ap (drop n) j.down_is ∙ drop-map down_of n j.going_down ∙ ap (map down_of) (sym left_is);
          octets = subst (λ (fs : List (List ℕ)). All (All (λ octet. octet < 2 ^ 8)) fs) (sym left_is)
              (All-drop (All (λ octet. octet < 2 ^ 8)) n j.going_down j.octets);
          up = up;
          taken = j.taken;
          released = j.released;
          left = j.left;
        } in
        let head : first.down ≡ down_of fragment ∷ map down_of (drop (suc n) j.going_down) =
        ap (drop n) j.down_is ∙ drop-map down_of n j.going_down ∙ ap (map down_of) there in
        moves_before others [] [] s.outstation.performed l first new (one_move l first (LoseDown n refl)) refl refl refl
        (come_down laws panel shown others base new first fragment (map down_of (drop (suc n) j.going_down)) stands_first joined
        (All-head (All (λ octet. octet < 2 ^ 8)) fragment (drop (suc n) j.going_down) small) head
        (subst (λ (fs : List (List ℕ)). ComeDown panel fs base new) one h))
